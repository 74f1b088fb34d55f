-- `hold` meets its contract: the row is put over that of its place.
use Rattle.replica.proofs.HoldLaws.{hold_law}
use Rattle.replica.proofs.hold.Goals as goal

pub returns : goal.returns
returns c =
    hold_law c.args.w.now c.args.k c.put.new.s c.args.row.now c.requires.0 c.requires.1 c.told-row c.put.ensures
