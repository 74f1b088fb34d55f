-- `close_gap` meets its contract: the words behind the gap are moved, and the end is cleared.
use native.Mathlib.Omega.{arith}
use Rattle.rows.proofs.MoveLaws.{close_law}
use Rattle.rows.proofs.close_gap.Goals as goal

pub returns : goal.returns
returns c =
    close_law c.args.s.now c.copy_within.new.self c.clear.new.s c.args.at c.args.gap (omega (arith, c.requires)) c.copy_within.ensures.after c.clear.ensures
