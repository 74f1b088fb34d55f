-- `read_told` meets its contract: the number of what `read_in` answers.
use Rattle.snapshot.proofs.read_told.Goals as goal

pub returns : goal.returns
returns c = rw c.number_of.ensures c.read_in.ensures
