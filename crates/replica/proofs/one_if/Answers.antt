-- `one_if` meets its contract: by cases on the test.
use Rattle.lists.specs.Lists.{bit}
use Rattle.replica.proofs.one_if.Goals as goal

pub returns-then-b : goal.returns-then-b
unfolding bit
returns-then-b c = rw c.if-b.true

pub returns-else-b : goal.returns-else-b
unfolding bit
returns-else-b c = rw c.if-b.false
