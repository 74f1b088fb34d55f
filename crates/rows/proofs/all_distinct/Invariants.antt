-- `all_distinct` meets its contract: what the test says of the rows that are left is what it says of all.
use mathlib.Core.Path.{◌≡◌}
use Prim.Native.Nat.{◌*◌, ◌≤◌}
use lib.ListN.{length}
use Rattle.lists.specs.Lists.{distinct}
use Rattle.rows.specs.Rows.{places, word_in}
use Rattle.rows.proofs.all_distinct.Given as goal

abbrev pub invariant-loop-k : goal.invariant-loop-k
invariant-loop-k l = (l.width * l.k ≤ length l.rest) × (distinct (word_in l.c) (places l.width l.count l.s) ≡ distinct (word_in l.c) (places l.width l.k l.rest))
