-- `distinct_by` meets its contract: the rows that are left answer for all as long as no hint is too far ahead.
use Prim.Native.Nat.{◌*◌, ◌≤◌}
use lib.ListN.{length}
use Rattle.lists.specs.Lists.{distinct}
use Rattle.rows.specs.Rows.{places, word_in, hint_for}
use Rattle.rows.proofs.HintLaws.{Left}
use Rattle.rows.proofs.distinct_by.Given as goal

abbrev pub invariant-loop-k : goal.invariant-loop-k
invariant-loop-k l = (l.width * l.k ≤ length l.rest) × Left (hint_for l.hints) l.c l.width l.k l.rest (distinct (word_in l.c) (places l.width l.count l.s))
