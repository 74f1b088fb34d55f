-- `all_distinct` meets its contract: what the test says of the rows that are left is what it says of all.
use mathlib.Core.Path.{sym, ◌∙◌}
use Prim.Native.Nat.{◌-◌}
use native.Mathlib.Omega.{arith}
use Rattle.rows.specs.Rows.{word_in}
use Rattle.rows.proofs.PlaceLaws.{Behind, behind_row, behind_row_law, rest_fits, distinct_next, distinct_none}
use Rattle.rows.proofs.all_distinct.Goals as goal

pub returns-then-has_word : goal.returns-then-has_word
returns-then-has_word c =
    let a = c.args in let l = c.loop-k in let r = l.rest.now in
    let b : Behind a.width l.k r (l.k - 1) (behind_row a.width r) = (behind_row_law a.width r, omega arith) in
    sym (l.invariant.1 ∙ distinct_next (word_in a.c) a.width l.k r (l.k - 1) (behind_row a.width r) b ∙ rw (← c.has_word.ensures, c.if-has_word.true))

pub loop-k-preserved : goal.loop-k-preserved
loop-k-preserved c =
    let a = c.args in let l = c.loop-k in let r = l.rest.now in
    let b : Behind a.width l.k r (l.k - 1) (behind_row a.width r) = (behind_row_law a.width r, omega arith) in (
      rest_fits a.width l.k r (omega arith) l.invariant.0,
      l.invariant.1 ∙ distinct_next (word_in a.c) a.width l.k r (l.k - 1) (behind_row a.width r) b ∙ rw (← c.has_word.ensures, c.if-has_word.false),
    )

pub returns : goal.returns
returns c = let a = c.args in let l = c.loop-k in sym (l.invariant.1 ∙ distinct_none (word_in a.c) a.width l.k l.rest.now (omega arith))
