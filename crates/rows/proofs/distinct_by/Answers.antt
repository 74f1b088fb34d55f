-- `distinct_by` meets its contract: the rows that are left answer for all as long as no hint is too far ahead.
use mathlib.Core.Path.{◌≡◌, sym}
use Prim.Native.Nat.{◌+◌, ◌-◌}
use native.Mathlib.Omega.{arith}
use Rattle.lists.specs.Lists.{distinct}
use Rattle.rows.specs.Rows.{places, word_in, hint_for}
use Rattle.rows.proofs.PlaceLaws.{Behind, behind_row, behind_row_law, rest_fits}
use Rattle.rows.proofs.HintLaws.{left_end, left_found, left_next}
use Rattle.rows.proofs.distinct_by.Goals as goal

pub returns-then-stands_again : goal.returns-then-stands_again
returns-then-stands_again c =
    let a = c.args in let l = c.loop-k in let r = l.rest.now in
    let b : Behind a.width l.k r (l.k - 1) (behind_row a.width r) = (behind_row_law a.width r, omega arith) in
    let e : l.k - 1 + 1 ≡ l.k = omega arith in let s = rw e at c.stands_again.ensures in
    sym (left_found (hint_for a.hints.now) a.c a.width l.k r (distinct (word_in a.c) (places a.width a.count a.s.now)) l.invariant.1
    (l.k - 1) (behind_row a.width r) b c.hint-p.result c.stands_again.result c.hint-p.ensures s c.if-stands_again.true)

pub loop-k-preserved : goal.loop-k-preserved
loop-k-preserved c =
    let a = c.args in let l = c.loop-k in let r = l.rest.now in
    let b : Behind a.width l.k r (l.k - 1) (behind_row a.width r) = (behind_row_law a.width r, omega arith) in
    let e : l.k - 1 + 1 ≡ l.k = omega arith in let s = rw e at c.stands_again.ensures in (
      rest_fits a.width l.k r (omega arith) l.invariant.0,
      left_next (hint_for a.hints.now) a.c a.width l.k r (distinct (word_in a.c) (places a.width a.count a.s.now)) l.invariant.1
          (l.k - 1) (behind_row a.width r) b c.hint-p.result c.stands_again.result c.hint-p.ensures s (omega arith) c.if-stands_again.false,
    )

pub returns : goal.returns
returns c =
    let a = c.args in let l = c.loop-k in
    sym (left_end (hint_for a.hints.now) a.c a.width l.k l.rest.now (distinct (word_in a.c) (places a.width a.count a.s.now)) l.invariant.1 (omega arith))
