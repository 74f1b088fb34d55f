-- `rows_valid` meets its contract: what the test says of the rows that are left is what it says of all.
use mathlib.Core.Path.{◌≡◌, ap, sym, ◌∙◌}
use Prim.Native.Nat.{ℕ, ◌+◌}
use native.Mathlib.Omega.{arith}
use mathlib.Core.Bool.{true, false, ◌&&◌}
use mathlib.Core.List.{List, ◌∷◌}
use lib.ListN.{take}
use Rattle.std.proofs.lemmas.List.{length_push}
use Rattle.table_words.specs.Layout.{operation_width, window_size}
use Rattle.table_window.specs.Inner.{row_valid}
use Rattle.rows.proofs.EachLaws.{left_all, left_next, left_found, left_none}
use Rattle.table_window.proofs.WindowLaws.{all_valid, valid_rows, row_valid_cut}
use Rattle.table_window.proofs.rows_valid.Goals as goal

next : (v : ℕ) (x y : List ℕ) (ys : List (List ℕ)) → take operation_width y ≡ x → all_valid v (y ∷ ys) ≡ (row_valid v x && all_valid (v + 1) ys)
unfolding all_valid
next v x y ys h = rw (sym (row_valid_cut v y) ∙ ap (row_valid v) h)

pub loop-row-init : goal.loop-row-init
loop-row-init c =
    let v = c.args.version + 2 in
    let rows = rw (c.new.ensures.0, c.new.ensures.1) at c.each-row-items.ensures.rows in (
      omega (arith, c.wide-v.ensures),
      rw (c.wide-v.ensures, ← valid_rows v window_size c.args.s.now) (left_all (all_valid v) rows c.into_iter-row-iterator.ensures.into_iter_gives),
    )

pub returns-then-not-row_valid : goal.returns-then-not-row_valid
returns-then-not-row_valid c =
    let l = c.loop-row in let x = c.in-Some.row in
    let e : row_valid l.v x.now ≡ false = sym c.row_valid.ensures ∙ c.if-not-row_valid.true in
    left_found l.invariant.1 c.next.new.self x c.in-Some.ensures.steps false (λ y ys h. next l.v x.now y ys h ∙ rw e)

pub loop-row-preserved : goal.loop-row-preserved
loop-row-preserved c =
    let l = c.loop-row in let x = c.in-Some.row in
    let e : row_valid l.v x.now ≡ true = sym c.row_valid.ensures ∙ c.if-not-row_valid.false in (
      omega (arith, l.invariant.0, length_push l.yielded x),
      left_next l.invariant.1 c.next.new.self x c.in-Some.ensures.steps (all_valid (l.v + 1)) (λ y ys h. next l.v x.now y ys h ∙ rw e),
    )

pub returns : goal.returns
unfolding all_valid
returns c = left_none c.loop-row.invariant.1 c.next.new.self c.in-None.ensures.steps
