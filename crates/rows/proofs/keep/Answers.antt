-- `keep` meets its contract: a row that passes is left out, any other moves down, or stays where it is.
use mathlib.Core.Path.{◌≡◌, refl, ap, sym, ◌∙◌}
use mathlib.Core.Bool.{false}
use Prim.Native.Nat.{ℕ, ◌+◌, ◌-◌}
use native.Mathlib.Omega.{arith}
use lib.ListN.{drop}
use Rattle.rows.specs.Rows.{moved, words_are}
use Rattle.rows.proofs.PlaceLaws.{behind_row_law}
use Rattle.rows.proofs.MoveLaws.{moved_nowhere}
use Rattle.rows.proofs.keep.Goals as goal

pub returns-then-to-from : goal.returns-then-to-from
returns-then-to-from c =
    let a = c.args in
    let e : words_are a.c a.a a.d a.b (drop a.from a.s.now) ≡ false =
    ap (words_are a.c a.a a.d a.b) (sym (behind_row_law a.from a.s.now)) ∙ sym c.is_row.ensures ∙ c.if-is_row.false in
    rw e (refl, sym (moved_nowhere a.s.now a.to a.from a.width c.if-to-from.true))

pub returns : goal.returns
returns c =
    let a = c.args in
    let e : words_are a.c a.a a.d a.b (drop a.from a.s.now) ≡ false =
    ap (words_are a.c a.a a.d a.b) (sym (behind_row_law a.from a.s.now)) ∙ sym c.is_row.ensures ∙ c.if-is_row.false in
    let n : a.from + a.width - a.from ≡ a.width = omega arith in
    rw e (refl, c.copy_within.ensures.after ∙ ap (λ (m : ℕ). moved a.s.now a.to a.from m) n)
