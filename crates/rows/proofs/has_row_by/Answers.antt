-- `has_row_by` meets its contract: the row that the hint names is one of the rows, and the others are searched.
use mathlib.Core.Path.{ap, sym, ◌∙◌}
use Prim.Native.Nat.{◌-◌, ◌*◌}
use native.Mathlib.Omega.{arith}
use Rattle.rows.specs.Rows.{words_are}
use Rattle.rows.proofs.PlaceLaws.{behind_row_law}
use Rattle.rows.proofs.HintLaws.{any_at}
use Rattle.rows.proofs.has_row_by.Goals as goal

pub returns-then-is_row : goal.returns-then-is_row
returns-then-is_row c =
    let a = c.args in let at = a.width * (a.count - c.hint-p.result) in
    let t = words_are a.c a.a a.d a.b in
    sym (any_at t a.width a.count (a.count - c.hint-p.result) a.s.now (omega arith)
    (ap t (sym (behind_row_law at a.s.now)) ∙ sym c.is_row.ensures ∙ c.if-is_row.true))
