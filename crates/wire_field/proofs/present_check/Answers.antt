-- `present_check` meets its contract: the checks in the order of the definition; a field in its place lies within the message, so its part may
-- be taken.
use Rattle.wire_field.specs.Fields.{position_of}
use Rattle.refusal.proofs.AnswerLaws.{not_accepted, passed_on}
use Rattle.wire_field.proofs.FieldLaws.{in_place_law}
use Rattle.wire_field.proofs.PresentLaws.{out_of_place, bad_bytes, good_bytes, good_count, count_fits}
use native.Mathlib.Omega.{arith}
use mathlib.Core.Path.{refl, sym, ◌∙◌}
use lib.ListN.{length}
use Prim.Native.Nat.{◌+◌, ◌≤◌}
use Rattle.wire_field.proofs.present_check.Goals as goal

pub returns-in_err-place_check-clause-number : goal.returns-in_err-place_check-clause-number
returns-in_err-place_check-clause-number c =
    let e = c.in_err-place_check.ensures in
    λ kind. passed_on _ _ c.from_residual.ensures.1 (e ∙ out_of_place kind _ c.args.form _ _ _ refl (not_accepted _ e))

pub slice_bounds-check_form-end : goal.slice_bounds-check_form-end
slice_bounds-check_form-end c =
    let a = c.args in
    let h : (position_of a.offset).0 + a.size ≤ 4 + length a.rest.now =
    in_place_law _ a.fixed a.offset a.size (sym c.in_ok-place_check.ensures) in
    omega arith

pub overflow_cast-result : goal.overflow_cast-result
overflow_cast-result c =
    let a = c.args in
    let h = count_fits a.rest.now a.form a.offset.0 a.size (sym c.in-Some.is ∙ c.check_form.ensures) in
    omega arith

pub returns-in-Some-clause-number : goal.returns-in-Some-clause-number
returns-in-Some-clause-number c =
    λ kind. good_bytes kind _ c.args.form _ _ _ refl (sym c.in_ok-place_check.ensures) (sym c.in-Some.is ∙ c.check_form.ensures)

pub returns-in-Some-clause-characters : goal.returns-in-Some-clause-characters
returns-in-Some-clause-characters c =
    let a = c.args in
    λ kind. good_count kind a.rest.now a.form a.fixed a.offset a.size (sym c.in-Some.is ∙ c.check_form.ensures)

pub returns-in-None-clause-number : goal.returns-in-None-clause-number
returns-in-None-clause-number c =
    λ kind. bad_bytes kind _ c.args.form _ _ _ refl (sym c.in_ok-place_check.ensures) (sym c.in-None.is ∙ c.check_form.ensures)
