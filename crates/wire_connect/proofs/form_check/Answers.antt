-- `form_check` meets its contract: each return is the first check that fails, or the checks of the fields.
use mathlib.Core.Path.{◌∙◌}
use Rattle.refusal.proofs.AnswerLaws.{not_accepted, passed_on}
use Rattle.wire_layout.specs.Layout.{connect_layout}
use Rattle.wire_layout.specs.Checks.{layout_no, layout_checks, ids_no}
use Rattle.wire_field.proofs.WholeLaws.{length_whole}
use Prim.Native.Nat.{◌+◌, ◌≤◌, ◌<◌}
use lib.ListN.{length}
use native.Mathlib.Omega.{arith}
use Rattle.refusal.proofs.CheckLaws.{tests}
use Rattle.wire_connect.proofs.form_check.Goals as goal

pub returns-then-rest-fixed-clause-number : goal.returns-then-rest-fixed-clause-number
unfolding layout_no layout_checks connect_layout
returns-then-rest-fixed-clause-number c =
    let h : 4 + length c.args.rest.now < c.args.fixed.0 = omega arith in
    λ kind. rw (length_whole) (search (tests, arith))

pub returns-in_err-flags_check-clause-number : goal.returns-in_err-flags_check-clause-number
unfolding layout_no layout_checks ids_no connect_layout
returns-in_err-flags_check-clause-number c =
    let e = c.in_err-flags_check.ensures in
    let z = not_accepted _ e in
    let h : c.args.fixed.0 ≤ 4 + length c.args.rest.now = omega arith in
    λ kind. passed_on _ _ c.from_residual.ensures.1 (e ∙ rw (length_whole, ← c.word_within.ensures kind, z) (search (tests, arith)))

pub returns-clause-number : goal.returns-clause-number
unfolding layout_no layout_checks ids_no connect_layout
returns-clause-number c =
    let h : c.args.fixed.0 ≤ 4 + length c.args.rest.now = omega arith in
    λ kind.
    rw (length_whole, ← c.word_within.ensures kind, ← c.in_ok-flags_check.ensures, ← c.connect_pairs.ensures.number kind) (search (tests, arith))
