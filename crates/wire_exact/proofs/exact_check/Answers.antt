-- `exact_check` meets its contract: each return is the first check that fails.
use Rattle.wire_layout.specs.Layout.{exact_layout}
use Rattle.wire_layout.specs.Checks.{layout_no, layout_checks, pairs_no}
use Rattle.wire_field.proofs.WholeLaws.{length_whole}
use Prim.Native.Nat.{◌+◌, ◌≤◌, ◌<◌}
use lib.ListN.{length}
use native.Mathlib.Omega.{arith}
use Rattle.refusal.proofs.CheckLaws.{tests}
use Rattle.wire_exact.proofs.exact_check.Goals as goal

pub returns-then-rest-after : goal.returns-then-rest-after
unfolding layout_no layout_checks exact_layout
returns-then-rest-after c =
    λ kind.
    let h : 4 + length c.args.rest.now < c.args.fixed.0 = omega arith in
    rw (length_whole) (search (tests, arith))

pub returns-then-after-rest : goal.returns-then-after-rest
unfolding layout_no layout_checks exact_layout
returns-then-after-rest c =
    λ kind.
    let h : c.args.fixed.0 < 4 + length c.args.rest.now = omega arith in
    let k : c.args.fixed.0 ≤ 4 + length c.args.rest.now = omega arith in
    rw (length_whole) (search (tests, arith))

pub returns : goal.returns
unfolding layout_no layout_checks pairs_no exact_layout
returns c =
    λ kind.
    let h : 4 + length c.args.rest.now ≤ c.args.fixed.0 = omega arith in
    let k : c.args.fixed.0 ≤ 4 + length c.args.rest.now = omega arith in
    rw (length_whole, ← c.ids_check.ensures kind) (search (tests, arith))
