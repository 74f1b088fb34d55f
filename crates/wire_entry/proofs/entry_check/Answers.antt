-- `entry_check` meets its contract: each return is the first check that fails, or the checks of the fields.
use Rattle.wire_layout.specs.Layout.{entry_layout}
use Rattle.wire_layout.specs.Checks.{layout_no, layout_checks, ids_no}
use Rattle.wire_field.proofs.WholeLaws.{length_whole}
use Prim.Native.Nat.{◌+◌, ◌≤◌, ◌<◌}
use lib.ListN.{length}
use native.Mathlib.Omega.{arith}
use Rattle.refusal.proofs.CheckLaws.{tests}
use Rattle.wire_entry.proofs.entry_check.Goals as goal

pub returns-then-rest-fixed-clause-number : goal.returns-then-rest-fixed-clause-number
unfolding layout_no layout_checks entry_layout
returns-then-rest-fixed-clause-number c =
    let h : 4 + length c.args.rest.now < c.args.fixed.0 = omega arith in
    λ kind. rw (length_whole) (search (tests, arith))

pub returns-then-word_within-eq0-clause-number : goal.returns-then-word_within-eq0-clause-number
unfolding layout_no layout_checks ids_no entry_layout
returns-then-word_within-eq0-clause-number c =
    let h : c.args.fixed.0 ≤ 4 + length c.args.rest.now = omega arith in
    λ kind. rw (length_whole, ← c.word_within.ensures kind) (search (tests, arith))

pub returns-clause-number : goal.returns-clause-number
unfolding layout_no layout_checks ids_no entry_layout
returns-clause-number c =
    let h : c.args.fixed.0 ≤ 4 + length c.args.rest.now = omega arith in
    λ kind. rw (length_whole, ← c.word_within.ensures kind, ← c.entry_pairs.ensures.number kind) (search (tests, arith))
