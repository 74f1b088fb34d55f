-- `ids_check` meets its contract: what the check says of the ids from here on is what it says of all.
use Rattle.std.proofs.Common.{◌≡◌, ℕ, drop}
use Rattle.wire_field.specs.Words.{whole}
use Rattle.wire_layout.specs.Checks.{ids_no}
use Rattle.wire_exact.specs.Ids.{ids_of}
use Rattle.wire_exact.proofs.ids_check.Given as goal

abbrev pub invariant-loop-id : goal.invariant-loop-id
invariant-loop-id l = (kind : ℕ) → ids_no (whole kind l.rest) (ids_of (drop l.id-index l.ids)) ≡ ids_no (whole kind l.rest) (ids_of l.ids)
