-- What only inner functions and proofs need. No contract of a call that users make cites it.
use Rattle.std.specs.Prelude.{ℕ, cond, Some, None}
use Rattle.wire_field.specs.declared.Offset.{Offset}
use Rattle.wire_field.specs.declared.Absence.{Absence}
use Rattle.wire_field.specs.Fields.{Field, position_of, absent_by}

-- the field that an offset and a size state, where its characters are known
abbrev pub field_with : Absence → Offset → ℕ → ℕ → Field
field_with rule o size n = cond (absent_by rule o size) None (Some (record { start = position_of o; size = size; characters = n }))
