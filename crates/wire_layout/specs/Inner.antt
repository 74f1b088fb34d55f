-- What only inner functions and proofs need. No public contract cites it.
use Rattle.std.specs.Prelude.{ℕ, ◌+◌, List}
use Rattle.wire_field.specs.Words.{word}
use Rattle.wire_field.specs.Fields.{Field}
use Rattle.wire_field.specs.Inner.{field_with}
use Rattle.wire_field.specs.declared.Absence.{Absence}

-- the field whose offset stands at p and its size right after it, where its characters are known
unfoldable pub field_of : Absence → List ℕ → ℕ → ℕ → Field
field_of rule m p n = field_with rule (record { 0 = word m p }) (word m (p + 4)) n
