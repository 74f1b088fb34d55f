-- The ids of a message of fixed length, as the list of a layout.
use Rattle.std.specs.Prelude.{ℕ, ◌≤◌, List, [], ◌∷◌, map}
use Rattle.wire_field.specs.Words.{type_word}
use Rattle.wire_field.specs.declared.Position.{Position}

abbrev pub ids_of : List Position → List ℕ
ids_of ps = map (λ (p : Position). p.0) ps

-- they stand after the type word
abbrev pub IdsAfter : List Position → Type 0
IdsAfter [] = Unit {0}
IdsAfter (p ∷ ps) = (type_word ≤ p.0) × IdsAfter ps
