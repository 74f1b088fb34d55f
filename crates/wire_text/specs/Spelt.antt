-- A text as its bytes, for worked cases.
use Rattle.std.specs.Prelude.{ℕ, ◌/◌, ◌%◌, List, [], ◌∷◌, ◌++◌}
use Rattle.lists.specs.Lists.{flat_map}

-- the bytes of a unit, low byte first
abbrev pub unit_bytes : ℕ → List ℕ
unit_bytes u = u % 256 ∷ u / 256 ∷ []

-- units and their terminator
abbrev pub text_of : List ℕ → List ℕ
text_of us = flat_map unit_bytes (us ++ (0 ∷ []))
