-- What a message states of a pair's field (paper 01, "Fields of varying length"; paper 02, A1).
use Rattle.std.specs.Prelude.{◌≡◌, ℕ, ◌+◌, Bool, ◌||◌, List, eqb}
use Rattle.wire_field.specs.Words.{word}
use Rattle.wire_layout.specs.Layout.{Pair}

abbrev pub offset_stated : List ℕ → Pair → ℕ
offset_stated m p = word m p.position

abbrev pub size_stated : List ℕ → Pair → ℕ
size_stated m p = word m (p.position + 4)

-- one of the two is 0, or both
abbrev pub has_zero : List ℕ → Pair → Bool
has_zero m p = eqb (offset_stated m p) 0 || eqb (size_stated m p) 0

-- both are 0, or none
abbrev pub ZeroTogether : List ℕ → Pair → Type 0
ZeroTogether m p = eqb (offset_stated m p) 0 ≡ eqb (size_stated m p) 0
