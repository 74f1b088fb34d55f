-- How many characters UTF-16 units have (paper 02, A9), whatever holds them: a field of a message, or the name of an entry.
use Rattle.std.specs.Prelude.{ℕ, ◌+◌, ◌*◌, ◌≤◌, Bool, cond, ◌&&◌, List, [], ◌∷◌, length, leb}

-- the halves of a character outside the basic plane
abbrev pub is_high : ℕ → Bool
is_high u = leb 0xD800 u && leb u 0xDBFF

abbrev pub is_low : ℕ → Bool
is_low u = leb 0xDC00 u && leb u 0xDFFF

-- a high half followed by a low half is one, and every other unit is one, a half alone included
abbrev pub characters : List ℕ → ℕ
characters [] = 0
characters (u ∷ []) = 1
characters (u ∷ (v ∷ us)) = 1 + cond (is_high u && is_low v) (characters us) (characters (v ∷ us))

-- the statement: at most one a unit, and at least one for two
pub record CountBounds (us : List ℕ) : Type 0 where
  pub most : characters us ≤ length us
  pub least : length us ≤ 2 * characters us
