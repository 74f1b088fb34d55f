-- Text in fields (paper 01, "Fields of varying length"; paper 02, A9), as tests and counts of the bytes that hold it.
use Rattle.std.specs.Prelude.{ℕ, ◌+◌, ◌*◌, ◌%◌, Bool, true, false, cond, ◌&&◌, List, [], ◌∷◌, length, eqb, ltb, Option, Some, None}
use Rattle.lists.specs.Lists.{without_last}
use Rattle.characters.specs.Characters.{characters}

abbrev pub is_empty : List ℕ → Bool
is_empty [] = true
is_empty (x ∷ xs) = false

-- bytes: there is a last, it is zero, and no other is
abbrev pub only_last_zero : List ℕ → Bool
only_last_zero [] = false
only_last_zero (x ∷ xs) = cond (eqb x 0) (is_empty xs) (only_last_zero xs)

-- the UTF-16 units of bytes
abbrev pub units : List ℕ → List ℕ
units [] = []
units (a ∷ []) = []
units (a ∷ (b ∷ bs)) = (a + 256 * b) ∷ units bs

-- units of 16 bits, which those of bytes always are: there is a last, it is zero, and no other is
abbrev pub ends_in_zero : List ℕ → Bool
ends_in_zero [] = false
ends_in_zero (u ∷ us) = cond (eqb u 0) (is_empty us) (ltb u 65536 && ends_in_zero us)

-- name and password: whole units, the last of them zero and the only zero
unfoldable pub is_text : List ℕ → Bool
is_text s = eqb (length s % 2) 0 && ends_in_zero (units s)

-- URL: the last byte is zero and the only zero
unfoldable pub is_url : List ℕ → Bool
is_url s = only_last_zero s

-- how many characters they have, the terminator left out; of a URL every byte is one
abbrev pub text_count : List ℕ → ℕ
text_count s = characters (without_last (units s))

abbrev pub url_count : List ℕ → ℕ
url_count s = length (without_last s)

-- what the check says: the count, and nothing of what is ill-formed
abbrev pub checked_text : Bool → ℕ → Option ℕ
checked_text good count = cond good (Some count) None

unfoldable pub text_check : List ℕ → Option ℕ
text_check s = checked_text (is_text s) (text_count s)

unfoldable pub url_check : List ℕ → Option ℕ
url_check s = checked_text (is_url s) (url_count s)
