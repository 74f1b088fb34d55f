-- Text as bytes: fixed words, decimal numbers, and a text put into a lent buffer as far as it has room.
use Rattle.std.specs.Prelude.{◌≡◌, ℕ, zero, suc, ◌+◌, ◌-◌, ◌/◌, ◌%◌, cond, List, [], ◌∷◌, ◌++◌, length, take, eqb}
use Prim.Native.Char.{code}
use Prim.Native.String.{String, [] as none, ◌∷◌ as ◌then◌}
use Rattle.byte_words.specs.Bytes.{put}

-- the codes of a text's characters
unfoldable pub ascii : String → List ℕ
ascii none = []
ascii (c then s) = code c ∷ ascii s

-- the last k decimal digits of a number, the most significant first
abbrev pub decimal_digits : ℕ → ℕ → List ℕ
decimal_digits zero n = []
decimal_digits (suc k) n = decimal_digits k (n / 10) ++ ((48 + n % 10) ∷ [])

-- without the zeros in front; the last digit stays
abbrev pub trimmed : List ℕ → List ℕ
trimmed [] = []
trimmed (d ∷ []) = d ∷ []
trimmed (d ∷ (e ∷ ds)) = cond (eqb d 48) (trimmed (e ∷ ds)) (d ∷ (e ∷ ds))

-- a 32-bit number in decimal
unfoldable pub decimal : ℕ → List ℕ
decimal n = trimmed (decimal_digits 10 n)

-- a number after its name
unfoldable pub named : List ℕ → ℕ → List ℕ
named word n = word ++ decimal n

-- as much of a text as a buffer of that many bytes has room for from a place on
abbrev pub fitting : ℕ → ℕ → List ℕ → List ℕ
fitting room at s = take (room - at) s

-- a buffer with that from the place on; every other byte as it was
unfoldable pub written : List ℕ → ℕ → List ℕ → List ℕ
written d at s = put d at (fitting (length d) at s)

-- the place after it
unfoldable pub place_after_text : ℕ → ℕ → List ℕ → ℕ
place_after_text room at s = at + length (fitting room at s)

-- what a function does that puts a text into a buffer from a place on: the place that it answers, and the buffer after it
pub record Puts (before : List ℕ) (at : ℕ) (s : List ℕ) (after : List ℕ) (place : ℕ) : Type 0 where
  pub place_is : place ≡ place_after_text (length before) at s
  pub buffer_is : after ≡ written before at s
