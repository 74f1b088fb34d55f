-- A message and its numbers (paper 01, "What the station covers": little-endian). Positions count from the message's first byte.
use Rattle.std.specs.Prelude.{ℕ, List, ◌++◌}
use Rattle.byte_words.specs.Bytes.{little, word_at, bytes_of}

-- the bytes of the type word, which stands first
abbrev pub type_word : ℕ
type_word = 4

-- the message of a type word and the part after it
unfoldable pub whole : ℕ → List ℕ → List ℕ
whole kind rest = bytes_of little type_word kind ++ rest

-- the word at a position
abbrev pub word : List ℕ → ℕ → ℕ
word m p = word_at little m p
