-- A name in a row of words: its length, then its units, two a word, the first in the low half; zeros behind them.
use Rattle.std.specs.Prelude.{ℕ, zero, suc, ◌+◌, ◌*◌, ◌/◌, ◌%◌, List, [], ◌∷◌, length, take, drop, get_or}
use Rattle.names.specs.Names.{unit_limit}

-- words of units, and of a name with its length
abbrev pub unit_words : ℕ
unit_words = 16

abbrev pub name_width : ℕ
name_width = 1 + unit_words

-- the first units in k words, two in each; past the last one 0
abbrev pub paired : ℕ → List ℕ → List ℕ
paired zero us = []
paired (suc k) us = (get_or us 0 0 + unit_limit * get_or us 1 0) ∷ paired k (drop 2 us)

-- the two halves of each word
abbrev pub halves : List ℕ → List ℕ
halves [] = []
halves (w ∷ ws) = w % unit_limit ∷ w / unit_limit % unit_limit ∷ halves ws

unfoldable pub name_words : List ℕ → List ℕ
name_words us = length us ∷ paired unit_words us

-- the name that words hold
unfoldable pub name_of : List ℕ → List ℕ
name_of r = take (get_or r 0 0) (halves (take unit_words (drop 1 r)))
