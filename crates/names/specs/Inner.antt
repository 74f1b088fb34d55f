-- What inner functions compute, and what proofs ask of names. No contract of a call that users make cites it.
use Rattle.std.specs.Prelude.{ℕ, ◌*◌, ◌/◌, ◌%◌, ◌≤◌, ◌<◌, Bool, cond, not, ◌&&◌, List, length, take, drop, get_or, eqb, ltb}
use Rattle.lists.specs.Lists.{All, every, eqbs}
use Rattle.rows.specs.Rows.{is_zero}
use Rattle.names.specs.Names.{unit_limit, valid_name}
use Rattle.names.specs.Words.{unit_words, name_width, name_words, name_of}

-- neither half of a word is 0
abbrev pub is_full : ℕ → Bool
is_full w = not (eqb (w % unit_limit) 0) && not (eqb (w / unit_limit % unit_limit) 0)

-- one unit in the low half of the first word, where there is one more, and zeros
abbrev pub rest_holds : ℕ → List ℕ → Bool
rest_holds odd ws =
    cond (eqb odd 0) (every is_zero ws)
    (not (eqb (get_or ws 0 0) 0) && (ltb (get_or ws 0 0) unit_limit && every is_zero (drop 1 ws)))

-- the words are the very words of a valid name: zeros behind its units
unfoldable pub holds_name : List ℕ → Bool
holds_name r = eqbs (take name_width r) (name_words (name_of r)) && valid_name (name_of r)

-- a name that words can hold: those of all words are such names
pub record NameFits (us : List ℕ) : Type 0 where
  pub short : length us ≤ 2 * unit_words
  pub units : All (λ u. u < unit_limit) us
