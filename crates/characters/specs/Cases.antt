-- Worked cases of the count (paper 02, A9).
use Rattle.std.specs.Prelude.{◌≡◌, ℕ, Bool, true, List, [], ◌∷◌, replicate, eqb}
use Rattle.lists.specs.Lists.{every}
use Rattle.characters.specs.Characters.{characters}

pub record Case : Type 0 where
  pub units : List ℕ
  pub count : ℕ

abbrev case : List ℕ → ℕ → Case
case us n = record { units = us; count = n }

unfoldable pub cases : List Case
cases =
    case [] 0
    ∷ case (0x42 ∷ 0x6F ∷ 0x62 ∷ []) 3
    -- a pair, and the ends of both ranges
    ∷ case (0xD83D ∷ 0xDE00 ∷ []) 1
    ∷ case (0xD800 ∷ 0xDC00 ∷ []) 1
    ∷ case (0xDBFF ∷ 0xDFFF ∷ []) 1
    -- right outside them
    ∷ case (0xD7FF ∷ 0xDC00 ∷ []) 2
    ∷ case (0xDC00 ∷ 0xDC00 ∷ []) 2
    ∷ case (0xD800 ∷ 0xDBFF ∷ []) 2
    ∷ case (0xDBFF ∷ 0xE000 ∷ []) 2
    -- a half alone, at the end, in front of another character, and behind a pair
    ∷ case (0xD83D ∷ []) 1
    ∷ case (0xDE00 ∷ []) 1
    ∷ case (0xD83D ∷ 0x42 ∷ []) 2
    ∷ case (0xD83D ∷ 0xD83D ∷ 0xDE00 ∷ []) 2
    ∷ case (0xD83D ∷ 0xDE00 ∷ 0xDE00 ∷ []) 2
    -- low then high
    ∷ case (0xDE00 ∷ 0xD83D ∷ []) 2
    -- low, then high and low
    ∷ case (0xDE00 ∷ 0xD83D ∷ 0xDE00 ∷ []) 2
    ∷ case (0xD83D ∷ 0xDE00 ∷ 0xD83D ∷ 0xDE00 ∷ []) 2
    ∷ case (replicate 31 0xD83D) 31
    ∷ []

abbrev pub holds : Case → Bool
holds c = eqb (characters c.units) c.count

-- the statement: each case has its count
abbrev pub CasesHold : Type 0
CasesHold = every holds cases ≡ true
