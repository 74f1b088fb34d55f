-- The characters of a name that is kept (paper 02, A3 and A9): those of its field unless it was cut, and a half that the cut left alone is one.
use Rattle.std.specs.Prelude.{◌≡◌, ℕ, ◌≤◌, Bool, true, ◌&&◌, List, [], ◌∷◌, ◌++◌, length, replicate, eqb}
use Rattle.lists.specs.Lists.{every, flat_map, without_last}
use Rattle.characters.specs.Characters.{characters}
use Rattle.wire_text.specs.Text.{units, text_count}
use Rattle.wire_text.specs.Spelt.{text_of}
use Rattle.names.specs.Names.{max_name}
use Rattle.operations.specs.Received.{kept_name}

-- units, the characters of a field that has them, and of the name that is kept of it
pub record Case : Type 0 where
  pub units : List ℕ
  pub field : ℕ
  pub kept : ℕ

abbrev pub pair : List ℕ
pair = 0xD83D ∷ 0xDE00 ∷ []

unfoldable pub cases : List Case
cases =
    record { units = []; field = 0; kept = 0 }
    ∷ record { units = pair; field = 1; kept = 1 }
    -- 29 letters and a pair are 31 units
    ∷ record { units = replicate 29 0x61 ++ pair; field = 30; kept = 30 }
    -- with 30 the cut parts the pair: its first half stays, as a character
    ∷ record { units = replicate 30 0x61 ++ pair; field = 31; kept = 31 }
    -- 20 pairs: of the sixteenth one half is kept
    ∷ record { units = flat_map (λ (k : ℕ). pair) (replicate 20 0); field = 20; kept = 16 }
    ∷ []

abbrev pub holds : Case → Bool
holds c = eqb (text_count (text_of c.units)) c.field && eqb (characters (kept_name (text_of c.units))) c.kept

pub record KeptCounts : Type 0 where
  -- a name that is not cut has the characters of its field
  pub uncut : (part : List ℕ) → length (without_last (units part)) ≤ max_name → characters (kept_name part) ≡ text_count part
  pub worked : every holds cases ≡ true
