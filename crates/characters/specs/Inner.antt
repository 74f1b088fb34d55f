-- The count as loops add it up. No contract of a call that users make cites it.
use Rattle.std.specs.Prelude.{ℕ, ◌+◌, cond, ◌&&◌, List, [], ◌∷◌}
use Rattle.characters.specs.Characters.{is_high, is_low}

-- how many characters a unit begins behind another
unfoldable pub begun : ℕ → ℕ → ℕ
begun before u = cond (is_high before && is_low u) 0 1

-- how many characters units begin, behind another
abbrev pub begun_by : ℕ → List ℕ → ℕ
begun_by before [] = 0
begun_by before (u ∷ us) = begun before u + begun_by u us
