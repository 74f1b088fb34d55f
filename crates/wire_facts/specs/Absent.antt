-- Absent fields: in 0xC1 offset or size is 0, and the pair is checked no further (paper 02, A1); in 0xD0 and 0xD7 both are (paper 01,
-- number 8; paper 02, A5).
use Rattle.std.specs.Prelude.{◌≡◌, ℕ, ◌+◌, Bool, true, false, List, length, take, drop, Some, None}
use Rattle.lists.specs.Lists.{All}
use Rattle.wire_field.specs.Words.{word}
use Rattle.wire_field.specs.Fields.{Field, field_named}
use Rattle.wire_layout.specs.Layout.{Layout, Pair, connect_info_word, add_player_word, add_player, create_group_word, create_group}
use Rattle.wire_layout.specs.Stated.{has_zero, ZeroTogether}
use Rattle.wire_connect.specs.Connect.{connect_info}
use Rattle.wire_read.specs.Read.{reading_of, number_of, fields_of}

-- messages of one length that differ in the eight bytes of a pair at most
pub record SameBut (p : Pair) (m n : List ℕ) : Type 0 where
  pub bytes : length m ≡ length n
  pub before : take p.position m ≡ take p.position n
  pub after : drop (p.position + 8) m ≡ drop (p.position + 8) n

abbrev pub is_absent : Field → Bool
is_absent None = true
is_absent (Some s) = false

-- a message shows a pair's field as absent where one of its numbers is 0, and not where none is
abbrev pub ShownAsStated : List ℕ → Pair → Type 0
ShownAsStated m p = is_absent (field_named p.name (fields_of (reading_of m))) ≡ has_zero m p

-- whatever the other number of such a pair is, the answer is the same, read or refused
abbrev pub NoFurther : List ℕ → Pair → Type 0
NoFurther m p = (n : List ℕ) → SameBut p m n → has_zero m p ≡ true → has_zero n p ≡ true → reading_of n ≡ reading_of m

-- of a 0xC1
pub record Lax (m : List ℕ) : Type 0 where
  -- it is never refused with 8
  pub never_8 : number_of (reading_of m) ≡ 8 → ⊥
  -- where it is read, the fields that are absent are those whose offset or size is 0
  pub absent : number_of (reading_of m) ≡ 0 → All (ShownAsStated m) (connect_info m).pairs
  -- the pair of an absent field is checked no further
  pub no_further : All (NoFurther m) (connect_info m).pairs

-- of a message of an entry's layout that is read: offset and size of a field are 0 together
abbrev pub Strict : Layout → List ℕ → Type 0
Strict l m = number_of (reading_of m) ≡ 0 → All (ZeroTogether m) l.pairs

-- the statement, over all messages
pub record AbsentFields : Type 0 where
  pub connect_info_law : (m : List ℕ) → word m 0 ≡ connect_info_word → Lax m
  pub add_player_law : (m : List ℕ) → word m 0 ≡ add_player_word → Strict add_player m
  pub create_group_law : (m : List ℕ) → word m 0 ≡ create_group_word → Strict create_group m
