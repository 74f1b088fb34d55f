-- The worked cases of reading (paper 01, "Cases on each side").
use Rattle.std.specs.Prelude.{◌≡◌, ℕ, ◌+◌, ◌-◌, Bool, true, ◌&&◌, List, [], ◌∷◌, ◌++◌, length, take, replicate, eqb}
use Rattle.lists.specs.Lists.{every, eqbs}
use Rattle.byte_words.specs.Bytes.{little, words}
use Rattle.wire_layout.specs.Layout.{most_bytes}
use Rattle.wire_field.specs.declared.FieldName.TheVariants.{Name}
use Rattle.wire_read.specs.Read.{reading_of, number_of, field_part}

-- a message, the number that reading answers, 0 where it is read, and the name that it shows
pub record Case : Type 0 where
  pub message : List ℕ
  pub number : ℕ
  pub name : List ℕ

-- 0xC1 of 84 bytes, flags 2, no fields
abbrev pub connect_info_case : ℕ → List ℕ
connect_info_case dnet = words little (0xC1 ∷ 2 ∷ dnet ∷ replicate 18 0)

-- 0xD0 of 54 bytes, id 1, the last two zero
abbrev pub add_player_case : ℕ → ℕ → List ℕ
add_player_case offset size = words little (0xD0 ∷ 1 ∷ 0 ∷ 0 ∷ 6 ∷ 0 ∷ 7 ∷ offset ∷ size ∷ 0 ∷ 0 ∷ 0 ∷ 0 ∷ []) ++ (0 ∷ 0 ∷ [])

-- a message of fixed length, one byte less, whole, one byte more
abbrev pub three_lengths : List ℕ → List Case
three_lengths m =
    record { message = take (length m - 1) m; number = 4; name = [] }
    ∷ record { message = m; number = 0; name = [] }
    ∷ record { message = m ++ (0 ∷ []); number = 5; name = [] }
    ∷ []

unfoldable pub cases : List Case
cases =
    three_lengths (words little (0xD1 ∷ 100 ∷ 7 ∷ 0 ∷ 0 ∷ []))
    ++ (record { message = []; number = 2; name = [] }
    ∷ record { message = 0xFF ∷ 0 ∷ 0 ∷ 0 ∷ []; number = 3; name = [] }
    ∷ record { message = connect_info_case 6; number = 0; name = [] }
    ∷ record { message = connect_info_case 7; number = 4; name = [] }
    ∷ record { message = add_player_case 48 2; number = 0; name = 0 ∷ 0 ∷ [] }
    ∷ record { message = add_player_case 47 2; number = 9; name = [] }
    ∷ record { message = add_player_case 48 3; number = 9; name = [] }
    ∷ record { message = add_player_case 48 0; number = 8; name = [] }
    -- "Easy to get wrong": offset and size whose sum in 32 bits is small
    ∷ record { message = add_player_case 0xFFFFFFF0 0x20; number = 9; name = [] }
    -- number 1, one byte over the limit
    ∷ record { message = replicate (most_bytes + 1) 0; number = 1; name = [] }
    ∷ [])

-- reading answers what the case says
abbrev pub holds : Case → Bool
holds c = eqb (number_of (reading_of c.message)) c.number && eqbs (field_part Name c.message) c.name

-- the statement: reading answers what each case says
abbrev pub CasesHold : Type 0
CasesHold = every holds cases ≡ true
