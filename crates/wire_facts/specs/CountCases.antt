-- Worked cases of what reading says of a text's characters (paper 02, A9), in messages laid out by hand.
use Rattle.std.specs.Prelude.{◌≡◌, ℕ, ◌+◌, ◌*◌, Bool, true, ◌&&◌, List, [], ◌∷◌, ◌++◌, length, replicate, eqb}
use Rattle.lists.specs.Lists.{every}
use Rattle.byte_words.specs.Bytes.{little, words}
use Rattle.wire_text.specs.Spelt.{text_of}
use Rattle.wire_field.specs.Fields.{field_named, count_of}
use Rattle.wire_field.specs.declared.FieldName.{FieldName}
use Rattle.wire_field.specs.declared.FieldName.TheVariants.{Name, Data, Password, ConnectData, Url, AlternateAddress}
use Rattle.wire_read.specs.Read.{reading_of, number_of, fields_of}
use Rattle.wire_facts.specs.Cases.{add_player_case}
use Rattle.wire_facts.specs.LayoutCases.{all_fields, player_fields, group_fields}

-- a message that is read, a field, and how many characters it has
pub record Counted : Type 0 where
  pub message : List ℕ
  pub field : FieldName
  pub count : ℕ

-- 0xD0 of this name
abbrev pub player_named : List ℕ → List ℕ
player_named us = words little (0xD0 ∷ 1 ∷ 0 ∷ 0 ∷ 6 ∷ 0 ∷ 7 ∷ 48 ∷ (2 * (length us + 1)) ∷ 0 ∷ 0 ∷ 0 ∷ 0 ∷ []) ++ text_of us

-- 0xC1, plain, of this password
abbrev pub connect_with : List ℕ → List ℕ
connect_with us =
    words little (0xC1 ∷ (2 ∷ (6 ∷ (0 ∷ (0 ∷ (0 ∷ (0 ∷ (80 ∷ (2 * (length us + 1) ∷ replicate 12 0))))))))) ++ text_of us

abbrev counted : List ℕ → FieldName → ℕ → Counted
counted m n k = record { message = m; field = n; count = k }

unfoldable pub count_cases : List Counted
count_cases =
    -- every field of one message: the texts "a", "b" and the URL "c"; what is free is no text
    counted all_fields Name 1
    ∷ counted all_fields Data 0
    ∷ counted all_fields Password 1
    ∷ counted all_fields ConnectData 0
    ∷ counted all_fields Url 1
    ∷ counted all_fields AlternateAddress 0
    ∷ counted player_fields Name 1
    ∷ counted player_fields Data 0
    ∷ counted player_fields Url 1
    ∷ counted group_fields Name 1
    ∷ counted group_fields Url 1
    -- an absent field, and the empty name
    ∷ counted player_fields Password 0
    ∷ counted (add_player_case 48 2) Name 0
    -- a pair; a half alone before a letter; low then high; two pairs and a half
    ∷ counted (player_named (0xD83D ∷ 0xDE00 ∷ [])) Name 1
    ∷ counted (player_named (0xD83D ∷ 0x61 ∷ [])) Name 2
    ∷ counted (player_named (0xDE00 ∷ 0xD83D ∷ [])) Name 2
    ∷ counted (player_named (0xD83D ∷ 0xDE00 ∷ 0xD83D ∷ 0xDE00 ∷ 0xD83D ∷ [])) Name 3
    ∷ counted (connect_with (0x61 ∷ 0xD83D ∷ 0xDE00 ∷ 0x62 ∷ [])) Password 3
    ∷ []

abbrev pub count_holds : Counted → Bool
count_holds c =
    eqb (number_of (reading_of c.message)) 0 && eqb (count_of (field_named c.field (fields_of (reading_of c.message)))) c.count

-- the statement: each of them is read, and its count is this
abbrev pub CountCasesHold : Type 0
CountCasesHold = every count_holds count_cases ≡ true
