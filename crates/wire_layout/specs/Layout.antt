-- The layouts (paper 01, "What the station covers"; paper 02, A5): everything that is known of a type's bytes, said once.
-- Positions count from the message's first byte.
use Rattle.std.specs.Prelude.{ℕ, ◌+◌, Bool, true, false, List, [], ◌∷◌, ◌++◌}
use Rattle.wire_field.specs.Words.{type_word}
use Rattle.wire_field.specs.declared.Form.{Form}
use Rattle.wire_field.specs.Fields.{form_of}
use Rattle.wire_field.specs.declared.Absence.{Absence}
use Rattle.wire_field.specs.declared.Absence.TheVariants.{Both, Either}
use Rattle.wire_field.specs.declared.FieldName.{FieldName}
use Rattle.wire_field.specs.declared.FieldName.TheVariants.{Name, Data, Password, ConnectData, Url, AlternateAddress}

-- when a field is absent: in 0xC1 its offset or its size is 0 (paper 02, A1), in an entry block both are
abbrev pub connect_absence : Absence
connect_absence = Either

abbrev pub entry_absence : Absence
entry_absence = Both

-- offset and size of a field of varying length: whose they are, where the offset stands, the size right after it, and the form of the bytes
pub record Pair : Type 0 where
  pub name : FieldName
  pub position : ℕ
  pub form : Form

-- a field's form goes by its name
abbrev pub pair : FieldName → ℕ → Pair
pair n p = record { name = n; position = p; form = form_of n }

pub record Layout : Type 0 where
  -- the type word
  pub kind : ℕ
  -- bytes of the fixed part
  pub fixed : ℕ
  -- whether nothing may follow the fixed part
  pub exact : Bool
  -- whether the second word is the flags of connect info
  pub flags : Bool
  -- where the ids stand that may not be 0
  pub ids : List ℕ
  -- when offset and size say that their field is absent
  pub absence : Absence
  -- the fields of varying length, in header order
  pub pairs : List Pair

-- 1: the most bytes that a message has
abbrev pub most_bytes : ℕ
most_bytes = 16384

-- the words after the type word, by position
abbrev pub first : ℕ
first = type_word

abbrev pub second : ℕ
second = first + 4

abbrev pub third : ℕ
third = second + 4

abbrev pub fourth : ℕ
fourth = third + 4

abbrev pub fifth : ℕ
fifth = fourth + 4

abbrev pub sixth : ℕ
sixth = fifth + 4

-- the type words
abbrev pub connect_info_word : ℕ
connect_info_word = 0xC1

abbrev pub add_player_word : ℕ
add_player_word = 0xD0

abbrev pub destroy_player_word : ℕ
destroy_player_word = 0xD1

abbrev pub request_add_to_group_word : ℕ
request_add_to_group_word = 0xD3

abbrev pub create_group_word : ℕ
create_group_word = 0xD7

abbrev pub destroy_group_word : ℕ
destroy_group_word = 0xD8

abbrev pub add_to_group_word : ℕ
add_to_group_word = 0xD9

abbrev pub delete_from_group_word : ℕ
delete_from_group_word = 0xDA

-- the entry block at p: dpnid, owner, flags, version, version-not-used, DNET version; offset and size of name, data, URL
abbrev pub entry_size : ℕ
entry_size = 48

unfoldable pub entry_pairs : ℕ → List Pair
entry_pairs p =
    pair Name (p + 24)
    ∷ pair Data (p + 32)
    ∷ pair Url (p + 40)
    ∷ []

-- a message whose fixed part ends with an entry block, which stands at p
unfoldable pub entry_layout : ℕ → ℕ → ℕ → Layout
entry_layout kind p fixed = record {
  kind = kind;
  fixed = fixed;
  exact = false;
  flags = false;
  ids = p ∷ [];
  absence = entry_absence;
  pairs = entry_pairs p;
}

-- a message of fixed length
unfoldable pub exact_layout : ℕ → ℕ → List ℕ → Layout
exact_layout kind fixed ids = record {
  kind = kind;
  fixed = fixed;
  exact = true;
  flags = false;
  ids = ids;
  absence = Both;
  pairs = [];
}

-- the fields that both forms of 0xC1 have
unfoldable pub connect_pairs : List Pair
connect_pairs =
    pair Name 12
    ∷ pair Data 20
    ∷ pair Password 28
    ∷ pair ConnectData 36
    ∷ pair Url 44
    ∷ []

-- where the fixed part ends: of the plain form, and of the extended one
abbrev pub plain_end : ℕ
plain_end = 84

abbrev pub extended_end : ℕ
extended_end = 92

-- the field that the extended form has besides, after both GUIDs
unfoldable pub alternate_pair : Pair
alternate_pair = pair AlternateAddress plain_end

-- the DNET version from which on 0xC1 is extended
abbrev pub extended_from : ℕ
extended_from = 7

unfoldable pub connect_layout : Absence → ℕ → List Pair → Layout
connect_layout rule fixed pairs = record {
  kind = connect_info_word;
  fixed = fixed;
  exact = false;
  flags = true;
  ids = [];
  absence = rule;
  pairs = pairs;
}

-- 0xC1, plain: type, flags, DNET version, five fields, two GUIDs
abbrev pub plain_connect_info : Layout
plain_connect_info = connect_layout connect_absence plain_end connect_pairs

-- 0xC1, extended: the same, and the alternate address
abbrev pub extended_connect_info : Layout
extended_connect_info = connect_layout connect_absence extended_end (connect_pairs ++ (alternate_pair ∷ []))

-- 0xD0: type, entry
abbrev pub add_player : Layout
add_player = entry_layout add_player_word first (type_word + entry_size)

-- 0xD1: type, dpnid leaving, version, version-not-used, reason
abbrev pub destroy_player : Layout
destroy_player = exact_layout destroy_player_word 20 (first ∷ [])

-- 0xD3: type, context, group, player
abbrev pub request_add_to_group : Layout
request_add_to_group = exact_layout request_add_to_group_word 16 (second ∷ third ∷ [])

-- 0xD7 (paper 02, A5): type, requesting dpnid, context, entry. Document 000, 2.2.4.2, prints these first twelve bytes only; that the entry
-- follows them is decided (docs/DECISIONS.md)
abbrev pub create_group : Layout
create_group = entry_layout create_group_word third (third + entry_size)

-- 0xD8 (paper 02, A5): type, group, version, version-not-used, requesting dpnid, context
abbrev pub destroy_group : Layout
destroy_group = exact_layout destroy_group_word 24 (first ∷ [])

-- 0xD9 and 0xDA (paper 02, A5): type, group, player, version, version-not-used, requesting dpnid, context
abbrev pub membership_change_layout : ℕ → Layout
membership_change_layout kind = exact_layout kind 28 (first ∷ second ∷ [])

abbrev pub add_to_group : Layout
add_to_group = membership_change_layout add_to_group_word

abbrev pub delete_from_group : Layout
delete_from_group = membership_change_layout delete_from_group_word
