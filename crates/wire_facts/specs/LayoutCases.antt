-- Each word and each field of each type at its position, worked out by hand from paper 01, "What the station covers", and paper 02, A5: a
-- layout that is wrong, with code to match it, would not pass these. The numbers of the words differ, so that none can stand for another.
use Rattle.std.specs.Prelude.{◌≡◌, ℕ, ◌+◌, Bool, true, List, [], ◌∷◌, ◌++◌, replicate, Ok, Err}
use Rattle.lists.specs.Lists.{every, eqbs, flat_map}
use Rattle.byte_words.specs.Bytes.{little, words}
use Rattle.wire_field.specs.declared.FieldName.{FieldName}
use Rattle.wire_field.specs.declared.FieldName.TheVariants.{Name, Data, Password, ConnectData, Url, AlternateAddress}
use Rattle.wire_entry.specs.declared.EntryBlock.{EntryBlock}
use Rattle.wire_connect.specs.Connect.{guid_words}
use Rattle.refusal.specs.Numbers.{number}
use Rattle.wire_read.specs.Read.{Reading, reading_of, field_part}
use Rattle.wire_facts.specs.Cases.{Case, three_lengths, holds}
use Rattle.wire_read.specs.declared.MembershipChange.{MembershipChange}
use Rattle.wire_read.specs.declared.Message.{Message}
use Rattle.wire_read.specs.declared.Message.TheVariants as said

-- an entry block, and a membership change
abbrev pub entry_by_name : EntryBlock → ℕ → List ℕ
entry_by_name e unused = e.dpnid ∷ e.owner ∷ e.flags ∷ e.version ∷ unused ∷ e.dnet_version ∷ []

abbrev pub change_by_name : MembershipChange → ℕ → List ℕ
change_by_name v unused = v.group ∷ v.player ∷ v.version ∷ unused ∷ v.requesting ∷ v.context ∷ []

-- the type and the values by name, in the order in which the papers name them
abbrev pub values_by_name : Message → List ℕ
values_by_name (said.ConnectInfo v) = 0xC1 ∷ (v.flags ∷ (v.dnet_version ∷ (guid_words v.instance ++ guid_words v.application)))
values_by_name (said.AddPlayer e unused) = 0xD0 ∷ entry_by_name e unused
values_by_name (said.DestroyPlayer v unused) = 0xD1 ∷ v.dpnid ∷ v.version ∷ unused ∷ v.reason ∷ []
values_by_name (said.RequestAddToGroup v) = 0xD3 ∷ v.context ∷ v.group ∷ v.player ∷ []
values_by_name (said.CreateGroup v unused) = 0xD7 ∷ v.requesting ∷ v.context ∷ entry_by_name v.entry unused
values_by_name (said.DestroyGroup v unused) = 0xD8 ∷ v.group ∷ v.version ∷ unused ∷ v.requesting ∷ v.context ∷ []
values_by_name (said.AddToGroup v unused) = 0xD9 ∷ change_by_name v unused
values_by_name (said.DeleteFromGroup v unused) = 0xDA ∷ change_by_name v unused

-- of a reading; a refused one has its number alone
abbrev pub told : Reading → List ℕ
told (Err why) = number why ∷ []
told (Ok read) = values_by_name read.message

-- a message and what is told of it
pub record Told : Type 0 where
  pub message : List ℕ
  pub values : List ℕ

-- 0xC1 of these flags and this DNET version, GUIDs of the words 11 to 18, no field
abbrev pub connect_info_message : ℕ → ℕ → List ℕ
connect_info_message flags dnet =
    words little (0xC1 ∷ (flags ∷ (dnet ∷ (replicate 10 0 ++ (11 ∷ 12 ∷ 13 ∷ 14 ∷ 15 ∷ 16 ∷ 17 ∷ 18 ∷ [])))))

-- of these words each is told, in order
abbrev pub in_order : List ℕ → Told
in_order ws = record { message = words little ws; values = ws }

-- the same of a message that ends with an entry block, whose pairs state nothing
abbrev pub entry_in_order : List ℕ → Told
entry_in_order ws = record { message = words little (ws ++ replicate 6 0); values = ws }

abbrev pub refused : List ℕ → ℕ → Told
refused m n = record { message = m; values = n ∷ [] }

-- an entry block after these words: the name "a", data 1, the URL "c", from an offset on
abbrev pub fields_from : ℕ → List ℕ → List ℕ
fields_from o ws =
    words little (ws ++ (1 ∷ 0 ∷ 0 ∷ 6 ∷ 0 ∷ 7 ∷ o ∷ 4 ∷ (o + 4) ∷ 1 ∷ (o + 5) ∷ 2 ∷ []))
    ++ (97 ∷ 0 ∷ 0 ∷ 0 ∷ 1 ∷ 99 ∷ 0 ∷ [])

unfoldable pub told_cases : List Told
told_cases =
    record {
      message = connect_info_message 2 6;
      values = 0xC1 ∷ 2 ∷ 6 ∷ 11 ∷ 12 ∷ 13 ∷ 14 ∷ 15 ∷ 16 ∷ 17 ∷ 18 ∷ [];
    }
    ∷ entry_in_order (0xD0 ∷ 1 ∷ 2 ∷ 3 ∷ 4 ∷ 5 ∷ 6 ∷ [])
    ∷ in_order (0xD1 ∷ 1 ∷ 2 ∷ 3 ∷ 4 ∷ [])
    ∷ in_order (0xD3 ∷ 1 ∷ 2 ∷ 3 ∷ [])
    ∷ entry_in_order (0xD7 ∷ 1 ∷ 2 ∷ 3 ∷ 4 ∷ 5 ∷ 6 ∷ 7 ∷ 8 ∷ [])
    ∷ in_order (0xD8 ∷ 1 ∷ 2 ∷ 3 ∷ 4 ∷ 5 ∷ [])
    ∷ in_order (0xD9 ∷ 1 ∷ 2 ∷ 3 ∷ 4 ∷ 5 ∷ 6 ∷ [])
    ∷ in_order (0xDA ∷ 1 ∷ 2 ∷ 3 ∷ 4 ∷ 5 ∷ 6 ∷ [])
    -- the flags: 2 and 4 and no other
    ∷ record {
      message = connect_info_message 4 0;
      values = 0xC1 ∷ 4 ∷ 0 ∷ 11 ∷ 12 ∷ 13 ∷ 14 ∷ 15 ∷ 16 ∷ 17 ∷ 18 ∷ [];
    }
    ∷ refused (connect_info_message 0 6) 6
    ∷ refused (connect_info_message 1 6) 6
    ∷ refused (connect_info_message 3 6) 6
    ∷ refused (connect_info_message 5 6) 6
    ∷ refused (connect_info_message 6 6) 6
    ∷ refused (connect_info_message 0x02000000 6) 6
    -- an id of 0, at each position where one stands; a requesting id, context, owner or version may be 0
    ∷ refused (words little (0xD0 ∷ 0 ∷ 2 ∷ 3 ∷ 4 ∷ 5 ∷ 6 ∷ replicate 6 0)) 7
    ∷ refused (words little (0xD1 ∷ 0 ∷ 2 ∷ 3 ∷ 4 ∷ [])) 7
    ∷ refused (words little (0xD3 ∷ 1 ∷ 0 ∷ 3 ∷ [])) 7
    ∷ refused (words little (0xD3 ∷ 1 ∷ 2 ∷ 0 ∷ [])) 7
    ∷ refused (words little (0xD7 ∷ 1 ∷ 2 ∷ 0 ∷ 4 ∷ 5 ∷ 6 ∷ 7 ∷ 8 ∷ replicate 6 0)) 7
    ∷ refused (words little (0xD8 ∷ 0 ∷ 2 ∷ 3 ∷ 4 ∷ 5 ∷ [])) 7
    ∷ refused (words little (0xD9 ∷ 0 ∷ 2 ∷ 3 ∷ 4 ∷ 5 ∷ 6 ∷ [])) 7
    ∷ refused (words little (0xD9 ∷ 1 ∷ 0 ∷ 3 ∷ 4 ∷ 5 ∷ 6 ∷ [])) 7
    ∷ refused (words little (0xDA ∷ 0 ∷ 2 ∷ 3 ∷ 4 ∷ 5 ∷ 6 ∷ [])) 7
    ∷ refused (words little (0xDA ∷ 1 ∷ 0 ∷ 3 ∷ 4 ∷ 5 ∷ 6 ∷ [])) 7
    ∷ in_order (0xD1 ∷ 1 ∷ 0 ∷ 0 ∷ 0 ∷ [])
    ∷ in_order (0xD3 ∷ 0 ∷ 2 ∷ 3 ∷ [])
    ∷ entry_in_order (0xD7 ∷ 0 ∷ 0 ∷ 3 ∷ 0 ∷ 0 ∷ 0 ∷ 0 ∷ 0 ∷ [])
    ∷ in_order (0xD8 ∷ 1 ∷ 0 ∷ 0 ∷ 0 ∷ 0 ∷ [])
    ∷ in_order (0xD9 ∷ 1 ∷ 2 ∷ 0 ∷ 0 ∷ 0 ∷ 0 ∷ [])
    ∷ in_order (0xDA ∷ 1 ∷ 2 ∷ 0 ∷ 0 ∷ 0 ∷ 0 ∷ [])
    -- 0xD7 of 59 bytes; a field of it one byte before the end of its fixed part, and where those of 0xD0 may start
    ∷ refused (words little (0xD7 ∷ 1 ∷ 2 ∷ 3 ∷ 4 ∷ 5 ∷ 6 ∷ 7 ∷ 8 ∷ replicate 5 0) ++ (0 ∷ 0 ∷ 0 ∷ [])) 4
    ∷ refused (fields_from 55 (0xD7 ∷ 0 ∷ 0 ∷ [])) 9
    ∷ refused (fields_from 48 (0xD7 ∷ 0 ∷ 0 ∷ [])) 9
    -- the requests that stay unlisted: create group, delete player from group, destroy group, update info
    ∷ refused (words little (0xD2 ∷ [])) 3
    ∷ refused (words little (0xD4 ∷ [])) 3
    ∷ refused (words little (0xD5 ∷ [])) 3
    ∷ refused (words little (0xD6 ∷ [])) 3
    ∷ []

-- a message, a field's name, and what is shown of it
pub record Shown : Type 0 where
  pub message : List ℕ
  pub field : FieldName
  pub bytes : List ℕ

-- 0xC1, extended: name "a", data 1, password "b", connect data 2, URL "c", alternate address 3, each at its own offset from 88 on
abbrev pub all_fields : List ℕ
all_fields =
    words little (0xC1 ∷ 2 ∷ 7 ∷ 88 ∷ 4 ∷ 92 ∷ 1 ∷ 93 ∷ 4 ∷ 97 ∷ 1 ∷ 98 ∷ 2 ∷ 0 ∷ 0 ∷ 0 ∷ 0 ∷ 0 ∷ 0 ∷ 0 ∷ 0 ∷ 100 ∷ 1 ∷ [])
    ++ (97 ∷ 0 ∷ 0 ∷ 0 ∷ 1 ∷ 98 ∷ 0 ∷ 0 ∷ 0 ∷ 2 ∷ 99 ∷ 0 ∷ 3 ∷ [])

-- 0xD0: name, data and URL from 48 on; 0xD7: from 56 on
abbrev pub player_fields : List ℕ
player_fields = fields_from 48 (0xD0 ∷ [])

abbrev pub group_fields : List ℕ
group_fields = fields_from 56 (0xD7 ∷ 0 ∷ 0 ∷ [])

-- what is shown of either
abbrev pub entry_shown : List ℕ → List Shown
entry_shown m =
    record { message = m; field = Name; bytes = 97 ∷ 0 ∷ 0 ∷ 0 ∷ [] }
    ∷ record { message = m; field = Data; bytes = 1 ∷ [] }
    ∷ record { message = m; field = Url; bytes = 99 ∷ 0 ∷ [] }
    ∷ record { message = m; field = Password; bytes = [] }
    ∷ []

unfoldable pub shown_cases : List Shown
shown_cases =
    record { message = all_fields; field = Name; bytes = 97 ∷ 0 ∷ 0 ∷ 0 ∷ [] }
    ∷ record { message = all_fields; field = Data; bytes = 1 ∷ [] }
    ∷ record { message = all_fields; field = Password; bytes = 98 ∷ 0 ∷ 0 ∷ 0 ∷ [] }
    ∷ record { message = all_fields; field = ConnectData; bytes = 2 ∷ [] }
    ∷ record { message = all_fields; field = Url; bytes = 99 ∷ 0 ∷ [] }
    ∷ record { message = all_fields; field = AlternateAddress; bytes = 3 ∷ [] }
    ∷ (entry_shown player_fields ++ entry_shown group_fields)

-- the other messages of fixed length, one byte less, whole, one byte more
unfoldable pub length_cases : List Case
length_cases =
    flat_map three_lengths
    (words little (0xD3 ∷ 0 ∷ 1 ∷ 2 ∷ [])
    ∷ words little (0xD8 ∷ 1 ∷ 7 ∷ 0 ∷ 0 ∷ 0 ∷ [])
    ∷ words little (0xD9 ∷ 1 ∷ 2 ∷ 7 ∷ 0 ∷ 0 ∷ 0 ∷ [])
    ∷ words little (0xDA ∷ 1 ∷ 2 ∷ 7 ∷ 0 ∷ 0 ∷ 0 ∷ [])
    ∷ [])

abbrev pub told_holds : Told → Bool
told_holds c = eqbs (told (reading_of c.message)) c.values

abbrev pub shown_holds : Shown → Bool
shown_holds c = eqbs (field_part c.field c.message) c.bytes

-- the statements: each value, and each field, is where the papers put it
pub record LayoutCasesHold : Type 0 where
  pub values : every told_holds told_cases ≡ true
  pub fields : every shown_holds shown_cases ≡ true
  pub lengths : every holds length_cases ≡ true
