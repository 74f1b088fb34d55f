-- What reading answers as one struct (include/dp8.h, dp8_reading). The values of a type are a struct of words, all types' in a union: here
-- they are its words, and those that the type does not have are zero.
use Rattle.std.specs.Prelude.{ℕ, ◌-◌, true, false, List, [], ◌∷◌, ◌++◌, None, Some, Result, Ok, Err, length, replicate}
use Rattle.refusal.specs.Numbers.{number}
use Rattle.wire_field.specs.Fields.{Field}
use Rattle.wire_field.specs.declared.Fields.{Fields}
use Rattle.wire_entry.specs.declared.EntryBlock.{EntryBlock}
use Rattle.wire_connect.specs.Connect.{guid_words}
use Rattle.wire_read.specs.Values.{layout_of}
use Rattle.wire_read.specs.Read.{Reading, no_fields}
use Rattle.wire_read.specs.declared.MembershipChange.{MembershipChange}
use Rattle.wire_read.specs.declared.Message.{Message}
use Rattle.wire_read.specs.declared.ReadMessage.{ReadMessage}
use Rattle.wire_read.specs.declared.Message.TheVariants as said
use Rattle.c_types.specs.declared.Part.{Part}
use Rattle.c_types.specs.declared.Said.{Said}
use Rattle.c_types.specs.declared.ReadingData.{ReadingData}

-- where a field lies, from the message's first byte on, and its characters (paper 02, A9); all zero of an absent one
abbrev pub part_data : Field → Part
part_data None = record { present = false; start = 0; size = 0; characters = 0 }
part_data (Some s) = record { present = true; start = s.start.0; size = s.size; characters = s.characters }

-- the words of the union: as many as 0xC1 has
abbrev pub value_count : ℕ
value_count = 10

abbrev pub padded : List ℕ → List ℕ
padded ws = ws ++ replicate (value_count - length ws) 0

-- the values of an entry, and of a membership change
abbrev pub entry_values : EntryBlock → List ℕ
entry_values e = e.dpnid ∷ (e.owner ∷ (e.flags ∷ (e.version ∷ (e.dnet_version ∷ []))))

abbrev pub membership_change_values : MembershipChange → List ℕ
membership_change_values v = v.group ∷ (v.player ∷ (v.version ∷ (v.requesting ∷ (v.context ∷ []))))

-- the values of each type, in the order of its struct; those of paper 02, A5, too
abbrev pub value_words : Message → List ℕ
value_words (said.ConnectInfo v) = v.flags ∷ (v.dnet_version ∷ (guid_words v.instance ++ guid_words v.application))
value_words (said.AddPlayer e n) = entry_values e
value_words (said.DestroyPlayer v n) = v.dpnid ∷ (v.version ∷ (v.reason ∷ []))
value_words (said.RequestAddToGroup v) = v.context ∷ (v.group ∷ (v.player ∷ []))
value_words (said.CreateGroup v n) = v.requesting ∷ (v.context ∷ entry_values v.entry)
value_words (said.DestroyGroup v n) = v.group ∷ (v.version ∷ (v.requesting ∷ (v.context ∷ [])))
value_words (said.AddToGroup v n) = membership_change_values v
value_words (said.DeleteFromGroup v n) = membership_change_values v

-- the word that is not used, 0 where the type has none
abbrev pub not_used : Message → ℕ
not_used (said.ConnectInfo v) = 0
not_used (said.AddPlayer e n) = n
not_used (said.DestroyPlayer v n) = n
not_used (said.RequestAddToGroup v) = 0
not_used (said.CreateGroup v n) = n
not_used (said.DestroyGroup v n) = n
not_used (said.AddToGroup v n) = n
not_used (said.DeleteFromGroup v n) = n

-- what a message says: its type word, its values, the word that is not used
unfoldable pub said_data : Message → Said
said_data m = record { kind = (layout_of m).kind; values = padded (value_words m); version_not_used = not_used m }

-- nothing is said of a refused message
abbrev pub nothing_said : Said
nothing_said = record { kind = 0; values = padded []; version_not_used = 0 }

unfoldable pub data_of : ℕ → Said → Fields → ReadingData
data_of number said fs = record {
  number = number;
  said = said;
  name = part_data fs.name;
  «data» = part_data fs.«data»;
  password = part_data fs.password;
  connect_data = part_data fs.connect_data;
  url = part_data fs.url;
  alternate_address = part_data fs.alternate_address;
}

-- whatever a message is refused with, by the number of that. Refused: the number and all else zero; read: number 0, what the message says
-- and where its fields lie
unfoldable pub reading_by : {E : Type 0} → (E → ℕ) → Result ReadMessage E → ReadingData
reading_by by (Err why) = data_of (by why) nothing_said no_fields
reading_by by (Ok read) = data_of 0 (said_data read.message) read.fields

-- what reading a message answers: the number is the refusal's
abbrev pub reading_data : Reading → ReadingData
reading_data = reading_by number
