-- What the writers compute on the way to a draft. No contract of a public writer cites these.
use Rattle.std.specs.Prelude.{ℕ, ◌+◌, Bool, false, cond, not, ◌||◌, List, [], ◌∷◌, ◌++◌, Option, None, Some, Result, length, ltb, eqb}
use Rattle.std.specs.Bool.{then_some}
use Rattle.std.specs.Borrow.{Bor}
use Rattle.refusal.specs.Checks.{when, first_of}
use Rattle.refusal.specs.declared.Refusal.{Refusal}
use Rattle.byte_words.specs.Bytes.{little, words}
use Rattle.wire_field.specs.Fields.{form_of, well_formed}
use Rattle.wire_field.specs.declared.FieldName.{FieldName}
use Rattle.wire_field.specs.declared.FieldName.TheVariants.{Name, Data, Password, ConnectData, Url, AlternateAddress}
use Rattle.wire_field.specs.declared.Form.{Form}
use Rattle.wire_layout.specs.Layout.{Pair, most_bytes, connect_pairs, alternate_pair}
use Rattle.wire_draft.specs.Draft.{laid}
use Rattle.wire_draft.specs.Given.{any_of}
use Rattle.wire_draft.specs.Write.{written_by, left_by}
use Rattle.wire_draft.specs.declared.ConnectInfoGiven.{ConnectInfoGiven}
use Rattle.wire_draft.specs.declared.EntryGiven.{EntryGiven}
use Rattle.wire_draft.specs.declared.Given.{Given}
use Rattle.wire_draft.specs.declared.Sizes.{Sizes}

-- the six fields, as the extended form of 0xC1 has them
abbrev pub six_pairs : List Pair
six_pairs = connect_pairs ++ (alternate_pair ∷ [])

-- the bytes that fields of these sizes take
abbrev pub six_space : (FieldName → ℕ) → ℕ
six_space size = size AlternateAddress + size Url + size ConnectData + size Password + size Data + size Name

-- a size, or one more than any message has: it fits 16 bits, and a sum of six does not wrap
abbrev pub capped : ℕ → ℕ
capped n = cond (ltb most_bytes n) (1 + most_bytes) n

unfoldable pub sizes_of : (FieldName → List ℕ) → Sizes
sizes_of bytes = record {
  name = capped (length (bytes Name));
  «data» = capped (length (bytes Data));
  password = capped (length (bytes Password));
  connect_data = capped (length (bytes ConnectData));
  url = capped (length (bytes Url));
  alternate_address = capped (length (bytes AlternateAddress));
}

-- the size under a name
abbrev pub size_named : Sizes → FieldName → ℕ
size_named s Name = s.name
size_named s Data = s.«data»
size_named s Password = s.password
size_named s ConnectData = s.connect_data
size_named s Url = s.url
size_named s AlternateAddress = s.alternate_address

-- the fields that flags say are given, of the slices beside them
abbrev pub connect_info_given : ConnectInfoGiven → (name «data» password connect url alternate : Bor (List ℕ)) → Given
connect_info_given has name «data» password connect url alternate = record {
  name = then_some has.name name;
  «data» = then_some has.«data» «data»;
  password = then_some has.password password;
  connect_data = then_some has.connect_data connect;
  url = then_some has.url url;
  alternate_address = then_some has.alternate_address alternate;
}

abbrev pub entry_given : EntryGiven → (name «data» url : Bor (List ℕ)) → Given
entry_given has name «data» url = record {
  name = then_some has.name name;
  «data» = then_some has.«data» «data»;
  password = None;
  connect_data = None;
  url = then_some has.url url;
  alternate_address = None;
}

-- the bytes of a field that is given, else none
abbrev pub bytes_of : Option (Bor (List ℕ)) → List ℕ
bytes_of None = []
bytes_of (Some s) = s.now

-- the bytes under each name
abbrev pub bytes_in : Given → FieldName → List ℕ
bytes_in g Name = bytes_of g.name
bytes_in g Data = bytes_of g.«data»
bytes_in g Password = bytes_of g.password
bytes_in g ConnectData = bytes_of g.connect_data
bytes_in g Url = bytes_of g.url
bytes_in g AlternateAddress = bytes_of g.alternate_address

-- a field is given that has no bytes or that reading would refuse
abbrev pub is_bad : Form → Option (Bor (List ℕ)) → Bool
is_bad f None = false
is_bad f (Some s) = eqb (length s.now) 0 || not (well_formed f s.now)

unfoldable pub any_bad : Given → Bool
any_bad g =
    any_of
    (is_bad (form_of Name) g.name
    ∷ is_bad (form_of Data) g.«data»
    ∷ is_bad (form_of Password) g.password
    ∷ is_bad (form_of ConnectData) g.connect_data
    ∷ is_bad (form_of Url) g.url
    ∷ is_bad (form_of AlternateAddress) g.alternate_address
    ∷ [])

-- what a writer answers and leaves of any bytes, where it is known already whether 11 refuses them

unfoldable pub room_no : Bool → ℕ → List ℕ → ℕ
room_no refused room m = first_of (when refused 11 ∷ when (ltb room (length m)) 12 ∷ [])

abbrev pub answer_of : Bool → ℕ → List ℕ → Result ℕ Refusal
answer_of refused room m = written_by (room_no refused room m) m

abbrev pub buffer_after : Bool → List ℕ → List ℕ → List ℕ
buffer_after refused buffer m = left_by (room_no refused (length buffer) m) buffer m

-- 11 refuses what is over the limit
abbrev pub or_over : Bool → List ℕ → Bool
or_over refused m = refused || ltb most_bytes (length m)

-- words, and then the fields
unfoldable pub message_of : List ℕ → (FieldName → List ℕ) → List ℕ
message_of ws bytes = words little ws ++ laid bytes six_pairs

-- what is answered of it and left, where it is known which values and fields 11 refuses
abbrev pub sent_of : Bool → ℕ → List ℕ → (FieldName → List ℕ) → Result ℕ Refusal
sent_of refused room ws bytes = answer_of (or_over refused (message_of ws bytes)) room (message_of ws bytes)

abbrev pub sent_into : Bool → List ℕ → List ℕ → (FieldName → List ℕ) → List ℕ
sent_into refused buffer ws bytes = buffer_after (or_over refused (message_of ws bytes)) buffer (message_of ws bytes)
