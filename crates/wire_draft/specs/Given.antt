-- The draft of each type, from what a writer's caller gives (paper 01, "Fields of varying length": the writer is told which are present;
-- paper 02, A5).
use Rattle.std.specs.Prelude.{ℕ, Bool, true, false, ◌&&◌, ◌||◌, List, [], ◌∷◌, length, ltb, eqb}
use Rattle.wire_field.specs.declared.FieldName.{FieldName}
use Rattle.wire_field.specs.declared.FieldName.TheVariants.{Name, Data, Password, ConnectData, Url, AlternateAddress}
use Rattle.wire_entry.specs.declared.EntryBlock.{EntryBlock}
use Rattle.wire_connect.specs.declared.ConnectInfo.{ConnectInfo}
use Rattle.wire_read.specs.declared.CreateGroup.{CreateGroup}
use Rattle.wire_read.specs.declared.Message.{Message}
use Rattle.wire_read.specs.declared.Message.TheVariants as said
use Rattle.wire_draft.specs.declared.ConnectInfoGiven.{ConnectInfoGiven}
use Rattle.wire_draft.specs.declared.EntryGiven.{EntryGiven}
use Rattle.wire_layout.specs.Layout.{extended_from}
use Rattle.wire_draft.specs.Draft.{Draft}

-- the bytes of a field that is given, else none
abbrev pub given : Bool → List ℕ → List ℕ
given true s = s
given false s = []

-- the bytes under each name
abbrev pub given_bytes : ConnectInfoGiven → List ℕ → List ℕ → List ℕ → List ℕ → List ℕ → List ℕ → FieldName → List ℕ
given_bytes has name «data» password connect url alternate Name = given has.name name
given_bytes has name «data» password connect url alternate Data = given has.«data» «data»
given_bytes has name «data» password connect url alternate Password = given has.password password
given_bytes has name «data» password connect url alternate ConnectData = given has.connect_data connect
given_bytes has name «data» password connect url alternate Url = given has.url url
given_bytes has name «data» password connect url alternate AlternateAddress = given has.alternate_address alternate

-- one of the tests holds
abbrev pub any_of : List Bool → Bool
any_of [] = false
any_of (b ∷ bs) = b || any_of bs

-- a field is given that has no bytes
abbrev pub is_hollow : Bool → List ℕ → Bool
is_hollow has s = has && eqb (length s) 0

unfoldable pub any_hollow : ConnectInfoGiven → List ℕ → List ℕ → List ℕ → List ℕ → List ℕ → List ℕ → Bool
any_hollow has name «data» password connect url alternate =
    any_of
    (is_hollow has.name name
    ∷ is_hollow has.«data» «data»
    ∷ is_hollow has.password password
    ∷ is_hollow has.connect_data connect
    ∷ is_hollow has.url url
    ∷ is_hollow has.alternate_address alternate
    ∷ [])

-- a message without fields
abbrev pub exact_draft : Message → Draft
exact_draft m = record { said = m; bytes = λ n. []; flaw = false }

-- 0xC1; a flaw is a field that is given without bytes, or an alternate address for the plain form
unfoldable pub connect_info_draft : ConnectInfo → ConnectInfoGiven → List ℕ → List ℕ → List ℕ → List ℕ → List ℕ → List ℕ → Draft
connect_info_draft v has name «data» password connect url alternate = record {
  said = said.ConnectInfo v;
  bytes = given_bytes has name «data» password connect url alternate;
  flaw = (has.alternate_address && ltb v.dnet_version extended_from) || any_hollow has name «data» password connect url alternate;
}

-- of the six fields an entry has name, data and URL
abbrev pub among_six : EntryGiven → ConnectInfoGiven
among_six has = record {
  name = has.name;
  «data» = has.«data»;
  password = false;
  connect_data = false;
  url = has.url;
  alternate_address = false;
}

-- the bytes of an entry's fields
abbrev pub entry_bytes : EntryGiven → List ℕ → List ℕ → List ℕ → FieldName → List ℕ
entry_bytes has name «data» url = given_bytes (among_six has) name «data» [] [] url []

-- a message that adds an entry, with the fields that are given
unfoldable pub entry_draft : Message → EntryGiven → List ℕ → List ℕ → List ℕ → Draft
entry_draft m has name «data» url = record {
  said = m;
  bytes = entry_bytes has name «data» url;
  flaw = any_hollow (among_six has) name «data» [] [] url [];
}

-- 0xD0; the word that is not used is 0
abbrev pub add_player_draft : EntryBlock → EntryGiven → List ℕ → List ℕ → List ℕ → Draft
add_player_draft e has name «data» url = entry_draft (said.AddPlayer e 0) has name «data» url

-- 0xD7 (paper 02, A5); the word that is not used is 0
abbrev pub create_group_draft : CreateGroup → EntryGiven → List ℕ → List ℕ → List ℕ → Draft
create_group_draft v has name «data» url = entry_draft (said.CreateGroup v 0) has name «data» url
