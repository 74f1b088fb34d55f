-- Every reason for 11 (paper 01, number 11), by type and field. That these are all of them is stated and proved: the definition of 11 asks
-- reading itself (Write.antt).
use Rattle.std.specs.Prelude.{◌≡◌, ℕ, Bool, true, false, not, List, [], ◌∷◌, map, length, ltb, eqb}
use Rattle.wire_field.specs.Fields.{well_formed}
use Rattle.wire_field.specs.declared.FieldName.{FieldName}
use Rattle.wire_field.specs.declared.FieldName.TheVariants.{Name, Data, Password, ConnectData, Url, AlternateAddress}
use Rattle.wire_field.specs.declared.Form.{Form}
use Rattle.wire_layout.specs.Layout.{Pair, most_bytes}
use Rattle.wire_entry.specs.declared.EntryBlock.{EntryBlock}
use Rattle.wire_connect.specs.declared.ConnectInfo.{ConnectInfo}
use Rattle.wire_read.specs.Values.{layout_of}
use Rattle.wire_read.specs.declared.CreateGroup.{CreateGroup}
use Rattle.wire_draft.specs.Draft.{Draft, says_bad, draft_bytes}
use Rattle.wire_draft.specs.Given.{any_of, given_bytes, among_six, entry_bytes, connect_info_draft, add_player_draft, create_group_draft}
use Rattle.wire_draft.specs.declared.ConnectInfoGiven.{ConnectInfoGiven}
use Rattle.wire_draft.specs.declared.EntryGiven.{EntryGiven}
use Rattle.wire_draft.specs.Write.{write_no}
use Rattle.wire_draft.specs.RoundTrip.{Fits}

-- a field that is present and not of its form
abbrev pub is_ill : Form → List ℕ → Bool
is_ill form [] = false
is_ill form (b ∷ bs) = not (well_formed form (b ∷ bs))

abbrev pub any_ill : (FieldName → List ℕ) → List Pair → Bool
any_ill bytes ps = any_of (map (λ (p : Pair). is_ill p.form (bytes p.name)) ps)

-- a flaw: a field given without bytes, or an alternate address for the plain form (Given.antt); a value; a field; too many bytes
abbrev pub reasons : Draft → List Bool
reasons d =
    d.flaw
    ∷ says_bad d.said
    ∷ any_ill d.bytes (layout_of d.said).pairs
    ∷ ltb most_bytes (length (draft_bytes d))
    ∷ []

-- the statement: 11 is answered for these reasons and no other
abbrev pub AllReasons : Type 0
AllReasons = (d : Draft) (room : ℕ) → Fits d → eqb (write_no room d) 11 ≡ any_of (reasons d)

-- a field is given, under its name
abbrev pub is_given : ConnectInfoGiven → FieldName → Bool
is_given has Name = has.name
is_given has Data = has.«data»
is_given has Password = has.password
is_given has ConnectData = has.connect_data
is_given has Url = has.url
is_given has AlternateAddress = has.alternate_address

-- a writer that is given some field without bytes, where the fields' bytes are these, answers 11 in any room
abbrev pub RefusesEmpty : ConnectInfoGiven → (FieldName → List ℕ) → Draft → Type 0
RefusesEmpty has bytes d = (room : ℕ) (n : FieldName) → is_given has n ≡ true → bytes n ≡ [] → write_no room d ≡ 11

-- the statement (paper 02, A1: the writers stay as they were; A5): so do the writers that take fields, though reading takes a 0xC1 whose
-- pair has a 0 for a message without the field
pub record EmptyRefused : Type 0 where
  pub connect_info_law : (v : ConnectInfo) (has : ConnectInfoGiven) (name «data» password connect url alternate : List ℕ)
      → RefusesEmpty has (given_bytes has name «data» password connect url alternate) (connect_info_draft v has name «data» password connect url alternate)
  pub add_player_law : (e : EntryBlock) (has : EntryGiven) (name «data» url : List ℕ)
      → RefusesEmpty (among_six has) (entry_bytes has name «data» url) (add_player_draft e has name «data» url)
  pub create_group_law : (v : CreateGroup) (has : EntryGiven) (name «data» url : List ℕ)
      → RefusesEmpty (among_six has) (entry_bytes has name «data» url) (create_group_draft v has name «data» url)
