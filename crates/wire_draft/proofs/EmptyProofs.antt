-- A field that is given without bytes is refused by every writer that takes fields.
use mathlib.Core.Path.{◌≡◌}
use Prim.Native.Nat.{ℕ, zero, suc}
use mathlib.Core.Bool.{Bool, true, false, or-true}
use mathlib.Core.List.{List, [], ◌∷◌}
use lib.ListN.{get_or}
use Rattle.wire_field.specs.declared.FieldName.{FieldName}
use Rattle.wire_field.specs.declared.FieldName.TheVariants.{Name, Data, Password, ConnectData, Url, AlternateAddress}
use Rattle.wire_draft.specs.declared.ConnectInfoGiven.{ConnectInfoGiven}
use Rattle.wire_draft.specs.Draft.{Draft}
use Rattle.wire_draft.specs.Given.{given, given_bytes, any_of, is_hollow, any_hollow, among_six, entry_bytes, connect_info_draft, entry_draft}
use Rattle.wire_draft.specs.Write.{write_no}
use Rattle.wire_draft.specs.Reasons.{is_given, RefusesEmpty, EmptyRefused}
use Rattle.wire_draft.specs.declared.EntryGiven.{EntryGiven}
use Rattle.wire_read.specs.declared.Message.{Message}
use Rattle.wire_read.specs.declared.Message.TheVariants as said

any_at : (bs : List Bool) (i : ℕ) → get_or bs i false ≡ true → any_of bs ≡ true
any_at [] i e = e
any_at (b ∷ bs) zero e = rw e
any_at (b ∷ bs) (suc i) e = rw (any_at bs i e, or-true b)

hollow : (has : Bool) (s : List ℕ) → has ≡ true → given has s ≡ [] → is_hollow has s ≡ true
hollow true s h e = rw e
hollow false s h e = h

module _ (has : ConnectInfoGiven) (name «data» password connect url alternate : List ℕ) where
  abbrev hollows : List Bool
  hollows =
      is_hollow has.name name
      ∷ is_hollow has.«data» «data»
      ∷ is_hollow has.password password
      ∷ is_hollow has.connect_data connect
      ∷ is_hollow has.url url
      ∷ is_hollow has.alternate_address alternate
      ∷ []

  some_hollow : (n : FieldName) → is_given has n ≡ true → given_bytes has name «data» password connect url alternate n ≡ []
      → any_hollow has name «data» password connect url alternate ≡ true
  unfolding any_hollow
  some_hollow Name h e = any_at hollows 0 (hollow _ name h e)
  some_hollow Data h e = any_at hollows 1 (hollow _ «data» h e)
  some_hollow Password h e = any_at hollows 2 (hollow _ password h e)
  some_hollow ConnectData h e = any_at hollows 3 (hollow _ connect h e)
  some_hollow Url h e = any_at hollows 4 (hollow _ url h e)
  some_hollow AlternateAddress h e = any_at hollows 5 (hollow _ alternate h e)

flawed : (room : ℕ) (d : Draft) → d.flaw ≡ true → write_no room d ≡ 11
unfolding write_no
flawed room d e = rw e

entry_refused : (m : Message) (has : EntryGiven) (name «data» url : List ℕ)
    → RefusesEmpty (among_six has) (entry_bytes has name «data» url) (entry_draft m has name «data» url)
unfolding entry_draft
entry_refused m has name «data» url room n h e =
    flawed room (entry_draft m has name «data» url) (some_hollow (among_six has) name «data» [] [] url [] n h e)

pub empty_refused : EmptyRefused
unfolding connect_info_draft
empty_refused = record {
  connect_info_law = λ v has name «data» password connect url alternate room n h e.
      flawed room (connect_info_draft v has name «data» password connect url alternate)
      (rw (some_hollow has name «data» password connect url alternate n h e, or-true));
  add_player_law = λ e. entry_refused (said.AddPlayer e 0);
  create_group_law = λ v. entry_refused (said.CreateGroup v 0);
}
