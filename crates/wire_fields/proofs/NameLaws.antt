-- The names of a message's fields, and what stands at a place of their list.
use mathlib.Core.Path.{◌≡◌, refl, sym, ap, ◌∙◌}
use Prim.Native.Nat.{ℕ, zero, suc, ◌<◌, ◌≤◌}
use mathlib.Core.List.{List, [], ◌∷◌, map}
use lib.ListN.{length, get_or}
use Rattle.std.specs.Prelude.{None, Some, Ok, Err, option_and_then, slice_get}
use Rattle.std.specs.Result.{result_ok}
use Rattle.std.proofs.lemmas.Option.{none-some, same_Some, slice_get_read, slice_get_past}
use Rattle.wire_layout.specs.Layout.{exact_layout}
use Rattle.wire_field.specs.declared.Fields.{Fields}
use Rattle.wire_field.specs.declared.FieldName.{FieldName}
use Rattle.wire_read.specs.Read.{Reading}
use Rattle.wire_read.specs.declared.ReadMessage.{ReadMessage}
use Rattle.wire_read.specs.declared.Message.{Message}
use Rattle.wire_read.specs.declared.Message.TheVariants as said
use Rattle.wire_read.specs.declared.CreateGroup.{CreateGroup}
use Rattle.wire_connect.specs.declared.ConnectInfo.{ConnectInfo}
use Rattle.wire_fields.specs.FieldList.{names_said, listed_as, field_list, at_place}

-- the types of fixed length, which are all the others, have no field
pub none_said : (m : Message) → ((v : ConnectInfo) → m ≡ said.ConnectInfo v → ⊥) → ((e : _) (n : ℕ) → m ≡ said.AddPlayer e n → ⊥)
    → ((v : CreateGroup) (n : ℕ) → m ≡ said.CreateGroup v n → ⊥) → names_said m ≡ []
unfolding names_said exact_layout
none_said (said.ConnectInfo v) i p g = absurd (i v refl)
none_said (said.AddPlayer e n) i p g = absurd (p e n refl)
none_said (said.DestroyPlayer v n) i p g = refl
none_said (said.RequestAddToGroup v) i p g = refl
none_said (said.CreateGroup v n) i p g = absurd (g v n refl)
none_said (said.DestroyGroup v n) i p g = refl
none_said (said.AddToGroup v n) i p g = refl
none_said (said.DeleteFromGroup v n) i p g = refl

-- what stands in the list of a reading, by the message that it holds or does not

pub of_ok : (r : Reading) (read : ReadMessage) → result_ok r ≡ Some read → r ≡ Ok read
of_ok (Ok other) read e = ap Ok (same_Some other read e)
of_ok (Err why) read e = absurd (none-some read e)

pub unread : (r : Reading) (place : ℕ) → result_ok r ≡ None → None ≡ at_place (field_list r) place
unread (Ok read) place e = absurd (none-some read (sym e))
unread (Err why) place e = refl

-- at a place of the list stands the field of the name there, and nothing past the last name
listed : (fs : Fields) (names : List FieldName) (place : ℕ)
    → option_and_then (listed_as fs) (slice_get names place) ≡ at_place (map (listed_as fs) names) place
listed fs [] place = refl
listed fs (n ∷ ns) zero = refl
listed fs (n ∷ ns) (suc place) = listed fs ns place

module _ (fs : Fields) (names : List FieldName) (i place : ℕ) (e : i ≡ place) where
  pub found : (name : FieldName) → i < length names → name ≡ get_or names i name → listed_as fs name ≡ at_place (map (listed_as fs) names) place
  found name h k = sym (ap (option_and_then (listed_as fs)) (slice_get_read names (length names) i name refl h k)) ∙ listed fs names i ∙ rw e

  pub past : length names ≤ i → None ≡ at_place (map (listed_as fs) names) place
  past h = sym (ap (option_and_then (listed_as fs)) (slice_get_past names i h)) ∙ listed fs names i ∙ rw e
