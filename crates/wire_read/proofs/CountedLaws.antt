-- What reading says of a field's characters is the count of the part that it shows: of every listed type at once.
use mathlib.Core.Path.{◌≡◌, refl, sym, ap, ◌∙◌}
use Prim.Native.Nat.{ℕ, ◌+◌}
use mathlib.Core.Bool.{Bool, true, false, cond}
use mathlib.Core.List.{List, [], ◌∷◌}
use lib.ListN.{length, get_or}
use lib.Dec.{eqb, ltb}
use borrow.Author.Tests.{eqb-true}
use Rattle.lists.specs.Lists.{All}
use Rattle.wire_field.specs.declared.Absence.{Absence}
use Rattle.wire_field.specs.declared.Absence.TheVariants.{Both}
use Rattle.std.specs.Prelude.{None}
use Rattle.wire_field.specs.declared.FieldName.{FieldName}
use Rattle.wire_field.specs.declared.FieldName.TheVariants.{Name, Data, Password, ConnectData, AlternateAddress}
use Rattle.wire_field.specs.declared.FieldName.TheVariants as names
use Rattle.wire_field.specs.declared.Form.{Form}
use Rattle.wire_field.specs.declared.Form.TheVariants.{Free, Text, Url}
use Rattle.wire_field.specs.Words.{word}
use Rattle.wire_field.specs.Fields.{Field, absent_by, part_of, form_of, characters_in, count_of, present_field, stated_field, field_named}
use Rattle.wire_layout.specs.Layout.{Layout, Pair, most_bytes, extended_from, second, entry_pairs, entry_layout, exact_layout, connect_pairs, alternate_pair}
use Rattle.wire_layout.specs.Layout.{connect_layout, plain_connect_info, extended_connect_info}
use Rattle.wire_layout.specs.Checks.{field_at, name_no, field_among, layout_no}
use Rattle.wire_layout.proofs.LieLaws.{by_test, named}
use Rattle.wire_connect.specs.Connect.{connect_by}
use Rattle.wire_read.specs.Values.{Row, rows}
use Rattle.wire_read.specs.Read.{Reading, answer, by_rows, reading_of, no_fields, fields_of, FieldsCounted}
use Rattle.wire_read.specs.declared.Message.{Message}

-- ---- forms go by names

form_no : ℕ → Form
form_no n = get_or (Text ∷ Free ∷ Text ∷ Free ∷ Url ∷ Free ∷ []) n Free

form_by_no : (n : FieldName) → form_of n ≡ form_no (name_no n)
unfolding form_no
form_by_no Name = refl
form_by_no Data = refl
form_by_no Password = refl
form_by_no ConnectData = refl
form_by_no names.Url = refl
form_by_no AlternateAddress = refl

same_form : (n k : FieldName) → eqb (name_no n) (name_no k) ≡ true → form_of n ≡ form_of k
same_form n k e = form_by_no n ∙ ap form_no (eqb-true (name_no n) (name_no k) e) ∙ sym (form_by_no k)

-- ---- a field

module _ (m : List ℕ) where
  -- its count is that of its part
  abbrev Counted : Form → Field → Type 0
  Counted form f = count_of f ≡ characters_in form (part_of m f)

  none_counted : (form : Form) → Counted form None
  none_counted Free = refl
  none_counted Text = refl
  none_counted Url = refl

  at_counted : (rule : Absence) (form : Form) (p : ℕ) → Counted form (field_at rule form m p)
  unfolding field_at stated_field
  at_counted rule form p =
      by_test (Counted form) (absent_by rule (record { 0 = word m p }) (word m (p + 4)))
      {x = None} {y = present_field form m (record { 0 = word m p }) (word m (p + 4))} (λ _. none_counted form) (λ _. refl)

  abbrev FormByName : Pair → Type 0
  FormByName p = p.form ≡ form_of p.name

  among_counted : (rule : Absence) (n : FieldName) (ps : List Pair) → All FormByName ps → Counted (form_of n) (field_among rule m n ps)
  among_counted rule n [] h = none_counted (form_of n)
  among_counted rule n (p ∷ ps) h =
      by_test (Counted (form_of n)) (eqb (name_no n) (name_no p.name)) {x = field_at rule p.form m p.position} {y = field_among rule m n ps}
      (λ e. rw (same_form n p.name e, ← h.0) (at_counted rule p.form p.position))
      (λ _. among_counted rule n ps h.1)

-- ---- the listed types

abbrev ByName : Layout → Type 0
ByName l = All (λ (p : Pair). p.form ≡ form_of p.name) l.pairs

connect_by_name : (b : Bool) → ByName (cond b plain_connect_info extended_connect_info)
unfolding connect_layout connect_pairs alternate_pair
connect_by_name true = (refl, (refl, (refl, (refl, (refl, tt)))))
connect_by_name false = (refl, (refl, (refl, (refl, (refl, (refl, tt))))))

listed_by_name : (m : List ℕ) → All (λ (r : Row). ByName (r.layout m)) rows
unfolding connect_by entry_layout entry_pairs exact_layout
listed_by_name m =
    (connect_by_name (ltb (word m second) extended_from), ((refl, (refl, (refl, tt))), (tt, (tt, ((refl, (refl, (refl, tt))), (tt, (tt, (tt, tt))))))))

-- ---- reading

module _ (m : List ℕ) (n : FieldName) where
  abbrev Shown : Reading → Type 0
  Shown r = Counted m (form_of n) (field_named n (fields_of r))

  none : Counted m (form_of n) (field_named n no_fields)
  unfolding no_fields
  none = rw (named [] Both [] n) (none_counted m (form_of n))

  answer_counted : (l : Layout) (said : List ℕ → Message) → ByName l → Shown (answer l said m)
  unfolding answer
  answer_counted l said h =
      by_test Shown (eqb (layout_no l m) 0)
      (λ _. rw (named m l.absence l.pairs n) (among_counted m l.absence n l.pairs h)) (λ _. none)

  rows_counted : (rs : List Row) → All (λ (r : Row). ByName (r.layout m)) rs → (type : ℕ) → Shown (by_rows rs type m)
  rows_counted [] h type = none
  rows_counted (r ∷ rs) h type =
      by_test Shown (eqb type r.kind) (λ _. answer_counted (r.layout m) r.said h.0) (λ _. rows_counted rs h.1 type)

  reading_counted : Shown (reading_of m)
  unfolding reading_of
  reading_counted =
      by_test Shown (ltb most_bytes (length m)) (λ _. none)
      (λ _. by_test Shown (ltb (length m) 4) (λ _. none) (λ _. rows_counted rows (listed_by_name m) (word m 0)))

pub fields_counted : FieldsCounted
fields_counted m n = reading_counted m n
