-- Reading a message (paper 01, "Numbers a call may answer", 1 to 10): the first check to fail is the answer, else what the message says.
use Rattle.std.specs.Prelude.{◌≡◌, ℕ, ◌+◌, cond, List, [], ◌∷◌, length, ltb, eqb, Result, Ok, Err, Some, None}
use Rattle.refusal.specs.declared.Refusal.{Refusal}
use Rattle.refusal.specs.Numbers.{number, refused}
use Rattle.wire_field.specs.declared.Fields.{Fields}
use Rattle.wire_field.specs.declared.FieldName.{FieldName}
use Rattle.wire_field.specs.declared.Absence.TheVariants.{Both}
use Rattle.wire_field.specs.Words.{type_word, word}
use Rattle.wire_layout.specs.Layout.{Layout, most_bytes}
use Rattle.wire_field.specs.Fields.{Field, part_of, form_of, characters_in, count_of, field_named, offset_of, Lies}
use Rattle.wire_layout.specs.Checks.{layout_no, pair_fields, layout_fields}
use Rattle.wire_read.specs.Values.{Row, rows}
use Rattle.wire_read.specs.declared.Message.{Message}
use Rattle.wire_read.specs.declared.ReadMessage.{ReadMessage}

-- what reading answers: the refusal, or what the message says and its fields
abbrev pub Reading : Type 0
Reading = Result ReadMessage Refusal

-- 4 to 10 by the layout; where none fails, what the message says and its fields
unfoldable pub answer : Layout → (List ℕ → Message) → List ℕ → Reading
answer l said m = cond (eqb (layout_no l m) 0) (Ok (record { message = said m; fields = layout_fields l m })) (refused (layout_no l m))

-- the type's row; 3: type not listed
abbrev pub by_rows : List Row → ℕ → List ℕ → Reading
by_rows [] type m = refused 3
by_rows (r ∷ rs) type m = cond (eqb type r.kind) (answer (r.layout m) r.said m) (by_rows rs type m)

abbrev pub by_type : ℕ → List ℕ → Reading
by_type type m = by_rows rows type m

-- 1: message over the most bytes. 2: no whole type word
unfoldable pub reading_of : List ℕ → Reading
reading_of m =
    cond (ltb most_bytes (length m)) (refused 1)
    (cond (ltb (length m) type_word) (refused 2)
    (by_type (word m 0) m))

-- the number of each answer, whatever a message is refused with, by the number of that: 0 of a message that was read
abbrev pub number_by : {E : Type 0} → (E → ℕ) → Result ReadMessage E → ℕ
number_by by (Err why) = by why
number_by by (Ok read) = 0

-- the paper's number of each answer: a refusal's, 0 of a message that was read
abbrev pub number_of : Reading → ℕ
number_of = number_by number

-- no field
unfoldable pub no_fields : Fields
no_fields = pair_fields Both [] []

-- the fields that each answer shows; a refused reading shows none, whatever it is refused with
abbrev pub fields_of : {E : Type 0} → Result ReadMessage E → Fields
fields_of (Err why) = no_fields
fields_of (Ok read) = read.fields

-- a field as the bytes of the message where it lies
abbrev pub field_part : FieldName → List ℕ → List ℕ
field_part name m = part_of m (field_named name (fields_of (reading_of m)))

-- where it starts, counted from the end of the type word
abbrev pub field_start : FieldName → List ℕ → ℕ
field_start name m = offset_of (field_named name (fields_of (reading_of m)))

-- the same, counted from the message's first byte; the empty part of an absent field stands where the type word ends
abbrev pub field_place : FieldName → List ℕ → ℕ
field_place name m = cond (ltb (length m) type_word) 0 (field_start name m + type_word)

-- the bytes that a field states, 0 of an absent one
abbrev pub size_of : Field → ℕ
size_of None = 0
size_of (Some s) = s.size

-- the statement: a field that reading shows lies in the message, after the type word, and its part has all its bytes
pub record FieldsWhole : Type 0 where
  pub lies : (m : List ℕ) (n : FieldName) → Lies (length m) (field_named n (fields_of (reading_of m)))
  pub all_shown : (m : List ℕ) (n : FieldName) → length (field_part n m) ≡ size_of (field_named n (fields_of (reading_of m)))

-- the statement: what reading says of a field is the count of the part that it shows (paper 02, A9)
abbrev pub FieldsCounted : Type 0
FieldsCounted = (m : List ℕ) (n : FieldName) → count_of (field_named n (fields_of (reading_of m))) ≡ characters_in (form_of n) (field_part n m)
