-- Reading what was written gives back every value and every field (paper 01, "Fields of varying length"), and writing what was read of a
-- message that the writer laid out gives the same bytes. One statement for every type.
use Rattle.std.specs.Prelude.{◌≡◌, ℕ, ◌+◌, false, cond, List, [], ◌∷◌, Some, None, Ok, Err, length, take, eqb}
use Rattle.byte_words.specs.Bytes.{AllWords}
use Rattle.wire_field.specs.Fields.{Field, position_of, part_of, characters_in, field_named}
use Rattle.wire_field.specs.declared.Form.{Form}
use Rattle.wire_field.specs.declared.Fields.{Fields}
use Rattle.wire_field.specs.declared.FieldName.{FieldName}
use Rattle.wire_field.specs.declared.FieldName.TheVariants.{Name, Data, Password, ConnectData, Url, AlternateAddress}
use Rattle.wire_layout.specs.Layout.{Pair}
use Rattle.wire_layout.specs.Checks.{name_no}
use Rattle.wire_read.specs.Values.{layout_of}
use Rattle.wire_read.specs.Read.{Reading, reading_of, field_part}
use Rattle.wire_draft.specs.Draft.{Draft, lengths, space, fixed_words, first_offset, draft_bytes}
use Rattle.wire_draft.specs.Write.{write_no, buffer_of}

-- the values of a draft have 32 bits
abbrev pub Fits : Draft → Type 0
Fits d = AllWords (fixed_words d.said [])

-- a field of these bytes that is laid out at an offset, with the characters that it has (paper 02, A9)
abbrev pub placed : Form → List ℕ → ℕ → Field
placed form [] offset = None
placed form (b ∷ bs) offset =
    Some (record { start = position_of (record { 0 = offset }); size = length (b ∷ bs); characters = characters_in form (b ∷ bs) })

-- the field of a name, the field laid out first at the offset o; absent where no pair has the name
abbrev pub placed_among : ℕ → (FieldName → List ℕ) → FieldName → List Pair → Field
placed_among o bytes n [] = None
placed_among o bytes n (p ∷ ps) =
    cond (eqb (name_no n) (name_no p.name)) (placed p.form (bytes p.name) (o + space (lengths bytes) ps)) (placed_among o bytes n ps)

-- where reading finds the fields of a draft
unfoldable pub placed_fields : Draft → Fields
placed_fields d =
    let at : FieldName → Field = λ n. placed_among (first_offset (layout_of d.said)) d.bytes n (layout_of d.said).pairs in
    record {
      name = at Name;
      «data» = at Data;
      password = at Password;
      connect_data = at ConnectData;
      url = at Url;
      alternate_address = at AlternateAddress;
    }

-- the bytes under a name; none where no pair has the name
abbrev pub bytes_among : (FieldName → List ℕ) → FieldName → List Pair → List ℕ
bytes_among bytes n [] = []
bytes_among bytes n (p ∷ ps) = cond (eqb (name_no n) (name_no p.name)) (bytes p.name) (bytes_among bytes n ps)

abbrev pub bytes_named : FieldName → Draft → List ℕ
bytes_named n d = bytes_among d.bytes n (layout_of d.said).pairs

-- the bytes that a writer lays out for what was read of a message; none for a refused one
abbrev pub bytes_back : List ℕ → Reading → List ℕ
bytes_back m (Err why) = []
bytes_back m (Ok read) = draft_bytes (record { said = read.message; bytes = λ n. part_of m (field_named n read.fields); flaw = false })

-- what holds of a message that a writer accepted: it stands at the buffer's front, says what the draft says, shows each field byte for
-- byte where it was laid out, and is written the same again
pub record ReadsBack (d : Draft) (buffer : List ℕ) : Type 0 where
  pub front : take (length (draft_bytes d)) (buffer_of buffer d) ≡ draft_bytes d
  pub says : reading_of (draft_bytes d) ≡ Ok (record { message = d.said; fields = placed_fields d })
  pub shows : (n : FieldName) → field_part n (draft_bytes d) ≡ bytes_named n d
  pub again : bytes_back (draft_bytes d) (reading_of (draft_bytes d)) ≡ draft_bytes d

-- the statement, over all types, values, fields and buffers
abbrev pub RoundTrip : Type 0
RoundTrip = (d : Draft) (buffer : List ℕ) → Fits d → write_no (length buffer) d ≡ 0 → ReadsBack d buffer
