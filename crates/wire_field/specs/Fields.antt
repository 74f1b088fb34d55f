-- A field of varying length (paper 01, "What the station covers" on offsets and positions, "Fields of varying length", numbers 8 to 10; paper
-- 02, A9).
use Rattle.std.specs.Prelude.{ℕ, ◌+◌, ◌-◌, ◌≤◌, Bool, true, cond, not, ◌&&◌, ◌||◌, List, [], ◌∷◌, length, take, drop, ltb, eqb, Option, Some, None}
use Rattle.refusal.specs.Checks.{when, first_of}
use Rattle.wire_text.specs.Text.{is_text, is_url, text_count, url_count, checked_text}
use Rattle.wire_field.specs.Words.{type_word}
use Rattle.wire_field.specs.declared.Offset.{Offset}
use Rattle.wire_field.specs.declared.Position.{Position}
use Rattle.wire_field.specs.declared.Span.{Span}
use Rattle.wire_field.specs.declared.Form.{Form}
use Rattle.wire_field.specs.declared.Form.TheVariants.{Free, Text, Url}
use Rattle.wire_field.specs.declared.Absence.{Absence}
use Rattle.wire_field.specs.declared.Absence.TheVariants.{Both, Either}
use Rattle.wire_field.specs.declared.Fields.{Fields}
use Rattle.wire_field.specs.declared.FieldName.{FieldName}
use Rattle.wire_field.specs.declared.FieldName.TheVariants as names

-- a field of a message
abbrev pub Field : Type 0
Field = Option Span

-- offset 0 is the byte behind the type word, position 0 the message's first byte: offset 80 is position 84
abbrev pub position_of : Offset → Position
position_of o = record { 0 = o.0 + type_word }

-- absent: offset and size both 0; or, by the other rule (paper 02, A1), one of them
abbrev pub absent_by : Absence → Offset → ℕ → Bool
absent_by Both o size = eqb o.0 0 && eqb size 0
absent_by Either o size = eqb o.0 0 || eqb size 0

-- the very part of the message that holds a field, terminator included
abbrev pub part_of : List ℕ → Field → List ℕ
part_of m None = []
part_of m (Some s) = take s.size (drop s.start.0 m)

-- name and password are text, the URL is bytes, the others are free
abbrev pub form_of : FieldName → Form
form_of names.Name = Text
form_of names.Data = Free
form_of names.Password = Text
form_of names.ConnectData = Free
form_of names.Url = Url
form_of names.AlternateAddress = Free

-- what a form asks of the bytes
abbrev pub well_formed : Form → List ℕ → Bool
well_formed Free s = true
well_formed Text s = is_text s
well_formed Url s = is_url s

-- how many characters a text has (paper 02, A9); what is free is no text
abbrev pub characters_in : Form → List ℕ → ℕ
characters_in Free s = 0
characters_in Text s = text_count s
characters_in Url s = url_count s

-- what the check of the bytes says
abbrev pub form_check : Form → List ℕ → Option ℕ
form_check form s = checked_text (well_formed form s) (characters_in form s)

-- 8: offset or size is 0. 9: the field starts in the fixed part, or goes past the message's end
unfoldable pub place_checks : ℕ → Position → Offset → ℕ → List ℕ
place_checks len fixed o size =
    when (eqb o.0 0) 8
    ∷ when (eqb size 0) 8
    ∷ when (ltb (position_of o).0 fixed.0) 9
    ∷ when (ltb len ((position_of o).0 + size)) 9
    ∷ []

unfoldable pub place_no : ℕ → Position → Offset → ℕ → ℕ
place_no len fixed o size = first_of (place_checks len fixed o size)

-- the bytes of a field that is present
abbrev pub stated_part : List ℕ → Offset → ℕ → List ℕ
stated_part m o size = take size (drop (position_of o).0 m)

-- a field that is present: where it starts, its size, and how many characters it has
abbrev pub present_field : Form → List ℕ → Offset → ℕ → Field
present_field form m o size = Some (record { start = position_of o; size = size; characters = characters_in form (stated_part m o size) })

-- the field that an offset and a size state
unfoldable pub stated_field : Absence → Form → List ℕ → Offset → ℕ → Field
stated_field rule form m o size = cond (absent_by rule o size) None (present_field form m o size)

-- of a present field 8 and 9, then 10: name, password or URL ill-formed
abbrev pub present_no : Form → List ℕ → Position → Offset → ℕ → ℕ
present_no form m fixed o size = first_of (place_no (length m) fixed o size ∷ when (not (well_formed form (stated_part m o size))) 10 ∷ [])

-- an absent field passes them
unfoldable pub stated_no : Absence → Form → List ℕ → Position → Offset → ℕ → ℕ
stated_no rule form m fixed o size = cond (absent_by rule o size) 0 (present_no form m fixed o size)

-- the characters that are said of a field, 0 of an absent one
abbrev pub count_of : Field → ℕ
count_of None = 0
count_of (Some s) = s.characters

-- the field of a name
abbrev pub field_named : FieldName → Fields → Field
field_named names.Name fs = fs.name
field_named names.Data fs = fs.«data»
field_named names.Password fs = fs.password
field_named names.ConnectData fs = fs.connect_data
field_named names.Url fs = fs.url
field_named names.AlternateAddress fs = fs.alternate_address

-- in a message of n bytes a present field lies after the type word and ends within the message
abbrev pub Lies : ℕ → Field → Type 0
Lies n None = Unit {0}
Lies n (Some s) = (type_word ≤ s.start.0) × (s.start.0 + s.size ≤ n)

-- bytes between the end of the type word and a field: its offset
abbrev pub offset_of : Field → ℕ
offset_of None = 0
offset_of (Some s) = s.start.0 - type_word
