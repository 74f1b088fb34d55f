-- The list of a message's fields, and a place in it (paper 01, "Fields of varying length"; the order is that of "What the station covers").
use Rattle.std.specs.Prelude.{◌≡◌, ℕ, zero, suc, ◌+◌, ◌<◌, ◌^◌, cond, List, [], Option, None, Some, Ok, Err, map, length, get_or, ltb}
use Rattle.std.specs.Borrow.{Bor}
use Rattle.wire_field.specs.Fields.{Field, field_named, part_of, form_of, characters_in, count_of}
use Rattle.wire_field.specs.declared.Fields.{Fields}
use Rattle.wire_field.specs.declared.FieldName.{FieldName}
use Rattle.wire_layout.specs.Layout.{Pair}
use Rattle.wire_read.specs.Values.{layout_of}
use Rattle.wire_read.specs.Read.{Reading, reading_of, fields_of, field_part, field_place}
use Rattle.wire_read.specs.declared.Message.{Message}
use Rattle.wire_fields.specs.declared.Listed.{Listed}

abbrev pub name_of : Pair → FieldName
name_of p = p.name

-- the fields that a message has by what it says: those that its layout has, in the layout's order
unfoldable pub names_said : Message → List FieldName
names_said said = map name_of (layout_of said).pairs

-- a refused message has none
abbrev pub names_of : Reading → List FieldName
names_of (Err why) = []
names_of (Ok read) = names_said read.message

-- how many fields the message has
unfoldable pub field_count : List ℕ → ℕ
field_count m = length (names_of (reading_of m))

abbrev pub listed_as : Fields → FieldName → Option Listed
listed_as fs name = Some (record { name = name; field = field_named name fs })

-- each field with its name
abbrev pub field_list : Reading → List (Option Listed)
field_list r = map (listed_as (fields_of r)) (names_of r)

-- what stands at a place of a list of fields
abbrev pub at_place : List (Option Listed) → ℕ → Option Listed
at_place l place = get_or l place None

-- what stands at a place of the message's list of fields
unfoldable pub listed_at : List ℕ → ℕ → Option Listed
listed_at m place = at_place (field_list (reading_of m)) place

-- nothing is shown past the last field and of an absent one
abbrev pub part_in : List ℕ → Option Listed → List ℕ
part_in m None = []
part_in m (Some l) = part_of m l.field

-- the very part of the message that holds the field at a place
unfoldable pub part_at : List ℕ → ℕ → List ℕ
part_at m place = part_in m (listed_at m place)

-- how many characters it has (paper 02, A9); none past the last field
abbrev pub count_in : Option Listed → ℕ
count_in None = 0
count_in (Some l) = count_of l.field

unfoldable pub count_at : List ℕ → ℕ → ℕ
count_at m place = count_in (listed_at m place)

-- where it starts: where the field does; past the last field the message's first byte
abbrev pub place_in : List ℕ → Option Listed → ℕ
place_in m None = 0
place_in m (Some l) = field_place l.name m

unfoldable pub part_place : List ℕ → ℕ → ℕ
part_place m place = place_in m (listed_at m place)

-- a slice of the message shows the field at a place: it has that part's bytes, and is that very part of the message
abbrev pub Shows : Bor (List ℕ) → ℕ → Bor (List ℕ) → Type 0
Shows m place r = (r.now ≡ part_at m.now place) × (r.ref_ptr ≡ (m.ref_ptr.0, part_place m.now place + m.ref_ptr.1))

-- the next place: one more, but the last of the machine's places stays
unfoldable pub place_after : ℕ → ℕ
place_after place = cond (ltb place 0xFFFFFFFFFFFFFFFF) (place + 1) place

-- the place of a reader that was opened and then moved n times
abbrev pub place_moved : ℕ → ℕ
place_moved zero = 0
place_moved (suc n) = place_after (place_moved n)

-- the statement: n moves bring a reader to place n
abbrev pub EachPlaceReached : Type 0
EachPlaceReached = (n : ℕ) → n < 2 ^ 64 → place_moved n ≡ n

-- the statement: what is shown at a field's place is what is shown under its name
abbrev pub ShownAsNamed : Type 0
ShownAsNamed = (m : List ℕ) (place : ℕ) (name : FieldName) (field : Field) → listed_at m place ≡ Some (record { name = name; field = field }) → part_at m place ≡ field_part name m

-- the statement: the count at a field's place is that of what is shown there
abbrev pub CountedAsShown : Type 0
CountedAsShown = (m : List ℕ) (place : ℕ) (name : FieldName) (field : Field) → listed_at m place ≡ Some (record { name = name; field = field })
    → count_at m place ≡ characters_in (form_of name) (part_at m place)
