-- The checks 4 to 10 of a message of a known layout (paper 01, "Numbers a call may answer"), in the table's order, and its fields.
use Rattle.std.specs.Prelude.{ℕ, ◌+◌, cond, not, ◌&&◌, ◌||◌, List, [], ◌∷◌, map, length, ltb, eqb, None}
use Rattle.refusal.specs.Checks.{when, first_of}
use Rattle.wire_field.specs.declared.Form.{Form}
use Rattle.wire_field.specs.declared.Absence.{Absence}
use Rattle.wire_field.specs.declared.FieldName.{FieldName}
use Rattle.wire_field.specs.declared.FieldName.TheVariants.{Name, Data, Password, ConnectData, Url, AlternateAddress}
use Rattle.wire_field.specs.declared.Fields.{Fields}
use Rattle.wire_field.specs.Words.{word}
use Rattle.wire_field.specs.Fields.{Field, stated_field, stated_no}
use Rattle.wire_layout.specs.Layout.{Layout, Pair, first}

-- 8, 9 and 10 for the field whose offset stands at p and its size right after it
unfoldable pub pair_no : Absence → Form → List ℕ → ℕ → ℕ → ℕ
pair_no rule form m fixed p = stated_no rule form m (record { 0 = fixed }) (record { 0 = word m p }) (word m (p + 4))

-- the field whose offset stands at p and its size right after it
unfoldable pub field_at : Absence → Form → List ℕ → ℕ → Field
field_at rule form m p = stated_field rule form m (record { 0 = word m p }) (word m (p + 4))

-- 6: flags of 0xC1 neither 2 (client) nor 4 (peer)
unfoldable pub flags_no : ℕ → ℕ
flags_no flags = when (not (eqb flags 2 || eqb flags 4)) 6

-- 7: an id is 0
abbrev pub id_no : List ℕ → ℕ → ℕ
id_no m p = when (eqb (word m p) 0) 7

unfoldable pub ids_no : List ℕ → List ℕ → ℕ
ids_no m ids = first_of (map (id_no m) ids)

-- 8, 9 and 10 of each field in turn, in header order
unfoldable pub pairs_no : Absence → List ℕ → ℕ → List Pair → ℕ
pairs_no rule m fixed ps = first_of (map (λ (p : Pair). pair_no rule p.form m fixed p.position) ps)

unfoldable pub layout_checks : Layout → List ℕ → List ℕ
layout_checks l m =
    when (ltb (length m) l.fixed) 4
    ∷ when (l.exact && ltb l.fixed (length m)) 5
    ∷ cond l.flags (flags_no (word m first)) 0
    ∷ ids_no m l.ids
    ∷ pairs_no l.absence m l.fixed l.pairs
    ∷ []

-- the number with which a message of this layout is refused, 0 where it is accepted
unfoldable pub layout_no : Layout → List ℕ → ℕ
layout_no l m = first_of (layout_checks l m)

-- names in header order
abbrev pub name_no : FieldName → ℕ
name_no Name = 0
name_no Data = 1
name_no Password = 2
name_no ConnectData = 3
name_no Url = 4
name_no AlternateAddress = 5

-- the field of a name: the pair of that name says where it is; absent where the layout has none
abbrev pub field_among : Absence → List ℕ → FieldName → List Pair → Field
field_among rule m n [] = None
field_among rule m n (p ∷ ps) = cond (eqb (name_no n) (name_no p.name)) (field_at rule p.form m p.position) (field_among rule m n ps)

-- the fields that pairs state
unfoldable pub pair_fields : Absence → List ℕ → List Pair → Fields
pair_fields rule m ps = record {
  name = field_among rule m Name ps;
  «data» = field_among rule m Data ps;
  password = field_among rule m Password ps;
  connect_data = field_among rule m ConnectData ps;
  url = field_among rule m Url ps;
  alternate_address = field_among rule m AlternateAddress ps;
}

-- the fields of a message of a layout
abbrev pub layout_fields : Layout → List ℕ → Fields
layout_fields l m = pair_fields l.absence m l.pairs
