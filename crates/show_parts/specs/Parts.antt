-- The parts of a message's line: named numbers, GUIDs and fields.
use Rattle.std.specs.Prelude.{ℕ, List, [], ◌++◌, reverse, take, drop, Option, Some, None}
use Rattle.lists.specs.Lists.{flat_map}
use Rattle.show_text.specs.Text.{ascii, named}
use Rattle.show_escaped.specs.Escaped.{hex_text, bytes_text, units_text, url_text}
use Rattle.wire_field.specs.Fields.{Field, part_of, form_of}
use Rattle.wire_field.specs.declared.Form.{Form}
use Rattle.wire_field.specs.declared.Form.TheVariants.{Free, Text, Url}
use Rattle.wire_connect.specs.declared.Guid.{Guid}
use Rattle.wire_field.specs.declared.FieldName.{FieldName}
use Rattle.wire_field.specs.declared.FieldName.TheVariants.{Name, Data, Password, ConnectData, AlternateAddress}
use Rattle.wire_field.specs.declared.FieldName.TheVariants as names
use Rattle.wire_read.specs.Read.{reading_of}
use Rattle.wire_connect.specs.Connect.{guid_bytes}
use Rattle.wire_fields.specs.FieldList.{field_list}
use Rattle.wire_fields.specs.declared.Listed.{Listed}

-- a group of a GUID's digits, with the hyphen behind it
unfoldable pub guid_group : List ℕ → List ℕ
guid_group s = hex_text s ++ ascii "-"

-- 16 bytes in the usual form: the first three groups stand in the message with the low byte first
abbrev pub guid_form : List ℕ → List ℕ
guid_form b =
    guid_group (reverse (take 4 b))
    ++ (guid_group (reverse (take 2 (drop 4 b))) ++ (guid_group (reverse (take 2 (drop 6 b))) ++ (guid_group (take 2 (drop 8 b)) ++ hex_text (drop 10 b))))

unfoldable pub guid_text : Guid → List ℕ
guid_text g = guid_form (guid_bytes g)

unfoldable pub guid_named : List ℕ → Guid → List ℕ
guid_named word g = word ++ guid_text g

-- the bytes of a field, by what they are
unfoldable pub shown : Form → List ℕ → List ℕ
shown Free s = bytes_text s
shown Text s = units_text s
shown Url s = url_text s

unfoldable pub name_text : FieldName → List ℕ
name_text Name = ascii " name "
name_text Data = ascii " data "
name_text Password = ascii " password "
name_text ConnectData = ascii " connect-data "
name_text names.Url = ascii " url "
name_text AlternateAddress = ascii " alternate-address "

-- behind a text the count of its characters (paper 02, A9)
unfoldable pub count_text : Form → ℕ → List ℕ
count_text Free n = []
count_text Text n = named (ascii " ") n
count_text Url n = named (ascii " ") n

-- nothing is shown of an absent field
unfoldable pub field_text : FieldName → Field → List ℕ → List ℕ
field_text which None s = []
field_text which (Some p) s = name_text which ++ (shown (form_of which) s ++ count_text (form_of which) p.characters)

unfoldable pub listed_text : List ℕ → Option Listed → List ℕ
listed_text m None = []
listed_text m (Some l) = field_text l.name l.field (part_of m l.field)

-- all fields of a message, in header order
unfoldable pub fields_text : List ℕ → List ℕ
fields_text m = flat_map (listed_text m) (field_list (reading_of m))
