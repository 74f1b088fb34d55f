-- The fields of a message that has name, data and URL tell the name that is kept of it.
use mathlib.Core.Path.{◌≡◌, refl, ap, ◌∙◌}
use Prim.Native.Nat.{ℕ, ◌-◌, ◌<◌}
use native.Mathlib.Omega.{arith}
use mathlib.Core.Bool.{cond}
use mathlib.Core.List.{List, [], ◌∷◌, ◌++◌, map, append_assoc}
use lib.ListN.{length, take, drop}
use Rattle.lists.specs.Lists.{All, eqbs, flat_map, without_last}
use Rattle.lists.proofs.ListLaws.{all_take, all_drop}
use Rattle.byte_words.specs.Bytes.{IsByte, AllBytes}
use Rattle.wire_text.specs.Text.{units}
use Rattle.wire_field.specs.Fields.{part_of}
use Rattle.std.specs.Prelude.{Some, None, Ok}
use Rattle.wire_field.specs.Fields.{Field}
use Rattle.wire_field.specs.declared.Fields.{Fields}
use Rattle.wire_field.specs.declared.FieldName.TheVariants.{Name, Data, Url}
use Rattle.wire_field.specs.declared.FieldName.{FieldName}
use Rattle.wire_read.specs.declared.Message.{Message}
use Rattle.wire_read.specs.Read.{Reading, reading_of}
use Rattle.wire_fields.specs.FieldList.{names_said, listed_as, field_list}
use Rattle.names.specs.Names.{max_name}
use Rattle.operations.specs.Received.{kept_name}
use Rattle.show_text.specs.Text.{ascii, named}
use Rattle.show_escaped.specs.Escaped.{quoted_units, units_text}
use Rattle.show_escaped.proofs.UnitLaws.{Units, units_in, units_read}
use Rattle.show_parts.specs.Parts.{shown, name_text, count_text, field_text, listed_text, fields_text}

-- the name that a text starts with: its units in quotes, the first 31; none where it starts with something else
abbrev pub name_told : List ℕ → List ℕ
name_told s = take max_name (cond (eqbs (take 6 s) (ascii " name ")) (units_in (drop 6 s)).units [])

-- ---- the units of a part of bytes have 16 bits

units_small : (s : List ℕ) → AllBytes s → All (λ u. u < 65536) (units s)
units_small [] b = tt
units_small (x ∷ []) b = tt
units_small (x ∷ (y ∷ s)) b = (omega (arith, b.0, b.1.0), units_small s b.1.1)

part_bytes : (m : List ℕ) → AllBytes m → (f : Field) → AllBytes (part_of m f)
part_bytes m b None = tt
part_bytes m b (Some s) = all_take IsByte s.size (drop s.start.0 m) (all_drop IsByte s.start.0 m b)

part_small : (m : List ℕ) → AllBytes m → (f : Field) → All (λ u. u < 65536) (without_last (units (part_of m f)))
part_small m b f =
    let us : List ℕ = units (part_of m f) in
    all_take (λ u. u < 65536) (length us - 1) us (units_small (part_of m f) (part_bytes m b f))

-- ---- the name stands in front of data and URL

module _ (m x : List ℕ) where
  abbrev behind_name : Field → Field → List ℕ
  behind_name d l = field_text Data d (part_of m d) ++ (field_text Url l (part_of m l) ++ (ascii ": " ++ x))

  none_told : (d l : Field) → name_told (behind_name d l) ≡ []
  unfolding field_text name_text ascii eqbs
  none_told None None = refl
  none_told None (Some q) = refl
  none_told (Some q) l = refl

  name_told_law : AllBytes m → (n d l : Field) → name_told (field_text Name n (part_of m n) ++ behind_name d l) ≡ kept_name (part_of m n)
  unfolding field_text name_text shown count_text units_text kept_name ascii eqbs
  name_told_law b None d l = none_told d l
  name_told_law b (Some q) d l =
      let us : List ℕ = without_last (units (part_of m (Some q))) in
      let count : List ℕ = named (ascii " ") q.characters in
      rw (append_assoc (quoted_units us) count (behind_name d l))
      (ap (λ (t : Units). take max_name t.units) (units_read us (count ++ behind_name d l) (part_small m b (Some q))))

  pub fields_name : AllBytes m → (a : Message) (fs : Fields) → names_said a ≡ Name ∷ Data ∷ Url ∷ [] → reading_of m ≡ Ok (record { message = a; fields = fs })
      → name_told (fields_text m ++ (ascii ": " ++ x)) ≡ kept_name (part_of m fs.name)
  unfolding fields_text listed_text
  fields_name b a fs n h =
      ap (λ (r : Reading). name_told (flat_map (listed_text m) (field_list r) ++ (ascii ": " ++ x))) h
      ∙ ap (λ (ns : List FieldName). name_told (flat_map (listed_text m) (map (listed_as fs) ns) ++ (ascii ": " ++ x))) n
      ∙ simp append_assoc (name_told_law b fs.name fs.«data» fs.url)
