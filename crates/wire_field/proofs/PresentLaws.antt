-- The checks of a present field, one after the other, by the part after the type word.
use mathlib.Core.Path.{◌≡◌}
use Prim.Native.Nat.{ℕ, ◌+◌, ◌-◌, ◌≤◌}
use native.Mathlib.Omega.{arith}
use mathlib.Core.Bool.{false}
use mathlib.Core.List.{List}
use lib.Dec.{eqb}
use lib.ListN.{length, take, drop, length-take}
use Rattle.std.specs.Prelude.{Some, None}
use Rattle.wire_text.proofs.TextLaws.{check_good, check_bad}
use Rattle.wire_field.specs.Words.{whole}
use Rattle.wire_field.specs.Fields.{place_no, well_formed, characters_in, form_check, count_of, present_field, present_no}
use Rattle.wire_field.specs.declared.Form.{Form}
use Rattle.wire_field.specs.declared.Offset.{Offset}
use Rattle.wire_field.specs.declared.Position.{Position}
use Rattle.wire_field.proofs.FieldLaws.{part_whole, characters_few}
use Rattle.wire_field.proofs.WholeLaws.{length_whole, drop_whole}

module _ (kind : ℕ) (rest : List ℕ) (form : Form) (fixed : Position) (o : Offset) (size : ℕ) where
  -- its part, by its offset
  abbrev part : List ℕ
  part = take (o.0 + size - o.0) (drop o.0 rest)

  module _ {place : ℕ} (p : place ≡ place_no (4 + length rest) fixed o size) where
    pub out_of_place : eqb place 0 ≡ false → place ≡ present_no form (whole kind rest) fixed o size
    out_of_place z = rw (length_whole, ← p, z)

    pub bad_bytes : place ≡ 0 → None ≡ form_check form part → 10 ≡ present_no form (whole kind rest) fixed o size
    bad_bytes z e =
        rw (length_whole, ← p, z, drop_whole kind rest o.0, ← part_whole rest o.0 size, check_bad (well_formed form part) (characters_in form part) e)

    pub good_bytes : {count : ℕ} → place ≡ 0 → Some count ≡ form_check form part → 0 ≡ present_no form (whole kind rest) fixed o size
    good_bytes z e =
        rw (length_whole, ← p, z, drop_whole kind rest o.0, ← part_whole rest o.0 size, (check_good (well_formed form part) (characters_in form part) e).0)

  pub good_count : {count : ℕ} → Some count ≡ form_check form part → count ≡ count_of (present_field form (whole kind rest) o size)
  good_count e = rw (drop_whole kind rest o.0, ← part_whole rest o.0 size) (check_good (well_formed form part) (characters_in form part) e).1

-- a field of so many bytes has no more characters
pub count_fits : (rest : List ℕ) (form : Form) (a size : ℕ) {count : ℕ} → Some count ≡ form_check form (take (a + size - a) (drop a rest)) → count ≤ size
count_fits rest form a size e =
    let s : List ℕ = take (a + size - a) (drop a rest) in
    let g = check_good (well_formed form s) (characters_in form s) e in
    omega (arith, g.1, characters_few form s, length-take (a + size - a) (drop a rest))
