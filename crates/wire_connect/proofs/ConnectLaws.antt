-- Both forms of 0xC1: their fixed part, and the five fields that both have.
use mathlib.Core.Path.{◌≡◌, refl, sym}
use Prim.Native.Nat.{ℕ, ◌+◌, ◌≤◌}
use mathlib.Core.Bool.{Bool, true, false, cond}
use mathlib.Core.List.{List}
use lib.ListN.{length}
use lib.Dec.{ltb, eqb}
use Rattle.wire_layout.specs.Layout.{second, extended_from, plain_end, extended_end, connect_absence, connect_pairs, alternate_pair, connect_layout, plain_connect_info, extended_connect_info}
use Rattle.wire_layout.specs.Checks.{layout_no, field_at, pair_no, pair_fields, layout_fields}
use Rattle.wire_layout.proofs.PairLaws.{connect_more}
use Rattle.wire_field.specs.declared.Form.TheVariants.{Free, Text, Url}
use Rattle.wire_layout.proofs.LieLaws.{fixed_whole}
use Rattle.wire_field.specs.Words.{type_word, whole, word}
use Rattle.wire_field.proofs.WholeLaws.{length_whole}
use Rattle.wire_connect.specs.Connect.{connect_by, connect_info}
use Rattle.wire_connect.specs.Inner.{FixedWhole}
use native.Mathlib.Omega.{arith}

at_least_plain : (n : ℕ) (plain : Bool) → (cond plain plain_connect_info extended_connect_info).fixed ≤ n → plain_end ≤ n
unfolding connect_layout
at_least_plain n true h = h
at_least_plain n false h = omega arith

-- a message that passed has the whole fixed part of its form, which is at least that of the plain one
pub form_whole : (rest : List ℕ) → ((kind : ℕ) → 0 ≡ layout_no (connect_info (whole kind rest)) (whole kind rest))
    → (plain_end ≤ type_word + length rest) × FixedWhole rest
unfolding connect_by
form_whole rest e =
    let f : FixedWhole rest = λ kind. rw length_whole at (fixed_whole (whole kind rest) (connect_info (whole kind rest)) (sym (e kind))) in
    (at_least_plain _ (ltb (word (whole 0 rest) second) extended_from) (f 0), f)

-- they stand at the same positions
pub five_fields : (plain : Bool) (m : List ℕ)
    → layout_fields (cond plain plain_connect_info extended_connect_info) m
    ≡ record {
      name = field_at connect_absence Text m 12;
      «data» = field_at connect_absence Free m 20;
      password = field_at connect_absence Text m 28;
      connect_data = field_at connect_absence Free m 36;
      url = field_at connect_absence Url m 44;
      alternate_address = (layout_fields (cond plain plain_connect_info extended_connect_info) m).alternate_address;
    }
unfolding pair_fields connect_layout connect_pairs alternate_pair
five_fields true m = refl
five_fields false m = refl

-- the extended form has one field more: it decides where the five pass
module _ (m : List ℕ) where
  abbrev five : ℕ
  five = layout_no (connect_layout connect_absence extended_end connect_pairs) m

  abbrev address : ℕ
  address = pair_no connect_absence Free m extended_end plain_end

  one_more : layout_no extended_connect_info m ≡ cond (eqb five 0) address five
  unfolding alternate_pair
  one_more = connect_more connect_absence m extended_end connect_pairs alternate_pair

  pub five_decide : eqb five 0 ≡ false → five ≡ layout_no extended_connect_info m
  five_decide z = rw (one_more, z)

  pub address_decides : 0 ≡ five → address ≡ layout_no extended_connect_info m
  address_decides z = rw (one_more, ← z)

one_kind : (b : Bool) → (cond b plain_connect_info extended_connect_info).kind ≡ 0xC1
unfolding connect_layout
one_kind true = refl
one_kind false = refl

-- both forms have one type word
pub connect_kind : (dnet : ℕ) → (connect_by dnet).kind ≡ 0xC1
unfolding connect_by
connect_kind dnet = one_kind (ltb dnet 7)
