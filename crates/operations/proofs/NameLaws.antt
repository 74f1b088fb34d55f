-- The name of a message: a valid one is kept of a message that reading accepts, and the code keeps that one.
use mathlib.Core.Path.{◌≡◌, refl, ap, sym, ◌∙◌}
use Prim.Native.Nat.{ℕ, suc, ◌+◌, ◌-◌, ◌*◌, ◌/◌, ◌%◌, ◌≤◌}
use Rattle.std.specs.Prelude.{min}
use Rattle.std.proofs.lemmas.List.{take_min}
use native.Mathlib.Omega.{arith}
use mathlib.Core.Bool.{Bool, true, false, cond, not, ◌&&◌}
use mathlib.Core.List.{List, [], ◌∷◌, map}
use lib.ListN.{length, take, length-take}
use lib.Seq.{take-take}
use lib.Dec.{eqb, leb, ltb}
use borrow.Author.Tests.{le-leb, not-false}
use Rattle.lists.specs.Lists.{every, without_last}
use Rattle.lists.proofs.ListLaws.{and_l, and_r, and_i, every_take}
use Rattle.refusal.specs.Checks.{when}
use Rattle.refusal.proofs.CheckLaws.{each_passed, passed}
use Rattle.byte_words.specs.Bytes.{little}
use Rattle.wire_text.specs.Text.{units, ends_in_zero, is_text}
use Rattle.wire_field.specs.declared.Absence.TheVariants.{Both}
use Rattle.wire_field.specs.declared.Form.TheVariants.{Text}
use Rattle.wire_field.specs.declared.Offset.{Offset}
use Rattle.wire_field.specs.declared.Position.{Position}
use Rattle.std.specs.Prelude.{None}
use Rattle.wire_field.specs.Words.{word}
use Rattle.wire_field.specs.Fields.{absent_by, present_field, stated_field, stated_part, part_of, place_no, present_no, stated_no}
use Rattle.wire_layout.specs.Layout.{Layout, Pair, entry_pairs, entry_layout}
use Rattle.wire_layout.specs.Checks.{pair_no, field_at, pairs_no, pair_fields, layout_checks, layout_no, layout_fields}
use Rattle.names.specs.Names.{max_name, is_name_unit, units_of, valid_name}
use Rattle.names.proofs.UnitLaws.{length_units}
use Rattle.operations.specs.Received.{kept_name}

-- ---- a text is a valid name

text_units : (us : List ℕ) → ends_in_zero us ≡ true → every is_name_unit (without_last us) ≡ true
unfolding every
text_units [] h = refl
text_units (u ∷ []) h = refl
text_units (u ∷ v ∷ us) h = go (eqb u 0) refl h (text_units (v ∷ us))
  where
    go : (b : Bool) → eqb u 0 ≡ b → cond b false (ltb u 65536 && ends_in_zero (v ∷ us)) ≡ true → (ends_in_zero (v ∷ us) ≡ true → every is_name_unit (without_last (v ∷ us)) ≡ true)
        → every is_name_unit (without_last (u ∷ v ∷ us)) ≡ true
    go true e h ih = absurd (let z : ◌≡◌ {A = ℕ} 0 1 = cc in omega arith)
    go false e h ih =
        let n : suc (suc (length us)) - 1 ≡ suc (length us) = omega arith in
        let m : suc (length us) - 1 ≡ length us = omega arith in
        rw (n, e, and_l (ltb u 65536) (ends_in_zero (v ∷ us)) h) (rw m at (ih (and_r (ltb u 65536) (ends_in_zero (v ∷ us)) h)))

length_kept : (part : List ℕ) → length (kept_name part) ≤ max_name
unfolding kept_name
length_kept part = omega (arith, length-take max_name (without_last (units part)))

text_valid : (part : List ℕ) → is_text part ≡ true → valid_name (kept_name part) ≡ true
unfolding is_text valid_name kept_name
text_valid part h =
    and_i (leb (length (kept_name part)) max_name) (every is_name_unit (kept_name part)) (le-leb (length (kept_name part)) max_name (length_kept part))
    (every_take is_name_unit max_name (without_last (units part)) (text_units (units part) (and_r (eqb (length part % 2) 0) (ends_in_zero (units part)) h)))

none_valid : valid_name (kept_name []) ≡ true
unfolding valid_name kept_name every
none_valid = refl

-- ---- and so is the name of every message that reading accepts

module _ (m : List ℕ) (fixed : Position) (o : Offset) (size : ℕ) where
  part_valid : stated_no Both Text m fixed o size ≡ 0 → valid_name (kept_name (part_of m (stated_field Both Text m o size))) ≡ true
  unfolding stated_no stated_field
  part_valid h = go (absent_by Both o size) refl h
    where
      go : (b : Bool) → absent_by Both o size ≡ b → cond b 0 (present_no Text m fixed o size) ≡ 0
          → valid_name (kept_name (part_of m (cond b None (present_field Text m o size)))) ≡ true
      go true e h = none_valid
      go false e h =
          let t = each_passed (place_no (length m) fixed o size ∷ when (not (is_text (stated_part m o size))) 10 ∷ []) 1 h in
          text_valid (stated_part m o size) (not-false (is_text (stated_part m o size)) (passed (not (is_text (stated_part m o size))) 10 (omega arith) t))

-- of a message that is an entry block, wherever it stands
pub name_valid : (kind p fixed : ℕ) (m : List ℕ) → layout_no (entry_layout kind p fixed) m ≡ 0
    → valid_name (kept_name (part_of m (layout_fields (entry_layout kind p fixed) m).name)) ≡ true
unfolding layout_no layout_checks pairs_no pair_no entry_layout entry_pairs pair_fields field_at
name_valid kind p fixed m e =
    let l : Layout = entry_layout kind p fixed in
    let pairs = each_passed (layout_checks l m) 4 e in
    part_valid m (record { 0 = fixed }) (record { 0 = word m (p + 24) }) (word m (p + 24 + 4))
    (each_passed (map (λ (p : Pair). pair_no l.absence p.form m l.fixed p.position) l.pairs) 0 pairs)

-- ---- the units that the code keeps

pub units_little : (s : List ℕ) → units_of little s ≡ units s
units_little [] = refl
units_little (a ∷ []) = refl
units_little (a ∷ b ∷ s) = let e : a + 256 * (b + 256 * 0) ≡ a + 256 * b = omega arith in rw (e, units_little s)

length_text : (s : List ℕ) → length (units s) ≡ length s / 2
length_text s = ap length (sym (units_little s)) ∙ length_units little s

module _ (s : List ℕ) (bytes : ℕ) (long : length s ≡ bytes) where
  count : length (units s) ≡ bytes / 2
  count = length_text s ∙ rw long

  pub kept_count : (n : ℕ) → n ≡ min (bytes / 2 - 1) max_name → take n (units s) ≡ kept_name s
  unfolding kept_name
  kept_count n e =
      let us : List ℕ = units s in
      let k : n ≡ min max_name (length (without_last us)) = omega (arith, e, count, length-take (length us - 1) us) in
      sym (take-take n (length us - 1) us (omega (arith, e, count))) ∙ ap (λ (i : ℕ). take i (without_last us)) k ∙ take_min max_name (without_last us)
