-- The fields of a message that passed its layout's checks lie in it: of every layout at once.
use mathlib.Core.Path.{◌≡◌, refl}
use Prim.Native.Nat.{ℕ, ◌+◌, ◌≤◌}
use mathlib.Core.Bool.{Bool, true, false, cond, not}
use mathlib.Core.List.{List, [], ◌∷◌, map}
use lib.ListN.{length}
use lib.Dec.{eqb, ltb, lit<}
use borrow.Author.Tests.{ltb-false}
use native.Mathlib.Omega.{arith}
use Rattle.refusal.specs.Checks.{when, first_of}
use Rattle.refusal.proofs.CheckLaws.{passed, each_passed}
use Rattle.wire_field.specs.declared.Offset.{Offset}
use Rattle.wire_field.specs.declared.Position.{Position}
use Rattle.wire_field.specs.declared.Form.{Form}
use Rattle.std.specs.Prelude.{Some, None}
use Rattle.wire_field.specs.Fields.{position_of, place_no, well_formed, characters_in, absent_by, stated_part, stated_field, stated_no, field_named, Lies}
use Rattle.wire_field.proofs.FieldLaws.{in_place_law}
use Rattle.wire_field.specs.declared.Absence.{Absence}
use Rattle.wire_field.specs.declared.FieldName.{FieldName}
use Rattle.wire_field.specs.declared.FieldName.TheVariants.{Name, Data, Password, ConnectData, Url, AlternateAddress}
use Rattle.wire_field.specs.Words.{word}
use Rattle.wire_layout.specs.Layout.{Layout, Pair}
use Rattle.wire_layout.specs.Checks.{pair_no, field_at, pairs_no, layout_checks, layout_no, name_no, field_among, pair_fields, layout_fields}

-- what holds of both values holds of the one that a test picks
pub by_test : {A : Type 0} (P : A → Type 0) (b : Bool) {x y : A} → (b ≡ true → P x) → (b ≡ false → P y) → P (cond b x y)
by_test P true f g = f refl
by_test P false f g = g refl

module _ (m : List ℕ) where
  -- k is the check of its bytes
  stated_lies : (fixed : Position) (o : Offset) (size n k : ℕ) (absent : Bool)
      → cond absent 0 (first_of (place_no (length m) fixed o size ∷ k ∷ [])) ≡ 0
      → Lies (length m) (cond absent None (Some (record { start = position_of o; size = size; characters = n })))
  stated_lies fixed o size n k true e = tt
  stated_lies fixed o size n k false e =
      (omega arith, in_place_law (length m) fixed o size (each_passed (place_no (length m) fixed o size ∷ k ∷ []) 0 e))

  pair_lies : (rule : Absence) (form : Form) (fixed p : ℕ) → pair_no rule form m fixed p ≡ 0 → Lies (length m) (field_at rule form m p)
  unfolding pair_no stated_no field_at stated_field
  pair_lies rule form fixed p e =
      let o : Offset = record { 0 = word m p } in
      let s : List ℕ = stated_part m o (word m (p + 4)) in
      stated_lies (record { 0 = fixed }) o (word m (p + 4)) (characters_in form s) (when (not (well_formed form s)) 10) (absent_by rule o (word m (p + 4))) e

  among_lies : (rule : Absence) (fixed : ℕ) (n : FieldName) (ps : List Pair) → pairs_no rule m fixed ps ≡ 0 → Lies (length m) (field_among rule m n ps)
  unfolding pairs_no
  among_lies rule fixed n [] e = tt
  among_lies rule fixed n (p ∷ ps) e =
      let f : Pair → ℕ = λ r. pair_no rule r.form m fixed r.position in
      let h : f p ≡ 0 = each_passed (map f (p ∷ ps)) 0 e in
      by_test (Lies (length m)) (eqb (name_no n) (name_no p.name))
      (λ _. pair_lies rule p.form fixed p.position h)
      (λ _. among_lies rule fixed n ps (rw h at e))

  pub named : (rule : Absence) (ps : List Pair) (n : FieldName) → field_named n (pair_fields rule m ps) ≡ field_among rule m n ps
  unfolding pair_fields
  named rule ps Name = refl
  named rule ps Data = refl
  named rule ps Password = refl
  named rule ps ConnectData = refl
  named rule ps Url = refl
  named rule ps AlternateAddress = refl

  -- no pairs, no field
  pub none_lie : (rule : Absence) (n : FieldName) → Lies (length m) (field_named n (pair_fields rule [] []))
  unfolding pair_fields
  none_lie rule Name = tt
  none_lie rule Data = tt
  none_lie rule Password = tt
  none_lie rule ConnectData = tt
  none_lie rule Url = tt
  none_lie rule AlternateAddress = tt

  -- and the message has its whole fixed part
  pub fixed_whole : (l : Layout) → layout_no l m ≡ 0 → l.fixed ≤ length m
  unfolding layout_no layout_checks
  fixed_whole l e =
      ltb-false (length m) l.fixed (passed (ltb (length m) l.fixed) 4 (lit< tt) (each_passed (layout_checks l m) 0 e))

  pub layout_lies : (l : Layout) → layout_no l m ≡ 0 → (n : FieldName) → Lies (length m) (field_named n (layout_fields l m))
  unfolding layout_no layout_checks
  layout_lies l e n =
      rw (named l.absence l.pairs n)
      (among_lies l.absence l.fixed n l.pairs (each_passed (layout_checks l m) 4 e))
