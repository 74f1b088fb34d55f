-- Laws of the fields that a writer laid out: how reading checks them, where it finds them, and what it shows; of every list of pairs at once.
use mathlib.Core.Path.{◌≡◌, refl, ◌∙◌}
use Prim.Native.Nat.{ℕ, zero, suc, ◌+◌, ◌≤◌, ◌<◌}
use mathlib.Core.Bool.{Bool, true, false, cond, not, ◌||◌, true≢false}
use mathlib.Core.List.{List, [], ◌∷◌, ◌++◌, append_assoc}
use lib.ListN.{length, length-append}
use lib.Seq.{drop_at, take-append_seam}
use lib.Dec.{eqb, eqb-suc-zero}
use native.Mathlib.Omega.{arith}
use borrow.Author.Tests.{ne_eqb, le-ltb}
use Rattle.refusal.specs.Checks.{when}
use Rattle.refusal.proofs.CheckLaws.{the_last}
use Rattle.wire_field.specs.Words.{word}
use Rattle.wire_field.specs.Fields.{Field, absent_by, stated_field, part_of, well_formed, place_checks, place_no, stated_no}
use Rattle.wire_field.specs.declared.Absence.{Absence}
use Rattle.wire_field.specs.declared.Absence.TheVariants.{Both, Either}
use Rattle.wire_field.specs.declared.FieldName.{FieldName}
use Rattle.wire_field.specs.declared.Form.{Form}
use Rattle.wire_layout.specs.Layout.{Pair}
use Rattle.wire_layout.specs.Checks.{pair_no, pairs_no, field_at, name_no, field_among}
use Rattle.wire_draft.specs.Draft.{laid, lengths, space, offset_given}
use Rattle.wire_draft.specs.Reasons.{is_ill, any_ill}
use Rattle.wire_draft.specs.RoundTrip.{placed, placed_among, bytes_among}

-- a number refuses where it is not 0
abbrev pub refuses : ℕ → Bool
refuses n = not (eqb n 0)

pub refuses_when : (b : Bool) (k : ℕ) → refuses (when b (suc k)) ≡ b
refuses_when true k = rw (eqb-suc-zero k)
refuses_when false k = refl

-- one check after another
pub refuses_then : (a b : ℕ) → refuses (cond (eqb a 0) b a) ≡ refuses a || refuses b
refuses_then zero b = refl
refuses_then (suc a) b = rw (eqb-suc-zero a) (rw (eqb-suc-zero a))

pub neither : (a b : Bool) → (a || b) ≡ false → (a ≡ false) × (b ≡ false)
neither true b e = absurd (true≢false e)
neither false b e = (refl, e)

-- one field s at the offset o, by either rule of absence

present : (rule : Absence) (o n : ℕ) → 0 < o → absent_by rule (record { 0 = o }) (suc n) ≡ false
present Both o n h = rw (ne_eqb o 0 (omega arith))
present Either o n h = rw (ne_eqb o 0 (omega arith), eqb-suc-zero n)

absent : (rule : Absence) → absent_by rule (record { 0 = 0 }) 0 ≡ true
absent Both = refl
absent Either = refl

module _ (rule : Absence) (pre post : List ℕ) (o fixed : ℕ) (e : length pre ≡ o + 4) (h : fixed ≤ o + 4) (z : 0 < o) where
  checked : (form : Form) (s : List ℕ)
      → stated_no rule form (pre ++ (s ++ post)) (record { 0 = fixed }) (record { 0 = offset_given (length s) o }) (length s) ≡ when (is_ill form s) 10
  unfolding stated_no place_no place_checks
  checked form [] = rw (absent rule)
  checked form (b ∷ bs) =
      let l : o + 4 + suc (length bs) ≤ length (pre ++ ((b ∷ bs) ++ post)) =
      omega (arith, length-append pre ((b ∷ bs) ++ post), length-append (b ∷ bs) post) in
      rw (
        eqb-suc-zero (length bs),
        present rule o (length bs) z,
        ne_eqb o 0 (omega arith),
        le-ltb (o + 4) fixed h,
        le-ltb (length (pre ++ ((b ∷ bs) ++ post))) (o + 4 + suc (length bs)) l,
        drop_at pre ((b ∷ bs) ++ post) (o + 4) e,
        take-append_seam (b ∷ bs) post,
      )
      (the_last (when (not (well_formed form (b ∷ bs))) 10))

  found_at : (form : Form) (s : List ℕ)
      → stated_field rule form (pre ++ (s ++ post)) (record { 0 = offset_given (length s) o }) (length s) ≡ placed form s o
  unfolding stated_field
  found_at form [] = rw (absent rule)
  found_at form (b ∷ bs) =
      rw (eqb-suc-zero (length bs), present rule o (length bs) z, drop_at pre ((b ∷ bs) ++ post) (o + 4) e, take-append_seam (b ∷ bs) post)

  shown_at : (form : Form) (s : List ℕ) → part_of (pre ++ (s ++ post)) (placed form s o) ≡ s
  shown_at form [] = refl
  shown_at form (b ∷ bs) = rw (drop_at pre ((b ∷ bs) ++ post) (o + 4) e) (take-append_seam (b ∷ bs) post)

-- all fields

-- offset and size of each stand where its pair says
abbrev pub Header : List ℕ → ℕ → (FieldName → ℕ) → List Pair → Type 0
Header m o size [] = Unit {0}
Header m o size (p ∷ ps) =
    ((word m p.position ≡ offset_given (size p.name) (o + space size ps)) × (word m (p.position + 4) ≡ size p.name)) × Header m o size ps

pub length_laid : (bytes : FieldName → List ℕ) (ps : List Pair) → length (laid bytes ps) ≡ space (lengths bytes) ps
length_laid bytes [] = refl
length_laid bytes (p ∷ ps) = rw (length-append (laid bytes ps) (bytes p.name), length_laid bytes ps)

shown_by : (m : List ℕ) (b : Bool) (x y : Field) {s t : List ℕ} → part_of m x ≡ s → part_of m y ≡ t → part_of m (cond b x y) ≡ cond b s t
shown_by m true x y p q = p
shown_by m false x y p q = q

pub record LaidOut (rule : Absence) (m : List ℕ) (fixed o : ℕ) (bytes : FieldName → List ℕ) (ps : List Pair) : Type 0 where
  pub checks : refuses (pairs_no rule m fixed ps) ≡ any_ill bytes ps
  pub found : (n : FieldName) → field_among rule m n ps ≡ placed_among o bytes n ps
  pub shown : (n : FieldName) → part_of m (placed_among o bytes n ps) ≡ bytes_among bytes n ps

module _ (rule : Absence) (bytes : FieldName → List ℕ) (W : List ℕ) (o fixed : ℕ) (e : length W ≡ o + 4) (h : fixed ≤ o + 4) (z : 0 < o) where
  -- the fields straight after W, and then what follows them
  pub laid_out : (ps : List Pair) (rest m : List ℕ) → m ≡ W ++ (laid bytes ps ++ rest) → Header m o (lengths bytes) ps
      → LaidOut rule m fixed o bytes ps
  unfolding pairs_no pair_no field_at
  laid_out [] rest m q w = record { checks = refl; found = λ n. refl; shown = λ n. refl }
  laid_out (p ∷ ps) rest m q w =
      let s = bytes p.name in
      let at = o + space (lengths bytes) ps in
      let pre = W ++ laid bytes ps in
      let i : m ≡ W ++ (laid bytes ps ++ (s ++ rest)) = q ∙ rw append_assoc in
      let j : m ≡ pre ++ (s ++ rest) = i ∙ rw append_assoc in
      let l : length pre ≡ at + 4 = omega (arith, length-append W (laid bytes ps), length_laid bytes ps) in
      let ih : LaidOut rule m fixed o bytes ps = laid_out ps (s ++ rest) m i w.1 in
      record {
        checks =
            refuses_then (pair_no rule p.form m fixed p.position) (pairs_no rule m fixed ps)
            ∙ rw (ih.checks, w.0.0, w.0.1, j, checked rule pre rest at fixed l (omega arith) (omega arith) p.form s, refuses_when (is_ill p.form s) 9);
        found = λ n. rw (ih.found n, w.0.0, w.0.1, j, found_at rule pre rest at fixed l (omega arith) (omega arith) p.form s);
        shown = λ n. shown_by m (eqb (name_no n) (name_no p.name)) (placed p.form s at) (placed_among o bytes n ps) (rw j (shown_at rule pre rest at fixed l (omega arith) (omega arith) p.form s)) (ih.shown n);
      }
