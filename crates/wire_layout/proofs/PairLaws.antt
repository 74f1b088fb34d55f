-- Laws of the checks of pairs.
use mathlib.Core.Path.{◌≡◌, refl}
use Prim.Native.Nat.{ℕ, zero, suc, ◌+◌}
use mathlib.Core.Bool.{Bool, true, false, cond}
use mathlib.Core.List.{List, [], ◌∷◌, ◌++◌, map, map-append}
use lib.ListN.{length}
use lib.Dec.{eqb, eqb-suc-zero, ltb}
use Rattle.refusal.specs.Checks.{when, first_of}
use Rattle.refusal.proofs.CheckLaws.{first_append, the_last}
use Rattle.wire_field.specs.declared.Absence.{Absence}
use Rattle.std.specs.Prelude.{Some, None}
use Rattle.wire_field.specs.declared.Form.{Form}
use Rattle.wire_field.specs.declared.Form.TheVariants.{Free}
use Rattle.wire_field.specs.declared.Offset.{Offset}
use Rattle.wire_field.specs.Fields.{absent_by, position_of, present_field, stated_field, count_of}
use Rattle.wire_field.specs.Words.{word}
use Rattle.wire_layout.specs.Layout.{first, Pair, connect_layout}
use Rattle.wire_layout.specs.Checks.{pair_no, field_at, pairs_no, flags_no, ids_no, layout_checks, layout_no}
use Rattle.wire_layout.specs.Inner.{field_of}

-- a number, or where it is 0 the next
abbrev or_next : ℕ → ℕ → ℕ
or_next a b = cond (eqb a 0) b a

regroup : (n a b : ℕ) → or_next n (or_next a b) ≡ or_next (or_next n a) b
regroup zero a b = refl
regroup (suc n) a b = rw (eqb-suc-zero n) (rw (eqb-suc-zero n))

-- a table whose last check is two, one after the other
last_two : (ns : List ℕ) (a b : ℕ) → first_of (ns ++ (or_next a b ∷ [])) ≡ or_next (first_of (ns ++ (a ∷ []))) b
last_two ns a b = rw (first_append ns (or_next a b ∷ []), first_append ns (a ∷ []), the_last (or_next a b), the_last a) (regroup (first_of ns) a b)

module _ (rule : Absence) (m : List ℕ) (fixed : ℕ) (ps : List Pair) (q : Pair) where
  -- one field more, after the others
  pairs_more : pairs_no rule m fixed (ps ++ (q ∷ []))
      ≡ cond (eqb (pairs_no rule m fixed ps) 0) (pair_no rule q.form m fixed q.position) (pairs_no rule m fixed ps)
  unfolding pairs_no
  pairs_more =
      let f : Pair → ℕ = λ r. pair_no rule r.form m fixed r.position in
      rw (map-append f ps (q ∷ []), first_append (map f ps) (map f (q ∷ [])), the_last (f q))

  pub connect_more : layout_no (connect_layout rule fixed (ps ++ (q ∷ []))) m
      ≡ cond (eqb (layout_no (connect_layout rule fixed ps) m) 0) (pair_no rule q.form m fixed q.position) (layout_no (connect_layout rule fixed ps) m)
  unfolding layout_no layout_checks connect_layout
  connect_more =
      rw pairs_more
      (last_two (when (ltb (length m) fixed) 4 ∷ flags_no (word m first) ∷ ids_no m [] ∷ []) (pairs_no rule m fixed ps) (pair_no rule q.form m fixed q.position))

-- the field whose characters are those that the checks answered
same_field : (b : Bool) (form : Form) (m : List ℕ) (o : Offset) (size : ℕ) {n : ℕ} → n ≡ count_of (cond b None (present_field form m o size))
    → cond b None (Some (record { start = position_of o; size = size; characters = n })) ≡ cond b None (present_field form m o size)
same_field true form m o size e = refl
same_field false form m o size e = rw e

pub field_again : (rule : Absence) (form : Form) (m : List ℕ) (p : ℕ) {n : ℕ} → n ≡ count_of (field_at rule form m p) → field_of rule m p n ≡ field_at rule form m p
unfolding field_of field_at stated_field
field_again rule form m p e = same_field (absent_by rule (record { 0 = word m p }) (word m (p + 4))) form m (record { 0 = word m p }) (word m (p + 4)) e

-- what is free is no text
pub free_again : (rule : Absence) (m : List ℕ) (p : ℕ) → field_of rule m p 0 ≡ field_at rule Free m p
unfolding field_of field_at stated_field
free_again rule m p = refl
