-- Laws of the two absence rules, of every layout at once: where one zero is enough 8 is never given, and where both are asked for an accepted
-- message has none alone.
use mathlib.Core.Path.{◌≡◌, refl, sym}
use Prim.Native.Nat.{ℕ, ◌+◌}
use mathlib.Core.Bool.{Bool, true, false, cond, not, ◌&&◌, ◌||◌}
use mathlib.Core.List.{List, [], ◌∷◌, map}
use lib.ListN.{length}
use lib.Dec.{eqb, ltb, lit<}
use native.Mathlib.Omega.{arith}
use Rattle.refusal.specs.Checks.{when, first_of}
use Rattle.refusal.proofs.CheckLaws.{passed, each_passed}
use Rattle.lists.specs.Lists.{All}
use Rattle.lists.proofs.ListLaws.{or_l, or_r}
use Rattle.wire_field.specs.declared.Offset.{Offset}
use Rattle.wire_field.specs.declared.Position.{Position}
use Rattle.wire_field.specs.declared.Form.{Form}
use Rattle.wire_field.specs.declared.Absence.TheVariants.{Both, Either}
use Rattle.wire_field.specs.Words.{word}
use Rattle.wire_field.specs.Fields.{position_of, place_checks, place_no, stated_part, well_formed, present_no, stated_no}
use Rattle.wire_layout.specs.Layout.{Layout, Pair, first, connect_absence, connect_layout, entry_layout}
use Rattle.wire_layout.specs.Stated.{ZeroTogether}
use Rattle.wire_layout.specs.Checks.{pair_no, id_no, ids_no, flags_no, pairs_no, layout_checks, layout_no}
use Rattle.wire_layout.proofs.LieLaws.{by_test}

abbrev Not8 : ℕ → Type 0
Not8 n = n ≡ 8 → ⊥

zero_not : Not8 0
zero_not e = omega arith

when_not : (b : Bool) (k : ℕ) → Not8 k → Not8 (when b k)
when_not b k h = by_test Not8 b (λ _. h) (λ _. zero_not)

-- what holds of 0 and of every number of a table holds of its answer
first_not : (ns : List ℕ) → All Not8 ns → Not8 (first_of ns)
first_not [] h = zero_not
first_not (n ∷ ns) h = by_test Not8 (eqb n 0) (λ _. first_not ns h.1) (λ _. h.0)

each_not : {A : Type 0} (f : A → ℕ) (xs : List A) → ((x : A) → Not8 (f x)) → Not8 (first_of (map f xs))
each_not f [] h = zero_not
each_not f (x ∷ xs) h = by_test Not8 (eqb (f x) 0) (λ _. each_not f xs h) (λ _. h x)

module _ (form : Form) (m : List ℕ) (fixed : Position) (o : Offset) (size : ℕ) where
  -- of a field that has both offset and size
  present_not : eqb o.0 0 ≡ false → eqb size 0 ≡ false → Not8 (present_no form m fixed o size)
  unfolding place_no place_checks
  present_not a b =
      let early : Bool = ltb (position_of o).0 fixed.0 in
      let late : Bool = ltb (length m) ((position_of o).0 + size) in
      let ill : Bool = not (well_formed form (stated_part m o size)) in
      rw (a, b)
      (first_not (first_of (when early 9 ∷ when late 9 ∷ []) ∷ when ill 10 ∷ []) (
        first_not (when early 9 ∷ when late 9 ∷ []) (when_not early 9 (λ e. omega arith), (when_not late 9 (λ e. omega arith), tt)),
        (when_not ill 10 (λ e. omega arith), tt),
      ))

  -- a present field that passes has both
  both_there : present_no form m fixed o size ≡ 0 → (eqb o.0 0 ≡ false) × (eqb size 0 ≡ false)
  unfolding place_no place_checks
  both_there e =
      let place : place_no (length m) fixed o size ≡ 0 =
      each_passed (place_no (length m) fixed o size ∷ when (not (well_formed form (stated_part m o size))) 10 ∷ []) 0 e in
      let checks : List ℕ = place_checks (length m) fixed o size in
      (passed (eqb o.0 0) 8 (lit< tt) (each_passed checks 0 place), passed (eqb size 0) 8 (lit< tt) (each_passed checks 1 place))

  stated_not : Not8 (stated_no Either form m fixed o size)
  unfolding stated_no
  stated_not = by_test Not8 (eqb o.0 0 || eqb size 0) (λ _. zero_not) (λ e. present_not (or_l (eqb o.0 0) (eqb size 0) e) (or_r (eqb o.0 0) (eqb size 0) e))

-- one zero is enough: never 8
pub lax_never_8 : (l : Layout) (m : List ℕ) → l.absence ≡ Either → layout_no l m ≡ 8 → ⊥
unfolding layout_no layout_checks flags_no ids_no pairs_no pair_no
lax_never_8 l m e =
    let short : Bool = ltb (length m) l.fixed in
    let long : Bool = l.exact && ltb l.fixed (length m) in
    let flags : ℕ = word m first in
    first_not (layout_checks l m) (
      when_not short 4 (λ e. omega arith),
      (
        when_not long 5 (λ e. omega arith),
        (
          by_test Not8 l.flags (λ _. when_not (not (eqb flags 2 || eqb flags 4)) 6 (λ e. omega arith)) (λ _. zero_not),
          (
            each_not (id_no m) l.ids (λ p. when_not (eqb (word m p) 0) 7 (λ e. omega arith)),
            (rw e (each_not (λ (p : Pair). pair_no Either p.form m l.fixed p.position) l.pairs (λ p. stated_not p.form m _ _ _)), tt),
          ),
        ),
      ),
    )

-- k is the check of a present field
together : (a b : Bool) (k : ℕ) → cond (a && b) 0 k ≡ 0 → (k ≡ 0 → (a ≡ false) × (b ≡ false)) → a ≡ b
together true true k e f = refl
together true false k e f = (f e).0
together false true k e f = sym (f e).1
together false false k e f = refl

module _ (m : List ℕ) (fixed : ℕ) where
  pair_together : (p : Pair) → pair_no Both p.form m fixed p.position ≡ 0 → ZeroTogether m p
  unfolding pair_no stated_no
  pair_together p e =
      let o : Offset = record { 0 = word m p.position } in
      let size : ℕ = word m (p.position + 4) in
      together (eqb o.0 0) (eqb size 0) (present_no p.form m (record { 0 = fixed }) o size) e (both_there p.form m (record { 0 = fixed }) o size)

  pairs_together : (ps : List Pair) → pairs_no Both m fixed ps ≡ 0 → All (ZeroTogether m) ps
  unfolding pairs_no
  pairs_together [] e = tt
  pairs_together (p ∷ ps) e =
      let h : pair_no Both p.form m fixed p.position ≡ 0 = each_passed (map (λ (r : Pair). pair_no Both r.form m fixed r.position) (p ∷ ps)) 0 e in
      (pair_together p h, pairs_together ps (rw h at e))

-- both are asked for: none is alone
pub strict_together : (l : Layout) (m : List ℕ) → l.absence ≡ Both → layout_no l m ≡ 0
    → All (ZeroTogether m) l.pairs
unfolding layout_no layout_checks
strict_together l m e z = pairs_together m l.fixed l.pairs (rw e at (each_passed (layout_checks l m) 4 z))

-- the rule of each type with fields
pub connect_lax : (fixed : ℕ) (ps : List Pair) → (connect_layout connect_absence fixed ps).absence ≡ Either
unfolding connect_layout
connect_lax fixed ps = refl

pub entry_strict : (kind p fixed : ℕ) → (entry_layout kind p fixed).absence ≡ Both
unfolding entry_layout
entry_strict kind p fixed = refl
