-- Laws of a number that stands twice among items one after another: two items taken off the front, and two places that have it.
use mathlib.Core.Path.{◌≡◌, refl, ap, sym, ◌∙◌}
use Prim.Native.Nat.{ℕ, zero, suc, ◌-◌, ◌<◌, ◌≤◌}
use native.Mathlib.Omega.{arith}
use mathlib.Core.Bool.{Bool, true, false, not, ◌&&◌, ◌||◌, false≢true, or-true, and-false}
use mathlib.Core.List.{List, [], ◌∷◌}
use lib.Dec.{eqb}
use borrow.Author.Tests.{eqb-true, eq-eqb, ne_eqb}
use Rattle.lists.specs.Lists.{any, distinct}
use Rattle.lists.proofs.ListLaws.{or_l, or_r}
use Rattle.table_rules.specs.NameTable.{Entry}
use Rattle.snapshot_bytes.specs.Items.{walk, after}
use Rattle.snapshot_bytes.proofs.WalkLaws.{walk_next, walk_none}

abbrev pub id : Entry → ℕ
id e = e.id

-- ---- tests

again_by : (e t u d : Bool) → t || u ≡ true → (not (e || t) && (not u && d)) ≡ false
again_by true t u d h = refl
again_by false true u d h = refl
again_by false false true d h = refl
again_by false false false d h = absurd (false≢true h)

any_or : {A : Type 0} (t u : A → Bool) (xs : List A) → any (λ x. t x || u x) xs ≡ any t xs || any u xs
unfolding any
any_or t u [] = refl
any_or t u (x ∷ xs) = ap (λ (y : Bool). (t x || u x) || y) (any_or t u xs) ∙ swap (t x) (u x) (any t xs) (any u xs)
  where
    swap : (a b c d : Bool) → (a || b) || (c || d) ≡ (a || c) || (b || d)
    swap true b c d = refl
    swap false true true d = refl
    swap false true false d = refl
    swap false false c d = refl

-- ---- the front of a walk

module _ {A : Type 0} (item : ℕ → A) (next : ℕ → ℕ) where
  pub any_next : (t : A → Bool) (p k : ℕ) → 0 < k → any t (walk item next p k) ≡ t (item p) || any t (walk item next (next p) (k - 1))
  unfolding any
  any_next t p k h = ap (any t) (walk_next item next p k h)

  pub any_none : (t : A → Bool) (p k : ℕ) → k ≤ 0 → any t (walk item next p k) ≡ false
  unfolding any
  any_none t p k h = ap (any t) (walk_none item next p k h)

  module _ (key : A → ℕ) where
    -- one item, or none, has no number twice
    pub distinct_one : (p k : ℕ) → k ≤ 1 → distinct key (walk item next p k) ≡ true
    unfolding distinct any
    distinct_one p zero h = refl
    distinct_one p (suc zero) h = refl
    distinct_one p (suc (suc k)) h = absurd (omega arith)

    abbrev is : ℕ → A → Bool
    is n x = eqb (key x) n

    -- the first item, which has neither of two numbers
    pub either_next : (m n p k j i : ℕ) → k ≡ suc j → i ≡ key (item p) → ¬ (i ≡ m) → ¬ (i ≡ n)
        → any (λ x. is m x || is n x) (walk item next p k) ≡ any (λ x. is m x || is n x) (walk item next (next p) j)
    unfolding any
    either_next m n p k j i h e f g = rw (h, ne_eqb (key (item p)) m (λ q. f (e ∙ q)), ne_eqb (key (item p)) n (λ q. g (e ∙ q)))

    -- the numbers of two items, a and b, against each other and against those of all behind them, from r on
    module _ (p k j : ℕ) (h : k ≡ suc (suc j)) (a q b : ℕ) (ea : a ≡ key (item p)) (eq : q ≡ next p) (eb : b ≡ key (item q)) where
      abbrev behind : List A
      behind = walk item next (next q) j

      front : distinct key (walk item next p k) ≡ (not (eqb b a || any (is a) behind) && (not (any (is b) behind) && distinct key behind))
      unfolding distinct any
      front = rw (h, ea, eb, eq)

      pub two_same : a ≡ b → distinct key (walk item next p k) ≡ false
      two_same e = front ∙ rw (eq-eqb b a (sym e))

      module _ (r : ℕ) (er : r ≡ next q) where
        abbrev later : List A
        later = walk item next r j

        there : any (is a) behind || any (is b) behind ≡ any (λ x. is a x || is b x) later
        there = rw (← er) (sym (any_or (is a) (is b) later))

        pub two_again : any (λ x. is a x || is b x) later ≡ true → distinct key (walk item next p k) ≡ false
        two_again e = front ∙ again_by (eqb b a) (any (is a) behind) (any (is b) behind) (distinct key behind) (there ∙ e)

        pub two_apart : ¬ (a ≡ b) → any (λ x. is a x || is b x) later ≡ false → distinct key (walk item next p k) ≡ distinct key later
        two_apart d e =
            let f : any (is a) behind || any (is b) behind ≡ false = there ∙ e in
            front ∙ rw (ne_eqb b a (λ x. d (sym x)), or_l (any (is a) behind) (any (is b) behind) f, or_r (any (is a) behind) (any (is b) behind) f, er)

    -- ---- two places that have one number

    -- some place passes
    record Place (t : A → Bool) (p n : ℕ) : Type 0 where
      at : ℕ
      within : at < n
      passes : t (item (after next p at)) ≡ true

    place : (t : A → Bool) (p n : ℕ) → any t (walk item next p n) ≡ true → Place t p n
    unfolding any
    place t p zero h = absurd (false≢true h)
    place t p (suc n) h = go (t (item p)) refl (place t (next p) n)
      where
        go : (b : Bool) → t (item p) ≡ b → (any t (walk item next (next p) n) ≡ true → Place t (next p) n) → Place t p (suc n)
        go true e ih = record { at = 0; within = omega arith; passes = e }
        go false e ih =
            let f : Place t (next p) n = ih (sym (ap (λ (b : Bool). b || any t (walk item next (next p) n)) e) ∙ h) in
            record { at = suc f.at; within = omega (arith, f.within); passes = f.passes }

    -- two places, the second behind the first, that have one number
    pub record Twice (p n : ℕ) : Type 0 where
      pub first : ℕ
      pub second : ℕ
      pub apart : first < second
      pub within : second < n
      pub same : key (item (after next p first)) ≡ key (item (after next p second))

    pub twice : (p n : ℕ) → distinct key (walk item next p n) ≡ false → Twice p n
    unfolding distinct
    twice p zero h = absurd (false≢true (sym h))
    twice p (suc n) h = go (any (is (key (item p))) (walk item next (next p) n)) refl (twice (next p) n)
      where
        go : (b : Bool) → any (is (key (item p))) (walk item next (next p) n) ≡ b → (distinct key (walk item next (next p) n) ≡ false → Twice (next p) n)
            → Twice p (suc n)
        go true e ih =
            let f : Place (is (key (item p))) (next p) n = place (is (key (item p))) (next p) n e in
            record { first = 0; second = suc f.at; apart = omega arith; within = omega (arith, f.within); same = sym (eqb-true _ _ f.passes) }
        go false e ih =
            let f : Twice (next p) n = ih (sym (ap (λ (b : Bool). not b && distinct key (walk item next (next p) n)) e) ∙ h) in
            record { first = suc f.first; second = suc f.second; apart = omega (arith, f.apart); within = omega (arith, f.within); same = f.same }

    there_at : (m p n i : ℕ) → i < n → key (item (after next p i)) ≡ m → any (is m) (walk item next p n) ≡ true
    unfolding any
    there_at m p zero i h e = absurd (omega arith)
    there_at m p (suc n) zero h e = rw (eq-eqb (key (item p)) m e)
    there_at m p (suc n) (suc i) h e = rw (there_at m (next p) n i (omega arith) e) (or-true (eqb (key (item p)) m))

    pub not_distinct : (p n i j : ℕ) → i < j → j < n → key (item (after next p i)) ≡ key (item (after next p j)) → distinct key (walk item next p n) ≡ false
    unfolding distinct
    not_distinct p zero i j a w e = absurd (omega arith)
    not_distinct p (suc n) i zero a w e = absurd (omega arith)
    not_distinct p (suc n) zero (suc j) a w e = rw (there_at (key (item p)) (next p) n j (omega arith) (sym e))
    not_distinct p (suc n) (suc i) (suc j) a w e =
        rw (not_distinct (next p) n i j (omega arith) (omega arith) e) (and-false (not (any (is (key (item p))) (walk item next (next p) n))))
