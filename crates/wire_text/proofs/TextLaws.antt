-- Laws of the two kinds of text.
use mathlib.Core.Path.{◌≡◌, refl, sym, ap, ◌∙◌}
use Prim.Native.Nat.{ℕ, suc, ◌+◌, ◌-◌, ◌*◌, ◌%◌, ◌≤◌, ◌<◌}
use mathlib.Core.Bool.{Bool, true, false, cond, ◌&&◌, and-false}
use mathlib.Core.List.{List, [], ◌∷◌}
use lib.ListN.{length, get_or, take, drop, length-take}
use Rattle.std.proofs.Common.{Option, Some, None, not, ltb}
use Rattle.std.proofs.lemmas.Option.{cond_some, none-some}
use Rattle.std.specs.Bool.{then_some}
use Rattle.std.specs.List.{position, position_or_len}
use lib.Dec.{eqb, eqb-suc-suc}
use lib.Seq.{length-take-le}
use native.Mathlib.Omega.{arith}
use native.Mathlib.Numerals.{add-two}
use native.Mathlib.Nat.{add-mod_right, add-zero, zero-add, add_assoc}
use borrow.Author.Tests.{eq-eqb, ne_eqb, lt-ltb, eqb-true, ltb-true, ltb-false}
use Rattle.lists.specs.Lists.{without_last}
use Rattle.characters.specs.Characters.{is_high, is_low}
use Rattle.characters.specs.Inner.{begun, begun_by}
use Rattle.characters.proofs.CountLaws.{adds_up, bounds}
use Rattle.wire_text.specs.Text.{is_empty, only_last_zero, units, is_text, is_url, text_count, url_count, checked_text, text_check, url_check}

-- is_empty

empty_length : (s : List ℕ) → is_empty s ≡ eqb (length s) 0
empty_length [] = refl
empty_length (b ∷ s) = sym (ne_eqb (suc (length s)) 0 (omega arith))

-- checked_text

pub said : (good : Bool) (count : ℕ) → then_some good count ≡ checked_text good count
said true count = refl
said false count = refl

-- the count of an ill-formed text does not matter
pub same_check : (good : Bool) (m n : ℕ) → (good ≡ true → m ≡ n) → checked_text good m ≡ checked_text good n
same_check true m n h = ap (checked_text true) (h refl)
same_check false m n h = refl

-- is_url

one_long : (s : List ℕ) → is_empty s ≡ eqb 1 (suc (length s))
one_long [] = refl
one_long (x ∷ s) = sym (ne_eqb 1 (suc (suc (length s))) (omega arith))

one_longer : (n m : ℕ) → eqb (n + 1) m ≡ eqb (1 + n + 1) (suc m)
one_longer n m = let e : 1 + n + 1 ≡ suc (n + 1) = omega arith in rw e (sym (eqb-suc-suc (n + 1) m))

-- how many bytes stand before the first zero, all where there is none
abbrev before_zero : List ℕ → ℕ
before_zero s = position_or_len (λ x. eqb x 0) s

zero_there : (s : List ℕ) → before_zero s < length s → only_last_zero s ≡ eqb (before_zero s + 1) (length s)
zero_there [] h = absurd (omega arith)
zero_there (x ∷ s) h = go (eqb x 0) h (zero_there s)
  where
    go : (b : Bool) → cond (not b) (1 + before_zero s) 0 < suc (length s) → (before_zero s < length s → only_last_zero s ≡ eqb (before_zero s + 1) (length s))
        → cond b (is_empty s) (only_last_zero s) ≡ eqb (cond (not b) (1 + before_zero s) 0 + 1) (suc (length s))
    go true h r = one_long s
    go false h r = r (omega arith) ∙ one_longer (before_zero s) (length s)

no_zero : (s : List ℕ) → length s ≤ before_zero s → only_last_zero s ≡ false
no_zero [] h = refl
no_zero (x ∷ s) h = go (eqb x 0) h (no_zero s)
  where
    go : (b : Bool) → suc (length s) ≤ cond (not b) (1 + before_zero s) 0 → (length s ≤ before_zero s → only_last_zero s ≡ false)
        → cond b (is_empty s) (only_last_zero s) ≡ false
    go true h r = absurd (omega arith)
    go false h r = r (omega arith)

url_count_law : (s : List ℕ) (i : ℕ) → i + 1 ≡ length s → i ≡ url_count s
url_count_law s i e = omega (arith, length-take-le (length s - 1) s (omega arith))

-- the first zero ends the URL, or makes it ill-formed
pub url_found : (s : List ℕ) (i : ℕ) → position (λ x. eqb x 0) s ≡ Some i → checked_text (eqb (i + 1) (length s)) i ≡ url_check s
unfolding url_check is_url
url_found s i e =
    let f = cond_some (ltb (before_zero s) (length s)) (before_zero s) i e in
    rw (zero_there s (ltb-true _ _ f.0), f.1) (same_check (eqb (i + 1) (length s)) i (url_count s) (λ t. url_count_law s i (eqb-true (i + 1) (length s) t)))

pub url_none : (s : List ℕ) → position (λ x. eqb x 0) s ≡ None → None ≡ url_check s
unfolding url_check is_url
url_none s e = rw (no_zero s (go (ltb (before_zero s) (length s)) refl e))
  where
    go : (b : Bool) → ltb (before_zero s) (length s) ≡ b → cond b (Some (before_zero s)) None ≡ None → length s ≤ before_zero s
    go true p q = absurd (none-some (before_zero s) (sym q))
    go false p q = omega (arith, ltb-false _ _ p)

-- is_text

two_more : (n : ℕ) → suc (suc n) % 2 ≡ n % 2
two_more n = rw (← add-two n) (add-mod_right n 2)

-- a text that ends: nothing is left of it
end_even : (bs : List ℕ) → (eqb (length bs % 2) 0 && is_empty (units bs)) ≡ is_empty bs
end_even [] = refl
end_even (a ∷ []) = refl
end_even (a ∷ (b ∷ bs)) = and-false (eqb (suc (suc (length bs)) % 2) 0)

at_unit : (t : Bool) (a b : ℕ) (bs : List ℕ) → eqb (a + 256 * b) 0 ≡ t → a + 256 * b < 65536 → is_text (a ∷ (b ∷ bs)) ≡ cond t (is_empty bs) (is_text bs)
unfolding is_text
at_unit true a b bs e h = rw (two_more (length bs), e) (end_even bs)
at_unit false a b bs e h = rw (two_more (length bs), e, lt-ltb (a + 256 * b) 65536 h)

two_first : (s : List ℕ) → 2 ≤ length s → s ≡ get_or (take 2 s) 0 0 ∷ (get_or (take 2 s) 1 0 ∷ drop 2 s)
two_first [] h = absurd (omega arith)
two_first (a ∷ []) h = absurd (omega arith)
two_first (a ∷ (b ∷ s)) h = refl

-- ---- the check of a rest, with the count so far and the unit before

abbrev pub check_from : ℕ → ℕ → List ℕ → Option ℕ
check_from count before rest = checked_text (is_text rest) (count + begun_by before (without_last (units rest)))

pub from_start : (s : List ℕ) → check_from 0 0 s ≡ text_check s
unfolding text_check
from_start s = rw (adds_up (without_last (units s)), zero-add)

keeps_first : (u v : ℕ) (us : List ℕ) → without_last (u ∷ (v ∷ us)) ≡ u ∷ without_last (v ∷ us)
keeps_first u v us = let e : suc (suc (length us)) - 1 ≡ suc (suc (length us) - 1) = omega arith in rw e

-- a text has a terminator
one_more : (u : ℕ) (bs : List ℕ) → is_text bs ≡ true → without_last (u ∷ units bs) ≡ u ∷ without_last (units bs)
unfolding is_text
one_more u [] e = cc
one_more u (a ∷ []) e = cc
one_more u (a ∷ (b ∷ bs)) e = keeps_first u (a + 256 * b) (units bs)

unit_next : (count before a b : ℕ) (bs : List ℕ) → a + 256 * b < 65536 → (a + 256 * b ≡ 0 → ⊥)
    → check_from count before (a ∷ (b ∷ bs)) ≡ check_from (count + begun before (a + 256 * b)) (a + 256 * b) bs
unit_next count before a b bs h z =
    let u : ℕ = a + 256 * b in
    rw (at_unit false a b bs (ne_eqb u 0 z) h)
    (same_check (is_text bs) (count + begun_by before (without_last (u ∷ units bs))) (count + begun before u + begun_by u (without_last (units bs)))
    (λ t. rw (one_more u bs t) (sym (add_assoc count (begun before u) (begun_by u (without_last (units bs)))))))

unit_found : (count before a b : ℕ) (bs : List ℕ) → a + 256 * b ≡ 0 → check_from count before (a ∷ (b ∷ bs)) ≡ checked_text (is_empty bs) count
unit_found count before a b bs z = rw (at_unit true a b bs (eq-eqb (a + 256 * b) 0 z) (omega arith)) (go bs)
  where
    go : (bs : List ℕ) → checked_text (is_empty bs) (count + begun_by before (without_last ((a + 256 * b) ∷ units bs))) ≡ checked_text (is_empty bs) count
    go [] = ap Some (add-zero count)
    go (x ∷ xs) = refl

-- a rest that begins with a unit, as `split_first_chunk` gives it
module _ (count before u : ℕ) (rest pair behind : List ℕ) (e : pair ≡ take 2 rest) (f : behind ≡ drop 2 rest) (n : length behind + 2 ≡ length rest)
    (k : u ≡ get_or pair 0 0 + 256 * get_or pair 1 0) where
  opened : rest ≡ get_or pair 0 0 ∷ (get_or pair 1 0 ∷ behind)
  opened = rw (e, f) (two_first rest (omega arith))

  pub text_next : (u ≡ 0 → ⊥) → u < 65536 → check_from count before rest ≡ check_from (count + begun before u) u behind
  text_next z b = ap (check_from count before) opened ∙ rw k (unit_next count before (get_or pair 0 0) (get_or pair 1 0) behind (omega (arith, k, b)) (λ y. z (k ∙ y)))

  -- a zero unit ends the text, or makes it ill-formed
  pub text_found : u ≡ 0 → check_from count before rest ≡ checked_text (eqb (length behind) 0) count
  text_found z =
      ap (check_from count before) opened ∙ unit_found count before (get_or pair 0 0) (get_or pair 1 0) behind (sym k ∙ z)
      ∙ rw (empty_length behind)

pub text_short : (count before : ℕ) (rest : List ℕ) → length rest < 2 → check_from count before rest ≡ None
unfolding is_text
text_short count before [] h = refl
text_short count before (a ∷ []) h = refl
text_short count before (a ∷ (b ∷ rest)) h = absurd (omega arith)

pub begun_few : (before u : ℕ) → begun before u ≤ 1
unfolding begun
begun_few before u = go (is_high before && is_low u)
  where
    go : (b : Bool) → cond b 0 1 ≤ 1
    go true = omega arith
    go false = omega arith

-- ---- what a check that was answered says

abbrev is_good : Option ℕ → Bool
is_good None = false
is_good (Some n) = true

abbrev count_in : Option ℕ → ℕ
count_in None = 0
count_in (Some n) = n

pub check_good : (good : Bool) (count : ℕ) {n : ℕ} → Some n ≡ checked_text good count → (good ≡ true) × (n ≡ count)
check_good true count e = (refl, ap count_in e)
check_good false count e = (sym (ap is_good e), absurd (let z : ◌≡◌ {A = Bool} true false = ap is_good e in let y : ◌≡◌ {A = ℕ} 0 1 = cc in omega arith))

pub check_bad : (good : Bool) (count : ℕ) → None ≡ checked_text good count → good ≡ false
check_bad true count e = sym (ap is_good e)
check_bad false count e = refl

-- ---- counts are no larger than what they count

units_few : (s : List ℕ) → length (units s) ≤ length s
units_few [] = omega arith
units_few (a ∷ []) = omega arith
units_few (a ∷ (b ∷ s)) = omega (arith, units_few s)

pub text_few : (s : List ℕ) → text_count s ≤ length s
text_few s = omega (arith, (bounds (without_last (units s))).most, length-take (length (units s) - 1) (units s), units_few s)

pub url_few : (s : List ℕ) → url_count s ≤ length s
url_few s = omega (arith, length-take (length s - 1) s)
