-- A decimal number tells its value: read back, digit by digit, up to a byte that is no digit.
use mathlib.Core.Path.{◌≡◌, refl, ap, ◌∙◌}
use Prim.Native.Nat.{ℕ, zero, suc, ◌+◌, ◌-◌, ◌*◌, ◌/◌, ◌%◌, ◌^◌, ◌<◌}
use native.Mathlib.Omega.{arith}
use mathlib.Core.Bool.{Bool, true, false, cond, not, ◌&&◌}
use mathlib.Core.List.{List, [], ◌∷◌, ◌++◌, append_assoc}
use lib.Dec.{eqb, leb}
use Rattle.lists.specs.Lists.{every}
use Rattle.lists.proofs.ListLaws.{every_tail, every_append}
use borrow.Author.Tests.{le-leb, eqb-true, not-true}
use Rattle.show_text.specs.Text.{decimal_digits, trimmed, decimal}

abbrev pub is_digit : ℕ → Bool
is_digit c = leb 48 c && leb c 57

-- a text that does not go on with a digit
abbrev pub stops : List ℕ → Bool
stops [] = true
stops (c ∷ s) = not (is_digit c)

-- a number, and the text behind it
pub record Numbered : Type 0 where
  pub value : ℕ
  pub rest : List ℕ

-- what the digits in front spell, behind those that spell n
abbrev pub number_from : ℕ → List ℕ → Numbered
number_from n [] = record { value = n; rest = [] }
number_from n (c ∷ s) = cond (is_digit c) (number_from (n * 10 + (c - 48)) s) (record { value = n; rest = c ∷ s })

digit_is : (n : ℕ) → is_digit (48 + n % 10) ≡ true
digit_is n = rw (le-leb 48 (48 + n % 10) (omega arith), le-leb (48 + n % 10) 57 (omega arith))

stop_read : (n : ℕ) (s : List ℕ) → stops s ≡ true → number_from n s ≡ record { value = n; rest = s }
stop_read n [] h = refl
stop_read n (c ∷ s) h = rw (not-true (is_digit c) h)

-- one digit more
next_read : (n : ℕ) (s : List ℕ) → number_from (n / 10) ((48 + n % 10) ∷ s) ≡ number_from n s
next_read n s = let e : n / 10 * 10 + (48 + n % 10 - 48) ≡ n = omega arith in rw (digit_is n, e)

digits_read : (k n : ℕ) (s : List ℕ) → n < 10 ^ k → number_from 0 (decimal_digits k n ++ s) ≡ number_from n s
digits_read zero n s h = let e : n ≡ 0 = omega arith in rw e
digits_read (suc k) n s h =
    ap (number_from 0) (append_assoc (decimal_digits k (n / 10)) ((48 + n % 10) ∷ []) s)
    ∙ digits_read k (n / 10) ((48 + n % 10) ∷ s) (omega arith)
    ∙ next_read n s

-- zeros in front count for nothing
trim_read : (l s : List ℕ) → number_from 0 (trimmed l ++ s) ≡ number_from 0 (l ++ s)
trim_read [] s = refl
trim_read (d ∷ []) s = refl
trim_read (d ∷ (e ∷ ds)) s = go (eqb d 48) refl (trim_read (e ∷ ds) s)
  where
    go : (b : Bool) → eqb d 48 ≡ b → number_from 0 (trimmed (e ∷ ds) ++ s) ≡ number_from 0 ((e ∷ ds) ++ s)
        → number_from 0 (cond b (trimmed (e ∷ ds)) (d ∷ (e ∷ ds)) ++ s) ≡ number_from 0 ((d ∷ (e ∷ ds)) ++ s)
    go true h ih = rw (eqb-true d 48 h) ih
    go false h ih = refl

-- a number of ten digits or fewer, and a text behind it that does not go on with a digit
pub number_read : (n : ℕ) (s : List ℕ) → n < 10 ^ 10 → stops s ≡ true → number_from 0 (decimal n ++ s) ≡ record { value = n; rest = s }
unfolding decimal
number_read n s h g = trim_read (decimal_digits 10 n) s ∙ digits_read 10 n s h ∙ stop_read n s g

-- ---- each of its digits

module _ (t : ℕ → Bool) (h : (d : ℕ) → d < 10 → t (48 + d) ≡ true) where
  digits_every : (k n : ℕ) → every t (decimal_digits k n) ≡ true
  unfolding every
  digits_every zero n = refl
  digits_every (suc k) n =
      every_append t (decimal_digits k (n / 10)) ((48 + n % 10) ∷ []) (digits_every k (n / 10)) (rw (h (n % 10) (omega arith)))

  trim_every : (l : List ℕ) → every t l ≡ true → every t (trimmed l) ≡ true
  trim_every [] e = e
  trim_every (d ∷ []) e = e
  trim_every (d ∷ (c ∷ ds)) e = go (eqb d 48) (trim_every (c ∷ ds) (every_tail t d (c ∷ ds) e))
    where
      go : (b : Bool) → every t (trimmed (c ∷ ds)) ≡ true → every t (cond b (trimmed (c ∷ ds)) (d ∷ (c ∷ ds))) ≡ true
      go true g = g
      go false g = e

  pub decimal_every : (n : ℕ) → every t (decimal n) ≡ true
  unfolding decimal
  decimal_every n = trim_every (decimal_digits 10 n) (digits_every 10 n)
