-- Units in quotes are read back: a plain character stands for itself, and any other unit as its four digits.
use mathlib.Core.Path.{◌≡◌, refl, ap, ◌∙◌}
use Prim.Native.Nat.{ℕ, zero, suc, ◌+◌, ◌-◌, ◌*◌, ◌/◌, ◌%◌, ◌<◌}
use native.Mathlib.Omega.{arith}
use mathlib.Core.Bool.{Bool, true, false, cond, not, ◌&&◌}
use mathlib.Core.List.{List, [], ◌∷◌, ◌++◌, append_assoc}
use lib.ListN.{length, get_or, drop}
use lib.Dec.{eqb, leb}
use borrow.Author.Tests.{eqb-true, not-true}
use Rattle.lists.specs.Lists.{All, flat_map}
use Rattle.lists.proofs.ListLaws.{and_l, and_r}
use Rattle.show_text.specs.Text.{ascii}
use Rattle.show_escaped.specs.Escaped.{hex_digit, hex_digits, is_plain, escaped, escaped_unit, quoted_units}

-- ---- a digit tells its value

abbrev digit_value : ℕ → ℕ
digit_value c = cond (leb c 57) (c - 48) (c - 55)

-- the values of these digits rise by 1 from k on
abbrev values_from : ℕ → List ℕ → Bool
values_from k [] = true
values_from k (c ∷ s) = eqb (digit_value c) k && values_from (suc k) s

value_at : (k : ℕ) (s : List ℕ) → values_from k s ≡ true → (i : ℕ) → i < length s → digit_value (get_or s i 0) ≡ k + i
value_at k [] h i l = absurd (omega arith)
value_at k (c ∷ s) h zero l = eqb-true (digit_value c) k (and_l (eqb (digit_value c) k) (values_from (suc k) s) h) ∙ omega arith
value_at k (c ∷ s) h (suc i) l = value_at (suc k) s (and_r (eqb (digit_value c) k) (values_from (suc k) s) h) i (omega arith) ∙ omega arith

digit_read : (n : ℕ) → digit_value (hex_digit n) ≡ n % 16
unfolding hex_digit ascii
digit_read n = value_at 0 (ascii "0123456789ABCDEF") refl (n % 16) (omega arith) ∙ omega arith

-- ---- units up to the quote that ends them, and the text behind it

pub record Units : Type 0 where
  pub units : List ℕ
  pub rest : List ℕ

abbrev before : ℕ → Units → Units
before u t = record { units = u ∷ t.units; rest = t.rest }

-- k characters of an escape are still to come, and those behind its \ spell v so far: the u counts for nothing
abbrev units_from : ℕ → ℕ → List ℕ → Units
units_from k v [] = record { units = []; rest = [] }
units_from zero v (c ∷ s) = cond (eqb c 34) (record { units = []; rest = s }) (cond (eqb c 92) (units_from 5 0 s) (before c (units_from 0 0 s)))
units_from (suc k) v (c ∷ s) =
    let w = v * 16 + digit_value c in
    cond (eqb k 0) (before (w % 65536) (units_from 0 0 s)) (units_from k w s)

-- behind the quote that starts them
abbrev pub units_in : List ℕ → Units
units_in s = units_from 0 0 (drop 1 s)

plain_read : (u : ℕ) (s : List ℕ) → is_plain u ≡ true → units_from 0 0 (u ∷ s) ≡ before u (units_from 0 0 s)
unfolding is_plain
plain_read u s h =
    let t : not (eqb u 34) && not (eqb u 92) ≡ true = and_r (leb u 126) _ (and_r (leb 32 u) _ h) in
    rw (not-true (eqb u 34) (and_l (not (eqb u 34)) (not (eqb u 92)) t), not-true (eqb u 92) (and_r (not (eqb u 34)) (not (eqb u 92)) t))

digits_read : (u : ℕ) (s : List ℕ) → u < 65536 → units_from 0 0 (ascii "\\u" ++ (hex_digits 4 u ++ s)) ≡ before u (units_from 0 0 s)
unfolding ascii
digits_read u s h =
    rw (digit_read u, digit_read (u / 16), digit_read (u / 16 / 16), digit_read (u / 16 / 16 / 16))
    (ap (λ (n : ℕ). before n (units_from 0 0 s)) (omega arith))

unit_read : (u : ℕ) (s : List ℕ) → u < 65536 → units_from 0 0 (escaped_unit u ++ s) ≡ before u (units_from 0 0 s)
unfolding escaped_unit escaped
unit_read u s h = go (is_plain u) refl
  where
    go : (b : Bool) → is_plain u ≡ b → units_from 0 0 (cond b (u ∷ []) (ascii "\\u" ++ hex_digits 4 u) ++ s) ≡ before u (units_from 0 0 s)
    go true e = plain_read u s e
    go false e = ap (units_from 0 0) (append_assoc (ascii "\\u") (hex_digits 4 u) s) ∙ digits_read u s h

each_read : (us s : List ℕ) → All (λ u. u < 65536) us → units_from 0 0 (flat_map escaped_unit us ++ (34 ∷ s)) ≡ record { units = us; rest = s }
each_read [] s a = refl
each_read (u ∷ us) s a =
    ap (units_from 0 0) (append_assoc (escaped_unit u) (flat_map escaped_unit us) (34 ∷ s))
    ∙ unit_read u (flat_map escaped_unit us ++ (34 ∷ s)) a.0
    ∙ ap (before u) (each_read us s a.1)

pub units_read : (us s : List ℕ) → All (λ u. u < 65536) us → units_in (quoted_units us ++ s) ≡ record { units = us; rest = s }
unfolding quoted_units ascii
units_read us s a = ap (units_from 0 0) (append_assoc (flat_map escaped_unit us) (ascii "\"") s) ∙ each_read us s a
