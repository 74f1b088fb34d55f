-- The tests of the code on a row of the window are the test of the row.
use mathlib.Core.Path.{◌≡◌, refl, ap, sym, ◌∙◌, subst}
use Prim.Native.Nat.{ℕ, ◌≤◌}
use native.Mathlib.Omega.{arith}
use mathlib.Core.Bool.{Bool, true, false, cond, not, ◌&&◌, and-false}
use Rattle.std.specs.Prelude.{Result, Ok, Err, is_ok}
use mathlib.Core.List.{List, [], ◌∷◌}
use lib.ListN.{length, take, get_or, replicate}
use lib.Seq.{length-take-le}
use lib.Dec.{eqb}
use borrow.Author.Tests.{eq-eqb, ne_eqb, eqb-true}
use Rattle.lists.specs.Lists.{every, eqbs}
use Rattle.rows.specs.Rows.{is_zero}
use Rattle.names.specs.Names.{valid_name}
use Rattle.names.specs.Words.{name_width, name_words, name_of}
use Rattle.names.proofs.NameLaws.{no_words}
use Rattle.names.specs.Inner.{holds_name}
use Rattle.table_rules.specs.Operations.{names_entry, is_act, valid_act, valid_operation, act_numbers, act_name, act_said}
use Rattle.table_rules.specs.WordsSaid.{ActSaid}
use Rattle.table_rules.specs.declared.Act.{Act}
use Rattle.table_rules.specs.declared.Act.TheVariants.{Add, Remove, Join, Leave}
use Rattle.table_rules.specs.declared.UnknownWord.{UnknownWord}
use Rattle.table_words.specs.Layout.{operation_width}
use Rattle.table_words.specs.Words.{of_row, row_of}
use Rattle.table_window.specs.Window.{used, rest_zero}
use Rattle.table_window.specs.Inner.{place_valid, act_row_valid, row_valid}

-- ---- tests in another order

second_first : (x a b : Bool) → x && (a && b) ≡ a && (b && x)
second_first true true true = refl
second_first true true false = refl
second_first true false b = refl
second_first false true true = refl
second_first false true false = refl
second_first false false b = refl

third_inside : (x a b v : Bool) → x && (a && (b && v)) ≡ a && (b && (x && v))
third_inside true a b v = refl
third_inside false true true v = refl
third_inside false true false v = refl
third_inside false false b v = refl

first_last : (x a b c : Bool) → x && (a && (b && c)) ≡ a && (b && (c && x))
first_last true true true true = refl
first_last true true true false = refl
first_last true true false c = refl
first_last true false b c = refl
first_last false true true true = refl
first_last false true true false = refl
first_last false true false c = refl
first_last false false b c = refl

last_sixth : (a b c d e f y : Bool) → (a && (b && (c && (d && (e && y))))) && f ≡ a && (b && (c && (d && (e && (f && y)))))
last_sixth true true true true true f y = second f y
  where
    second : (f y : Bool) → y && f ≡ f && y
    second true true = refl
    second true false = refl
    second false true = refl
    second false false = refl
last_sixth true true true true false f y = refl
last_sixth true true true false e f y = refl
last_sixth true true false d e f y = refl
last_sixth true false c d e f y = refl
last_sixth false b c d e f y = refl

-- ---- zeros

zeros_test : (xs : List ℕ) → eqbs xs (replicate (length xs) 0) ≡ every is_zero xs
unfolding eqbs every
zeros_test [] = refl
zeros_test (x ∷ xs) = rw (zeros_test xs)

same : (x : ℕ) → eqb x x ≡ true
same x = eq-eqb x x refl

module _ (t : List ℕ) (h : name_width ≤ length t) where
  name_zero : eqbs (take name_width t) (name_words []) ≡ every is_zero (take name_width t)
  name_zero =
      ap (eqbs (take name_width t)) (no_words ∙ ap (λ (n : ℕ). replicate n 0) (sym (length-take-le name_width t h))) ∙ zeros_test (take name_width t)

  -- ---- a row, word by word

  module _ (v b c d e f g : ℕ) where
    adds : row_valid v (1 ∷ b ∷ c ∷ d ∷ e ∷ f ∷ g ∷ t) ≡ (eqb f v && (names_entry b c && holds_name t))
    unfolding row_valid of_row act_said row_of act_numbers act_name place_valid used is_act valid_operation valid_act holds_name eqbs
    adds =
        rw (same b, same c, same d, same e, same f, same g)
        (third_inside (eqbs (take name_width t) (name_words (name_of t))) (eqb f v) (names_entry b c) (valid_name (name_of t)))

    removes : row_valid v (2 ∷ b ∷ c ∷ d ∷ e ∷ f ∷ g ∷ t) ≡ (eqb f v && (names_entry b c && (eqb d 0 && (eqb e 0 && (eqb g 0 && every is_zero (take name_width t))))))
    unfolding row_valid of_row act_said row_of act_numbers act_name place_valid used is_act valid_operation valid_act eqbs
    removes =
        rw (same b, same c, same f, name_zero)
        (second_first (eqb d 0 && (eqb e 0 && (eqb g 0 && every is_zero (take name_width t)))) (eqb f v) (names_entry b c))

    -- leaving, or joining
    pairs : (leaves : Bool) → row_valid v (cond leaves 4 3 ∷ b ∷ c ∷ d ∷ e ∷ f ∷ g ∷ t)
        ≡ (eqb f v && (not (eqb c 0) && (not (eqb d 0) && (eqb b 0 && (eqb e 0 && (eqb g 0 && every is_zero (take name_width t)))))))
    unfolding row_valid of_row act_said row_of act_numbers act_name place_valid used is_act valid_operation valid_act eqbs
    pairs true =
        rw (same c, same d, same f, name_zero)
        (first_last (eqb b 0 && (eqb e 0 && (eqb g 0 && every is_zero (take name_width t)))) (eqb f v) (not (eqb c 0)) (not (eqb d 0)))
    pairs false =
        rw (same c, same d, same f, name_zero)
        (first_last (eqb b 0 && (eqb e 0 && (eqb g 0 && every is_zero (take name_width t)))) (eqb f v) (not (eqb c 0)) (not (eqb d 0)))

    -- of any other row only one of zeros is valid
    none : (a : ℕ) → eqb a 1 ≡ false → eqb a 2 ≡ false → eqb a 3 ≡ false → eqb a 4 ≡ false
        → row_valid v (a ∷ b ∷ c ∷ d ∷ e ∷ f ∷ g ∷ t) ≡ every is_zero (take operation_width (a ∷ b ∷ c ∷ d ∷ e ∷ f ∷ g ∷ t))
    unfolding row_valid of_row act_said row_of act_numbers act_name place_valid used is_act rest_zero eqbs every
    none a p q r s =
        rw (p, q, r, s, same f, name_zero) (last_sixth (eqb a 0) (eqb b 0) (eqb c 0) (eqb d 0) (eqb e 0) (eqb f 0) (eqb g 0 && every is_zero (take name_width t)))

    tests : (a : ℕ) → every is_zero (take operation_width (a ∷ b ∷ c ∷ d ∷ e ∷ f ∷ g ∷ t)) ≡ false
        → row_valid v (a ∷ b ∷ c ∷ d ∷ e ∷ f ∷ g ∷ t) ≡ (eqb f v && act_row_valid (a ∷ b ∷ c ∷ d ∷ e ∷ f ∷ g ∷ t))
    unfolding every
    tests a z = go (eqb a 1) refl (eqb a 2) refl (eqb a 3) refl (eqb a 4) refl
      where
        Same : ℕ → Type 0
        Same a = row_valid v (a ∷ b ∷ c ∷ d ∷ e ∷ f ∷ g ∷ t) ≡ (eqb f v && act_row_valid (a ∷ b ∷ c ∷ d ∷ e ∷ f ∷ g ∷ t))

        go : (p : Bool) → eqb a 1 ≡ p → (q : Bool) → eqb a 2 ≡ q → (r : Bool) → eqb a 3 ≡ r → (s : Bool) → eqb a 4 ≡ s → Same a
        go true p q x r y s w = subst Same (sym (eqb-true a 1 p)) adds
        go false p true q r y s w = subst Same (sym (eqb-true a 2 q)) removes
        go false p false q true r s w = subst Same (sym (eqb-true a 3 r)) (pairs false)
        go false p false q false r true s = subst Same (sym (eqb-true a 4 s)) (pairs true)
        go false p false q false r false s = none a p q r s ∙ z ∙ rw (p, q, r, s) (sym (and-false (eqb f v)))

pub row_tests : (v : ℕ) (r : List ℕ) → operation_width ≤ length r → every is_zero (take operation_width r) ≡ false
    → row_valid v r ≡ (eqb (get_or r 5 0) v && act_row_valid r)
row_tests v (a ∷ b ∷ c ∷ d ∷ e ∷ f ∷ g ∷ t) h z = tests t (omega arith) v b c d e f g a z
row_tests v [] h z = absurd (omega arith)
row_tests v (a ∷ []) h z = absurd (omega arith)
row_tests v (a ∷ b ∷ []) h z = absurd (omega arith)
row_tests v (a ∷ b ∷ c ∷ []) h z = absurd (omega arith)
row_tests v (a ∷ b ∷ c ∷ d ∷ []) h z = absurd (omega arith)
row_tests v (a ∷ b ∷ c ∷ d ∷ e ∷ []) h z = absurd (omega arith)
row_tests v (a ∷ b ∷ c ∷ d ∷ e ∷ f ∷ []) h z = absurd (omega arith)

-- ---- what the first word says

module _ (r : List ℕ) where
  pub used_said : (x : Result Act UnknownWord) → ActSaid (get_or r 0 0) x → is_ok x ≡ used (of_row r)
  unfolding used is_act of_row act_said
  used_said (Ok Add) e = rw e
  used_said (Ok Remove) e = rw e
  used_said (Ok Join) e = rw e
  used_said (Ok Leave) e = rw e
  used_said (Err u) e = rw (ne_eqb _ 1 (e.1 Add), ne_eqb _ 2 (e.1 Remove), ne_eqb _ 3 (e.1 Join), ne_eqb _ 4 (e.1 Leave))

  pub no_act : (x : UnknownWord) → ActSaid (get_or r 0 0) (Err x) → false ≡ act_row_valid r
  no_act x e = rw (ne_eqb _ 1 (e.1 Add), ne_eqb _ 2 (e.1 Remove), ne_eqb _ 3 (e.1 Join), ne_eqb _ 4 (e.1 Leave))
