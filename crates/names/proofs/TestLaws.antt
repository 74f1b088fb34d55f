-- A row holds a name exactly where the tests of the code say so: the words with two units, the one with the last, and the zeros.
use mathlib.Core.Path.{◌≡◌, refl, ap, sym, ◌∙◌}
use Prim.Native.Nat.{ℕ, zero, suc, ◌+◌, ◌-◌, ◌*◌, ◌/◌, ◌%◌, ◌≤◌, ◌<◌}
use native.Mathlib.Omega.{arith}
use mathlib.Core.Bool.{Bool, true, false, not, ◌&&◌, and-false}
use mathlib.Core.List.{List, [], ◌∷◌}
use lib.ListN.{length, take, drop, get_or}
use lib.Seq.{length-take-le, take-take, take-nil}
use lib.Dec.{eqb, ltb}
use borrow.Author.Tests.{eq-eqb, ne_eqb, lt-ltb, ltb-true, ltb-false, le-leb, lt-leb}
use Rattle.lists.specs.Lists.{All, every, eqbs}
use Rattle.lists.proofs.ListLaws.{all_take}
use Rattle.rows.specs.Rows.{is_zero}
use Rattle.rows.proofs.PlaceLaws.{and_true}
use Rattle.names.specs.Names.{unit_limit, max_name, is_name_unit, valid_name}
use Rattle.names.specs.Words.{unit_words, name_width, paired, halves, name_words, name_of}
use Rattle.names.specs.Inner.{holds_name, is_full, rest_holds}
use Rattle.names.proofs.NameLaws.{length_halves, length_name}

abbrev word_limit : ℕ
word_limit = 4294967296

-- ---- tests

swapped : (z a : Bool) → z && ((a && true) && true) ≡ a && z
swapped true true = refl
swapped true false = refl
swapped false true = refl
swapped false false = refl

-- two tests of one more word before tests of the others
two_more : (a b p e f r : Bool) → p && e ≡ f && r → p && ((a && true) && ((b && true) && e)) ≡ ((a && b) && f) && r
two_more true true p e f r h = h
two_more true false p e f r h = and-false p
two_more false b p e f r h = and-false p

-- ---- the words with no unit, one, or more

none_left : (ws : List ℕ) → eqbs ws (paired (length ws) []) ≡ every is_zero ws
unfolding eqbs every
none_left [] = refl
none_left (w ∷ ws) = ap (λ (b : Bool). eqb w 0 && b) (none_left ws)

one_left : (w : ℕ) (ws : List ℕ)
    → eqbs (w ∷ ws) (paired (suc (length ws)) (w % unit_limit ∷ [])) && every is_name_unit (w % unit_limit ∷ []) ≡ rest_holds 1 (w ∷ ws)
unfolding eqbs every
one_left w ws = go (ltb w unit_limit) refl
  where
    go : (b : Bool) → ltb w unit_limit ≡ b
        → eqbs (w ∷ ws) (paired (suc (length ws)) (w % unit_limit ∷ [])) && every is_name_unit (w % unit_limit ∷ []) ≡ rest_holds 1 (w ∷ ws)
    go true e =
        let l : w < unit_limit = ltb-true w unit_limit e in
        let m : w % unit_limit ≡ w = omega arith in
        let q : w % unit_limit + 0 ≡ w = omega arith in
        rw (q, m, eq-eqb w w refl, e, none_left ws) (swapped (every is_zero ws) (not (eqb w 0)))
    go false e =
        let l : unit_limit ≤ w = ltb-false w unit_limit e in
        rw (ne_eqb w (w % unit_limit + 0) (λ q. omega arith), e) (sym (and-false (not (eqb w 0))))

tests_say : (n : ℕ) (ws : List ℕ) → All (λ w. w < word_limit) ws → n ≤ 2 * length ws
    → eqbs ws (paired (length ws) (take n (halves ws))) && every is_name_unit (take n (halves ws))
    ≡ every is_full (take (n / 2) ws) && rest_holds (n % 2) (drop (n / 2) ws)
unfolding eqbs every
tests_say zero ws a h = and_true (eqbs ws (paired (length ws) [])) ∙ none_left ws
tests_say (suc n) [] a h = absurd (omega arith)
tests_say (suc zero) (w ∷ ws) a h = one_left w ws
tests_say (suc (suc n)) (w ∷ ws) a h =
    let d : suc (suc n) / 2 ≡ suc (n / 2) = omega arith in
    let m : suc (suc n) % 2 ≡ n % 2 = omega arith in
    let lo : ℕ = w % unit_limit in
    let hi : ℕ = w / unit_limit % unit_limit in
    let e : w ≡ lo + unit_limit * hi = omega (arith, a.0) in
    rw (d, m, eq-eqb w (lo + unit_limit * hi) e, lt-ltb lo unit_limit (omega arith), lt-ltb hi unit_limit (omega arith))
    (two_more (not (eqb lo 0)) (not (eqb hi 0)) (eqbs ws (paired (length ws) (take n (halves ws)))) (every is_name_unit (take n (halves ws)))
    (every is_full (take (n / 2) ws)) (rest_holds (n % 2) (drop (n / 2) ws)) (tests_say n ws a.1 (omega arith)))

-- ---- a row

small_all : (l : List ℕ) → ((i : ℕ) → get_or l i 0 < word_limit) → All (λ w. w < word_limit) l
small_all [] f = tt
small_all (w ∷ ws) f = (f 0, small_all ws (λ i. f (suc i)))

rest_part : (k n : ℕ) (l : List ℕ) → drop k (take n l) ≡ take (n - k) (drop k l)
rest_part zero n l = let e : n - 0 ≡ n = omega arith in rw e
rest_part (suc k) zero l = let e : 0 - suc k ≡ 0 = omega arith in rw e
rest_part (suc k) (suc n) [] = sym (take-nil (suc n - suc k))
rest_part (suc k) (suc n) (x ∷ l) = let e : suc n - suc k ≡ n - k = omega arith in rw e (rest_part k n l)

-- a length that is too large
pub holds_long : (r : List ℕ) → name_width ≤ length r → max_name < get_or r 0 0 → holds_name r ≡ false
unfolding holds_name valid_name
holds_long r k h =
    rw (lt-leb (length (name_of r)) max_name (omega (arith, length_name r k))) (and-false (eqbs (take name_width r) (name_words (name_of r))))

-- any other: the words with two units, and those behind them, as parts of the row
pub holds_parts : (r : List ℕ) (n : ℕ) → n ≡ get_or r 0 0 → name_width ≤ length r → ((i : ℕ) → get_or r i 0 < word_limit) → n ≤ max_name
    → holds_name r ≡ every is_full (take (1 + n / 2 - 1) (drop 1 r)) && rest_holds (n % 2) (take (name_width - (1 + n / 2)) (drop (1 + n / 2) r))
unfolding holds_name valid_name name_words name_of eqbs
holds_parts [] n q k f h = absurd (omega arith)
holds_parts (w ∷ l) n q k f h =
    let ws : List ℕ = take unit_words l in
    let us : List ℕ = take n (halves ws) in
    let e : length ws ≡ unit_words = length-take-le unit_words l (omega arith) in
    let m : length us ≡ n = length-take-le n (halves ws) (omega (arith, length_halves ws)) in
    let a : All (λ v. v < word_limit) ws = all_take (λ v. v < word_limit) unit_words l (small_all l (λ i. f (suc i))) in
    let x : holds_name (w ∷ l) ≡ eqbs ws (paired unit_words us) && every is_name_unit us = rw (← q, m, eq-eqb n n refl, le-leb n max_name h) in
    let b : 1 + n / 2 - 1 ≡ n / 2 = omega arith in
    let d : name_width - (1 + n / 2) ≡ unit_words - n / 2 = omega arith in
    let s : 1 + n / 2 ≡ suc (n / 2) = omega arith in
    rw (b, d, s, ← rest_part (n / 2) unit_words l, ← take-take (n / 2) unit_words l (omega arith)) (x ∙ rw e at (tests_say n ws a (omega arith)))
