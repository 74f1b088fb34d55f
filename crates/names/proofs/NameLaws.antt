-- Laws of names in words: a name is read back, and what a row that holds one is.
use mathlib.Core.Path.{◌≡◌, refl, ap, ◌∙◌}
use Prim.Native.Nat.{ℕ, zero, suc, ◌+◌, ◌*◌, ◌/◌, ◌%◌, ◌≤◌, ◌<◌, min}
use native.Mathlib.Omega.{arith}
use mathlib.Core.Bool.{true, not}
use mathlib.Core.List.{List, [], ◌∷◌, ◌++◌}
use lib.ListN.{length, take, drop, get_or, replicate, length-take, length-drop}
use lib.Seq.{take_at, length-take-le}
use lib.Dec.{eqb, leb, ltb}
use borrow.Author.Tests.{ltb-true, leb-true}
use Rattle.lists.specs.Lists.{All, every, eqbs}
use Rattle.lists.proofs.ListLaws.{and_l, and_r, and_i, all_take, eqbs_eq, eqbs_refl}
use Rattle.names.specs.Names.{unit_limit, max_name, is_name_unit, valid_name}
use Rattle.names.specs.Words.{unit_words, name_width, paired, halves, name_words, name_of}
use Rattle.names.specs.Inner.{holds_name, NameFits}

-- ---- lengths

pub length_paired : (k : ℕ) (us : List ℕ) → length (paired k us) ≡ k
length_paired zero us = refl
length_paired (suc k) us = ap suc (length_paired k (drop 2 us))

pub name_wide : (us : List ℕ) → length (name_words us) ≡ name_width
unfolding name_words
name_wide us = ap suc (length_paired unit_words us)

-- the words of no name are zeros
pub no_words : name_words [] ≡ replicate name_width 0
unfolding name_words
no_words = refl

pub length_halves : (ws : List ℕ) → length (halves ws) ≡ 2 * length ws
length_halves [] = refl
length_halves (w ∷ ws) = ap (λ (n : ℕ). suc (suc n)) (length_halves ws) ∙ omega arith

small_halves : (ws : List ℕ) → All (λ u. u < unit_limit) (halves ws)
small_halves [] = tt
small_halves (w ∷ ws) = (omega arith, (omega arith, small_halves ws))

pub length_name : (r : List ℕ) → name_width ≤ length r → length (name_of r) ≡ min (get_or r 0 0) (2 * unit_words)
unfolding name_of
length_name r h =
    let ws : List ℕ = take unit_words (drop 1 r) in
    let e : length ws ≡ unit_words = length-take-le unit_words (drop 1 r) (omega (arith, length-drop 1 r)) in
    omega (arith, length-take (get_or r 0 0) (halves ws), length_halves ws)

-- ---- a name is read back

take_halves : (k : ℕ) (us : List ℕ) → length us ≤ 2 * k → All (λ u. u < unit_limit) us → take (length us) (halves (paired k us)) ≡ us
take_halves k [] h a = refl
take_halves zero (u ∷ us) h a = absurd (omega arith)
take_halves (suc k) (u ∷ []) h a =
    let e : (u + unit_limit * 0) % unit_limit ≡ u = omega (arith, a.0) in
    rw e
take_halves (suc k) (u ∷ v ∷ us) h a =
    let e : (u + unit_limit * v) % unit_limit ≡ u = omega (arith, a.0) in
    let d : (u + unit_limit * v) / unit_limit ≡ v = omega (arith, a.0) in
    let f : (u + unit_limit * v) / unit_limit % unit_limit ≡ v = rw d (omega (arith, a.1.0)) in
    rw (e, f, take_halves k us (omega arith) a.1.1)

pub name_back : (us r : List ℕ) → NameFits us → name_of (name_words us ++ r) ≡ us
unfolding name_of name_words
name_back us r f =
    ap (λ (y : List ℕ). take (length us) (halves y)) (take_at (paired unit_words us) r unit_words (length_paired unit_words us))
    ∙ take_halves unit_words us f.short f.units

-- every name that words hold can be held
pub name_fits : (r : List ℕ) → NameFits (name_of r)
unfolding name_of
name_fits r =
    let ws : List ℕ = take unit_words (drop 1 r) in record {
      short = omega (arith, length-take (get_or r 0 0) (halves ws), length_halves ws, length-take unit_words (drop 1 r));
      units = all_take (λ u. u < unit_limit) (get_or r 0 0) (halves ws) (small_halves ws);
    }

units_small : (us : List ℕ) → every is_name_unit us ≡ true → All (λ u. u < unit_limit) us
unfolding every
units_small [] h = tt
units_small (u ∷ us) h =
    let t = and_l (is_name_unit u) (every is_name_unit us) h in
    (ltb-true u unit_limit (and_r (not (eqb u 0)) (ltb u unit_limit) t), units_small us (and_r (is_name_unit u) (every is_name_unit us) h))

pub valid_fits : (us : List ℕ) → valid_name us ≡ true → NameFits us
unfolding valid_name
valid_fits us h =
    let s = leb-true (length us) max_name (and_l (leb (length us) max_name) (every is_name_unit us) h) in record {
      short = omega arith;
      units = units_small us (and_r (leb (length us) max_name) (every is_name_unit us) h);
    }

-- ---- a row that holds a name

pub holds_words : (r : List ℕ) → holds_name r ≡ true → take name_width r ≡ name_words (name_of r)
unfolding holds_name
holds_words r h =
    eqbs_eq (take name_width r) (name_words (name_of r)) (and_l (eqbs (take name_width r) (name_words (name_of r))) (valid_name (name_of r)) h)

pub holds_valid : (r : List ℕ) → holds_name r ≡ true → valid_name (name_of r) ≡ true
unfolding holds_name
holds_valid r h = and_r (eqbs (take name_width r) (name_words (name_of r))) (valid_name (name_of r)) h

-- the row of a valid name does, whatever stands behind it
pub holds_of : (us r : List ℕ) → valid_name us ≡ true → holds_name (name_words us ++ r) ≡ true
unfolding holds_name
holds_of us r h =
    rw (name_back us r (valid_fits us h), take_at (name_words us) r name_width (name_wide us))
    (and_i (eqbs (name_words us) (name_words us)) (valid_name us) (eqbs_refl (name_words us)) h)
