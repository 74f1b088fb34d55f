-- Laws of units: read off words, taken from bytes, and put into words.
use mathlib.Core.Path.{◌≡◌, refl, ap, ◌∙◌}
use Prim.Native.Nat.{ℕ, zero, suc, ◌+◌, ◌*◌, ◌/◌, ◌%◌, ◌≤◌, ◌<◌}
use native.Mathlib.Omega.{arith}
use mathlib.Core.List.{List, [], ◌∷◌}
use lib.ListN.{length, take, drop, get_or, set, replicate, length-take}
use lib.Seq.{take-nil, get_or-take, get_or-drop, length-take-le}
use Rattle.lists.proofs.LoopLaws.{rest_cons, rest_none}
use Rattle.characters.specs.Characters.{characters}
use Rattle.characters.specs.Inner.{begun, begun_by}
use Rattle.rows.proofs.MoveLaws.{lent}
use Rattle.byte_words.specs.declared.Order.{Order}
use Rattle.byte_words.specs.Bytes.{value_of}
use Rattle.names.specs.Names.{unit_limit, units_of}
use Rattle.names.specs.Words.{unit_words, name_width, paired, halves, name_words, name_of}
use Rattle.names.proofs.NameLaws.{name_fits}

-- ---- of words

low_half : (ws : List ℕ) (j : ℕ) → j % 2 ≡ 0 → get_or (halves ws) j 0 ≡ get_or ws (j / 2) 0 % unit_limit
low_half [] j h = refl
low_half (w ∷ ws) zero h = refl
low_half (w ∷ ws) (suc zero) h = absurd (omega arith)
low_half (w ∷ ws) (suc (suc j)) h =
    let d : suc (suc j) / 2 ≡ suc (j / 2) = omega arith in
    rw d (low_half ws j (omega arith))

high_half : (ws : List ℕ) (j : ℕ) → (j % 2 ≡ 0 → ⊥) → get_or (halves ws) j 0 ≡ get_or ws (j / 2) 0 / unit_limit % unit_limit
high_half [] j h = refl
high_half (w ∷ ws) zero h = absurd (h refl)
high_half (w ∷ ws) (suc zero) h = refl
high_half (w ∷ ws) (suc (suc j)) h =
    let d : suc (suc j) / 2 ≡ suc (j / 2) = omega arith in
    rw d (high_half ws j (omega arith))

-- a unit of the name of a row: the low half of its word, or the high half
module _ (r : List ℕ) (j : ℕ) (h : j < length (name_of r)) where
  name_half : get_or (name_of r) j 0 ≡ get_or (halves (take unit_words (drop 1 r))) j 0
  unfolding name_of
  name_half =
      let ws : List ℕ = take unit_words (drop 1 r) in
      get_or-take (get_or r 0 0) (halves ws) j 0 (omega (arith, length-take (get_or r 0 0) (halves ws)))

  name_word : get_or (take unit_words (drop 1 r)) (j / 2) 0 ≡ get_or r (1 + j / 2) 0
  name_word =
      get_or-take unit_words (drop 1 r) (j / 2) 0 (omega (arith, (name_fits r).short)) ∙ get_or-drop 1 r (j / 2) 0

  pub name_low : j % 2 ≡ 0 → get_or (name_of r) j 0 ≡ get_or r (1 + j / 2) 0 % unit_limit
  name_low e = name_half ∙ low_half (take unit_words (drop 1 r)) j e ∙ rw name_word

  pub name_high : (j % 2 ≡ 0 → ⊥) → get_or (name_of r) j 0 ≡ get_or r (1 + j / 2) 0 / unit_limit % unit_limit
  name_high e = name_half ∙ high_half (take unit_words (drop 1 r)) j e ∙ rw name_word

-- ---- counted: one turn of a loop, and its end

module _ (us : List ℕ) (j n before : ℕ) (e : n + begun_by before (drop j us) ≡ characters us) where
  pub count_next : (u b : ℕ) → j < length us → u ≡ get_or us j 0 → b ≡ begun before u → n + b + begun_by u (drop (j + 1) us) ≡ characters us
  count_next u b h f g = rw (g, f) (omega (arith, e, ap (begun_by before) (rest_cons us j 0 h)))

  pub count_end : length us ≤ j → n ≡ characters us
  count_end h = omega (arith, e, ap (begun_by before) (rest_none us j h))

-- ---- of bytes

pub length_units : (o : Order) (s : List ℕ) → length (units_of o s) ≡ length s / 2
length_units o [] = refl
length_units o (a ∷ []) = refl
length_units o (a ∷ (b ∷ bs)) = omega (arith, length_units o bs)

pub unit_of_bytes : (o : Order) (s : List ℕ) (j : ℕ) → 2 * j + 1 < length s
    → get_or (units_of o s) j 0 ≡ value_of o (get_or s (2 * j) 0 ∷ get_or s (2 * j + 1) 0 ∷ [])
unit_of_bytes o [] j h = absurd (omega arith)
unit_of_bytes o (a ∷ []) j h = absurd (omega arith)
unit_of_bytes o (a ∷ (b ∷ bs)) zero h = refl
unit_of_bytes o (a ∷ (b ∷ bs)) (suc j) h =
    let d : 2 * suc j + 1 ≡ suc (suc (2 * j + 1)) = omega arith in
    let e : 2 * suc j ≡ suc (suc (2 * j)) = omega arith in
    rw (d, e) (unit_of_bytes o bs j (omega arith))

-- ---- put into words, pair by pair

pub pair_more : (k i : ℕ) (us : List ℕ) → i < k
    → set (paired k (take (2 * i) us)) i (get_or us (2 * i) 0 + unit_limit * get_or us (2 * i + 1) 0) ≡ paired k (take (2 * (i + 1)) us)
pair_more zero i us h = absurd (omega arith)
pair_more (suc k) zero [] h = refl
pair_more (suc k) zero (u ∷ []) h = refl
pair_more (suc k) zero (u ∷ v ∷ us) h = refl
pair_more (suc k) (suc i) us h =
    let d : 2 * suc i + 1 ≡ suc (suc (2 * i + 1)) = omega arith in
    let e : 2 * (suc i + 1) ≡ suc (suc (2 * (i + 1))) = omega arith in
    let f : 2 * suc i ≡ suc (suc (2 * i)) = omega arith in
    rw (d, e, f) (go us (pair_more k i (drop 2 us) (omega arith)))
  where
    go : (us : List ℕ)
        → set (paired k (take (2 * i) (drop 2 us))) i (get_or (drop 2 us) (2 * i) 0 + unit_limit * get_or (drop 2 us) (2 * i + 1) 0)
        ≡ paired k (take (2 * (i + 1)) (drop 2 us))
        → set (paired (suc k) (take (suc (suc (2 * i))) us)) (suc i) (get_or us (suc (suc (2 * i))) 0 + unit_limit * get_or us (suc (suc (2 * i + 1))) 0)
        ≡ paired (suc k) (take (suc (suc (2 * (i + 1)))) us)
    go [] ih = ap (λ (l : List ℕ). 0 ∷ l) (simp take-nil at ih)
    go (u ∷ []) ih = ap (λ (l : List ℕ). (u + 0) ∷ l) (simp take-nil at ih)
    go (u ∷ v ∷ us) ih = ap (λ (l : List ℕ). (u + unit_limit * v) ∷ l) ih

-- the first n units of bytes that have as many
pub length_first : (o : Order) (s : List ℕ) (n : ℕ) → 2 * n ≤ length s → length (take n (units_of o s)) ≡ n
length_first o s n h = length-take-le n (units_of o s) (omega (arith, length_units o s))

-- a row of zeros, with the pairs put behind the first word, and the length into it
pub name_put : (z ps us : List ℕ) (n : ℕ) → z ≡ replicate name_width 0 → ps ≡ paired unit_words us → length us ≡ n
    → set (lent 1 unit_words z ps) 0 n ≡ name_words us
unfolding name_words
name_put z ps us n e f h = rw (e, f, h)
