-- Laws of texts in a buffer: texts put one after another are one text put at once.
use mathlib.Core.Path.{◌≡◌, refl, ap, sym, ◌∙◌}
use Prim.Native.Nat.{ℕ, zero, suc, min, ◌+◌, ◌-◌, ◌≤◌}
use native.Mathlib.Omega.{arith}
use native.Mathlib.Nat.{add-zero, sub-zero, suc-sub-suc}
use mathlib.Core.Bool.{Bool, true, false, cond}
use mathlib.Core.List.{List, [], ◌∷◌, ◌++◌}
use lib.ListN.{length, take, drop, length-append, length-take, take-append-drop}
use lib.Seq.{take-nil, take-append_seam}
use lib.Dec.{eqb, leb}
use borrow.Author.Tests.{leb-true, leb-false}
use Rattle.byte_words.specs.Bytes.{put}
use Rattle.byte_words.proofs.RunLaws.{length_put, put_none, put_put}
use Rattle.show_text.specs.Text.{decimal_digits, trimmed, decimal, fitting, written, place_after_text, Puts}

-- ---- texts one after another

-- the first n bytes, where n is no more than there is room for
pub front_put : (d : List ℕ) (at : ℕ) (s : List ℕ) (n : ℕ) → n ≡ min (length d - at) (length s) → Puts d at s (put d at (take n s)) (at + n)
unfolding written place_after_text
front_put d at s n e =
    let k : ℕ = length d - at in
    let l : n ≡ length (take k s) = e ∙ sym (length-take k s) in
    let t : take n s ≡ take k s = rw l (rw (take-append-drop k s) at (take-append_seam (take k s) (drop k s))) in
    record { place_is = ap (λ (i : ℕ). at + i) l; buffer_is = ap (put d at) t }

take_both : (n : ℕ) (a b : List ℕ) → take n (a ++ b) ≡ take n a ++ take (n - length (take n a)) b
take_both zero a b = refl
take_both (suc n) [] b = rw (sub-zero (suc n))
take_both (suc n) (x ∷ a) b = rw (suc-sub-suc n (length (take n a))) (ap (λ (l : List ℕ). x ∷ l) (take_both n a b))

written_then : (d : List ℕ) (at : ℕ) (a b : List ℕ) → written (written d at a) (place_after_text (length d) at a) b ≡ written d at (a ++ b)
unfolding written place_after_text
written_then d at a b = rw (length_put d at (fitting (length d) at a)) (go (leb at (length d)) refl)
  where
    n : ℕ
    n = length d - at

    q : ℕ
    q = at + length (take n a)

    go : (t : Bool) → leb at (length d) ≡ t → put (put d at (take n a)) q (take (length d - q) b) ≡ put d at (take n (a ++ b))
    go true h =
        let l : at ≤ length d = leb-true at (length d) h in
        let m : length d - q ≡ n - length (take n a) = omega (arith, length-take n a) in
        put_put d (take n a) (take (length d - q) b) at q (omega (arith, length-take n a, length-take (length d - q) b)) refl
        ∙ ap (put d at) (rw m (sym (take_both n a b)))
    go false h =
        let z : n ≡ 0 = omega (arith, leb-false at (length d) h) in
        let y : length d - q ≡ 0 = omega (arith, leb-false at (length d) h) in
        rw (y, z) (put_none (put d at []) (at + 0))

pub reached_then : (room at : ℕ) (a b : List ℕ) → place_after_text room (place_after_text room at a) b ≡ place_after_text room at (a ++ b)
unfolding place_after_text
reached_then room at a b = simp (length-take, length-append) (omega arith)

length_written : (d : List ℕ) (at : ℕ) (s : List ℕ) → length (written d at s) ≡ length d
unfolding written
length_written d at s = length_put d at (fitting (length d) at s)

-- nothing put there
pub puts_none : (d : List ℕ) (at : ℕ) → Puts d at [] d at
unfolding written place_after_text
puts_none d at = record { place_is = rw (take-nil {A = ℕ} (length d - at)) (sym (add-zero at)); buffer_is = rw (take-nil {A = ℕ} (length d - at)) (sym (put_none d at)) }

-- two texts put one after another
pub puts_then : {d₀ d₁ d₂ : List ℕ} {p₀ p₁ p₂ : ℕ} {a b : List ℕ} → Puts d₀ p₀ a d₁ p₁ → Puts d₁ p₁ b d₂ p₂ → Puts d₀ p₀ (a ++ b) d₂ p₂
puts_then {d₀} {d₁} {d₂} {p₀} {p₁} {p₂} {a} {b} v w =
    let n : length d₁ ≡ length d₀ = ap length v.buffer_is ∙ length_written d₀ p₀ a in
    record {
      place_is = w.place_is ∙ rw (n, v.place_is) (reached_then (length d₀) p₀ a b);
      buffer_is = w.buffer_is ∙ rw (v.place_is, v.buffer_is) (written_then d₀ p₀ a b);
    }

-- ---- how long a number is

trimmed_length : (l : List ℕ) → length (trimmed l) ≤ length l
trimmed_length [] = omega arith
trimmed_length (d ∷ []) = omega arith
trimmed_length (d ∷ (e ∷ ds)) = go (eqb d 48) (trimmed_length (e ∷ ds))
  where
    go : (b : Bool) → length (trimmed (e ∷ ds)) ≤ length (e ∷ ds) → length (cond b (trimmed (e ∷ ds)) (d ∷ (e ∷ ds))) ≤ length (d ∷ (e ∷ ds))
    go true h = omega arith
    go false h = omega arith

pub decimal_length : (n : ℕ) → length (decimal n) ≤ 10
unfolding decimal
decimal_length n = trimmed_length (decimal_digits 10 n)
