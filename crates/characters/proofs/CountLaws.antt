-- Laws of the count: what each unit begins adds up to it, and its bounds.
use mathlib.Core.Path.{◌≡◌, refl, ap}
use Prim.Native.Nat.{ℕ, ◌+◌, ◌≤◌}
use mathlib.Core.Bool.{Bool, true, false, cond, ◌&&◌, and-false}
use mathlib.Core.List.{List, [], ◌∷◌}
use lib.Dec.{leb}
use native.Mathlib.Omega.{arith}
use native.Mathlib.Nat.{zero-add}
use borrow.Author.Tests.{leb-true, lt-leb}
use Rattle.lists.proofs.ListLaws.{and_l, and_r}
use Rattle.characters.specs.Characters.{is_high, is_low, characters, CountBounds}
use Rattle.characters.specs.Inner.{begun, begun_by}

-- ---- added up

low_not_high : (u : ℕ) → is_low u ≡ true → is_high u ≡ false
low_not_high u e =
    let h : 0xDC00 ≤ u = leb-true 0xDC00 u (and_l (leb 0xDC00 u) (leb u 0xDFFF) e) in
    rw (lt-leb u 0xDBFF (omega arith)) (and-false (leb 0xD800 u))

-- a unit that is no high half is like none before it
behind_other : (v : ℕ) (us : List ℕ) → is_high v ≡ false → begun_by v us ≡ begun_by 0 us
unfolding begun
behind_other v [] e = refl
behind_other v (u ∷ us) e = rw e

pub adds_up : (us : List ℕ) → characters us ≡ begun_by 0 us
unfolding begun
adds_up [] = refl
adds_up (u ∷ []) = refl
adds_up (u ∷ (v ∷ us)) = ap (λ (n : ℕ). 1 + n) (go (is_high u && is_low v) refl (adds_up us) (adds_up (v ∷ us)))
  where
    go : (b : Bool) → is_high u && is_low v ≡ b → characters us ≡ begun_by 0 us → characters (v ∷ us) ≡ begun_by 0 (v ∷ us)
        → cond b (characters us) (characters (v ∷ us)) ≡ cond b 0 1 + begun_by v us
    go true e h k = rw (behind_other v us (low_not_high v (and_r (is_high u) (is_low v) e)), zero-add) h
    go false e h k = k

-- ---- bounds

pub bounds : (us : List ℕ) → CountBounds us
bounds [] = record { most = omega arith; least = omega arith }
bounds (u ∷ []) = record { most = omega arith; least = omega arith }
bounds (u ∷ (v ∷ us)) = go (is_high u && is_low v) refl (bounds us) (bounds (v ∷ us))
  where
    go : (b : Bool) → is_high u && is_low v ≡ b → CountBounds us → CountBounds (v ∷ us) → CountBounds (u ∷ (v ∷ us))
    go true e h k = record { most = rw e (omega (arith, h.most)); least = rw e (omega (arith, h.least)) }
    go false e h k = record { most = rw e (omega (arith, k.most)); least = rw e (omega (arith, k.least)) }
