-- The units of bytes by their place; what a plain character is.
use mathlib.Core.Path.{◌≡◌, refl}
use Prim.Native.Nat.{ℕ, zero, suc, ◌+◌, ◌*◌, ◌/◌, ◌≤◌, ◌<◌}
use native.Mathlib.Omega.{arith}
use mathlib.Core.Bool.{true}
use mathlib.Core.List.{List, [], ◌∷◌}
use lib.ListN.{length, get_or}
use lib.Dec.{leb}
use borrow.Author.Tests.{leb-true}
use Rattle.wire_text.specs.Text.{units}
use Rattle.lists.proofs.ListLaws.{and_l, and_r}
use Rattle.show_text.proofs.PageLaws.{pages}
use Rattle.show_escaped.specs.Escaped.{is_plain}

pub plain_small : (n : ℕ) → is_plain n ≡ true → n ≤ 126
unfolding is_plain
plain_small n h = leb-true n 126 (and_l (leb n 126) _ (and_r (leb 32 n) _ h))

pub length_units : (s : List ℕ) → length (units s) ≡ length s / 2
length_units [] = refl
length_units (a ∷ []) = refl
length_units (a ∷ (b ∷ s)) = omega (arith, length_units s)

pub unit_at : (s : List ℕ) (i : ℕ) → i < length (units s) → get_or (units s) i 0 ≡ get_or s (2 * i) 0 + 256 * get_or s (2 * i + 1) 0
unit_at [] i h = refl
unit_at (a ∷ []) i h = absurd (omega arith)
unit_at (a ∷ (b ∷ s)) zero h = refl
unit_at (a ∷ (b ∷ s)) (suc i) h =
    let e : 2 * suc i ≡ suc (suc (2 * i)) = omega arith in
    let f : suc (suc (2 * i)) + 1 ≡ suc (suc (2 * i + 1)) = omega arith in
    rw (e, f) (unit_at s i (omega arith))

-- these, and the laws of a page
pub ruleset unit_pages = (pages, unit_at, length_units)
