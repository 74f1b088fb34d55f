-- Laws of the ids of a message, one after the other.
use mathlib.Core.Path.{◌≡◌}
use Prim.Native.Nat.{ℕ, zero, suc, ◌+◌, ◌≤◌, ◌<◌}
use mathlib.Core.Bool.{cond}
use mathlib.Core.List.{List, [], ◌∷◌}
use lib.ListN.{length, get_or, drop, drop_of_length-le}
use lib.Dec.{eqb}
use lib.Seq.{drop-cons}
use native.Mathlib.Omega.{arith}
use native.Mathlib.Numerals.{add-one}
use borrow.Author.Tests.{ne_eqb}
use Rattle.wire_field.specs.Words.{type_word, word}
use Rattle.wire_field.specs.declared.Position.{Position}
use Rattle.wire_layout.specs.Checks.{id_no, ids_no}
use Rattle.wire_exact.specs.Ids.{ids_of, IdsAfter}

-- each stands after the type word
pub after_at : (ids : List Position) (i : ℕ) (d : Position) → IdsAfter ids → i < length ids → type_word ≤ (get_or ids i d).0
after_at [] i d a h = absurd (omega arith)
after_at (p ∷ ps) zero d a h = a.0
after_at (p ∷ ps) (suc i) d a h = after_at ps i d a.1 (omega arith)

module _ (m : List ℕ) (ids : List Position) (i : ℕ) (d : Position) where
  id_step : i < length ids
      → ids_no m (ids_of (drop i ids))
      ≡ cond (eqb (id_no m (get_or ids i d).0) 0) (ids_no m (ids_of (drop (i + 1) ids))) (id_no m (get_or ids i d).0)
  unfolding ids_no
  id_step h = rw (add-one i, drop-cons ids i d h)

  pub id_passes : {w : ℕ} → i < length ids → w ≡ word m (get_or ids i d).0 → (w ≡ 0 → ⊥)
      → ids_no m (ids_of (drop (i + 1) ids)) ≡ ids_no m (ids_of (drop i ids))
  id_passes {w} h e z = rw (id_step h, ← e, ne_eqb w 0 z)

  pub id_fails : {w : ℕ} → i < length ids → w ≡ word m (get_or ids i d).0 → w ≡ 0 → 7 ≡ ids_no m (ids_of (drop i ids))
  id_fails {w} h e z = rw (id_step h, ← e, z)

  pub none_left : length ids ≤ i → 0 ≡ ids_no m (ids_of (drop i ids))
  unfolding ids_no
  none_left h = rw (drop_of_length-le ids h)
