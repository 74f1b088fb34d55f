-- Laws of what each element gives, one after another.
use mathlib.Core.Path.{◌≡◌, refl, ap, sym, ◌∙◌}
use Prim.Native.Nat.{ℕ, ◌+◌, ◌*◌, ◌≤◌, ◌<◌}
use native.Mathlib.Nat.{mul-zero}
use native.Mathlib.Omega.{arith}
use mathlib.Core.List.{List, [], ◌∷◌, ◌++◌, append_assoc, append-nil}
use lib.ListN.{length, get_or, take, drop, length-append}
use Rattle.lists.specs.Lists.{flat_map}
use Rattle.lists.proofs.LoopLaws.{rest_cons, rest_none, take_more}

module _ {A B : Type 0} (f : A → List B) where
  pub flat_append : (xs ys : List A) → flat_map f (xs ++ ys) ≡ flat_map f xs ++ flat_map f ys
  flat_append [] ys = refl
  flat_append (x ∷ xs) ys = ap (λ (l : List B). f x ++ l) (flat_append xs ys) ∙ sym (append_assoc (f x) (flat_map f xs) (flat_map f ys))

  -- the elements from i on: one turn of a loop, and its end
  pub flat_next : (l : List A) (i : ℕ) (d : A) → i < length l → flat_map f (drop i l) ≡ f (get_or l i d) ++ flat_map f (drop (i + 1) l)
  flat_next l i d h = rw (rest_cons l i d h)

  pub flat_end : (l : List A) (i : ℕ) → length l ≤ i → flat_map f (drop i l) ≡ []
  flat_end l i h = rw (rest_none l i h)

  -- one more at the end
  pub flat_more : (l : List A) (i : ℕ) (d : A) → i < length l → flat_map f (take (i + 1) l) ≡ flat_map f (take i l) ++ f (get_or l i d)
  flat_more l i d h = rw (take_more l i d h, flat_append (take i l) (get_or l i d ∷ []), append-nil (f (get_or l i d)))

-- each gives w
module _ {A B : Type 0} (w : ℕ) (f : A → List B) (wide : (x : A) → length (f x) ≡ w) where
  pub length_flat : (xs : List A) → length (flat_map f xs) ≡ w * length xs
  length_flat [] = sym (mul-zero w)
  length_flat (x ∷ xs) = length-append (f x) (flat_map f xs) ∙ omega (arith, wide x, length_flat xs)
