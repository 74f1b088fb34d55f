-- The place of the first row that passes a test, or the number of rows.
use mathlib.Core.Path.{◌≡◌, refl, ap, ◌∙◌}
use Prim.Native.Nat.{ℕ, zero, suc, ◌+◌, ◌≤◌}
use native.Mathlib.Omega.{arith}
use mathlib.Core.Bool.{Bool, true, false, cond, not}
use mathlib.Core.List.{List, [], ◌∷◌}
use lib.ListN.{length, take, drop, length-map}
use lib.Dec.{ltb}
use borrow.Author.Tests.{ltb-false}
use denote.Ref.{Bor}
use denote.Param.Members.{Mut, Called}
use Rattle.std.specs.Prelude.{Option, Some, None}
use Rattle.std.specs.Option.{unwrap_or}
use Rattle.std.specs.List.{position_or_len}
use Rattle.std.specs.Iterator.{FindsPosition}
use Rattle.std.specs.Slice.Iter.{chunks_exact_steps}
use Rattle.std.specs.declared.slice.ChunksExact.{ChunksExact}
use Rattle.std.proofs.lemmas.Iterator.Search.{position_from_yields_List}
use Rattle.rows.specs.Rows.{places, cut, Gives}
use Rattle.rows.proofs.EachLaws.{Computes}
use Rattle.rows.proofs.RowLaws.{length_places}

module _ (t : List ℕ → Bool) where
  within : (xs : List (List ℕ)) → position_or_len t xs ≤ length xs
  within [] = omega arith
  within (x ∷ xs) = go (t x) (within xs)
    where
      go : (b : Bool) → position_or_len t xs ≤ length xs → cond (not b) (1 + position_or_len t xs) 0 ≤ suc (length xs)
      go true h = omega arith
      go false h = omega (arith, h)

  first_cut : (w : ℕ) → ((y : List ℕ) → t (take w y) ≡ t y) → (k : ℕ) (l : List ℕ) → position_or_len t (cut w k l) ≡ position_or_len t (places w k l)
  unfolding places
  first_cut w same zero l = refl
  first_cut w same (suc k) l = rw (same l, first_cut w same k (drop w l))

  count_cut : (w k : ℕ) (l : List ℕ) → length (cut w k l) ≡ k
  count_cut w k l = length-map (places w k l) (take w) ∙ length_places w k l

  found : (b : Bool) (n k : ℕ) → ltb n k ≡ b → n ≤ k → unwrap_or (cond b (Some n) None) k ≡ n
  found true n k e h = refl
  found false n k e h = omega (arith, ltb-false n k e)

  pub first_row : {F : Type 0} {g : Mut F (Bor (List ℕ) × Unit {0}) Bool} {f : F} {it u : ChunksExact ℕ} {w k : ℕ} {l : List ℕ} (r : Option ℕ)
      → FindsPosition (chunks_exact_steps {A = ℕ}) g it f r u → Gives it w k l → ((y : List ℕ) → t (take w y) ≡ t y) → Computes g f t
      → unwrap_or r k ≡ position_or_len t (places w k l)
  first_row {w = w} {k = k} {l = l} r ran rows same computes =
      let p = position_from_yields_List {steps = chunks_exact_steps {A = ℕ}} {v = λ x. x.now} t _ _ r ran (record { runs = rows.rows }) computes in
      let n : ℕ = position_or_len t (places w k l) in
      let q : r ≡ cond (ltb n k) (Some n) None = rw (first_cut w same k l, count_cut w k l) at p in
      ap (λ (o : Option ℕ). unwrap_or o k) q ∙ found (ltb n k) n k refl (omega (arith, within (places w k l), length_places w k l))
