-- A run that ends short of a target of which every version came rules out the way that its messages were delivered.
use mathlib.Core.Path.{◌≡◌, refl, subst}
use Prim.Native.Nat.{ℕ, zero, suc, ◌+◌, ◌≤◌, ◌<◌}
use native.Mathlib.Omega.{arith}
use mathlib.Core.Bool.{Bool, true, false}
use mathlib.Core.List.{List, map}
use lib.Dec.{eqb, ltb}
use borrow.Author.Tests.{eqb-true, eqb-false, ltb-true}
use Rattle.lists.specs.Lists.{every}
use Rattle.lists.proofs.ListLaws.{every_head, every_tail}
use Rattle.table_words.specs.Words.{version_of}
use Rattle.replica.specs.Valid.{valid_of}
use Rattle.replica.specs.Cases.{words_t}
use Rattle.demand.specs.Calls.{Call, deliver}
use Rattle.demand.specs.Progress.{delivers, Reaches}
use Rattle.progress_cases.specs.Cases.{falling, adding}
use Rattle.progress_cases.specs.WrongWays.{Way, left_by}

every_falling : (p : ℕ → Bool) (from k v : ℕ) → every p (falling from k) ≡ true → from < v → v ≤ from + k → p v ≡ true
every_falling p from zero v h lo hi = absurd (omega arith)
every_falling p from (suc k) v h lo hi = go (eqb (suc (from + k)) v) refl (every_falling p from k v (every_tail p (suc (from + k)) (falling from k) h) lo)
  where
    go : (b : Bool) → eqb (suc (from + k)) v ≡ b → (v ≤ from + k → p v ≡ true) → p v ≡ true
    go true e ih = subst (λ (u : ℕ). p u ≡ true) (eqb-true (suc (from + k)) v e) (every_head p (suc (from + k)) (falling from k) h)
    go false e ih = ih (let ne : ¬ (suc (from + k) ≡ v) = eqb-false (suc (from + k)) v e in omega arith)

-- from T players are added by these versions, in this order; every version up to k above T is among them, and the run ends below that
pub record Short (way : Way) (k : ℕ) (versions : List ℕ) : Type 0 where
  pub valid : valid_of words_t ≡ true
  pub complete : every (λ v. delivers v (map deliver (adding versions))) (falling (version_of words_t) k) ≡ true
  pub short : ltb (version_of (left_by way words_t (map deliver (adding versions)))) (version_of words_t + k) ≡ true

pub refuted : (way : Way) (k : ℕ) (versions : List ℕ) → k ≤ 32 → Short way k versions → ¬ Reaches (left_by way)
refuted way k versions near s r =
    let cs : List Call = map deliver (adding versions) in
    let there = r words_t (version_of words_t + k) cs s.valid (omega arith) (λ v. every_falling (λ u. delivers u cs) (version_of words_t) k v s.complete) in
    omega (arith, there, ltb-true (version_of (left_by way words_t cs)) (version_of words_t + k) s.short)
