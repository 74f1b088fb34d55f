-- Laws of operations: lists of them that rise by version, search, insertion, and equal kept fields.
use mathlib.Core.Path.{◌≡◌, refl}
use Prim.Native.Nat.{ℕ, suc, ◌≤◌, ◌<◌}
use native.Mathlib.Omega.{arith}
use mathlib.Core.Bool.{Bool, true, false, cond}
use mathlib.Core.List.{List, [], ◌∷◌}
use mathlib.Core.Option.{none, some}
use lib.Dec.{eqb, leb, ltb}
use borrow.Author.Tests.{ltb-true, ltb-false, eqb-false, lt-ltb, le-leb, leb-true, eq-eqb, ne_eqb}
use Rattle.lists.specs.Lists.{every, rising, insert_by}
use Rattle.lists.proofs.ListLaws.{every_head, every_tail, every_cons, rising_lo, rising_hi, rising_tail, rising_cons}
use Rattle.table_rules.specs.Operations.{Operation}
use Rattle.table_rules.specs.Operations.{find, insert}
use Rattle.replay.specs.Faithful.{Rising}

-- ---- lists that rise

-- no version above hi
abbrev pub within : ℕ → Operation → Bool
within hi o = leb o.version hi

abbrev version : Operation → ℕ
version o = o.version

-- the two together are the test of a replica's pending operations
pub rising_test : (lo hi : ℕ) (os : List Operation) → Rising lo os → every (within hi) os ≡ true → rising version (suc lo) hi os ≡ true
unfolding rising
rising_test lo hi [] r h = refl
rising_test lo hi (o ∷ os) r h =
    rising_cons version (suc lo) hi o os r.0 (leb-true o.version hi (every_head (within hi) o os h))
    (rising_test o.version hi os r.1 (every_tail (within hi) o os h))

pub test_rising : (lo hi : ℕ) (os : List Operation) → rising version (suc lo) hi os ≡ true → Rising lo os
test_rising lo hi [] h = tt
test_rising lo hi (o ∷ os) h = (rising_lo version (suc lo) hi o os h, test_rising o.version hi os (rising_tail version (suc lo) hi o os h))

pub test_within : (lo hi : ℕ) (os : List Operation) → rising version lo hi os ≡ true → every (within hi) os ≡ true
unfolding every
test_within lo hi [] h = refl
test_within lo hi (o ∷ os) h =
    every_cons (within hi) o os (le-leb o.version hi (rising_hi version lo hi o os h)) (test_within (suc o.version) hi os (rising_tail version lo hi o os h))

-- ---- search

-- a version that is not above all of them is missing
pub find_early : (v lo : ℕ) (os : List Operation) → v ≤ lo → Rising lo os → find v os ≡ none
unfolding find
find_early v lo [] h r = refl
find_early v lo (o ∷ os) h r = rw (ne_eqb o.version v (omega (arith, r.0))) (find_early v o.version os (omega (arith, r.0)) r.1)

pub find_tail : (v : ℕ) (o : Operation) (os : List Operation) → o.version < v → find v (o ∷ os) ≡ find v os
unfolding find
find_tail v o os h = rw (ne_eqb o.version v (omega arith))

-- ---- insertion

pub insert_rising : (c : ℕ) (op : Operation) (os : List Operation) → c < op.version → find op.version os ≡ none → Rising c os → Rising c (insert op os)
unfolding insert_by find
insert_rising c op [] h n r = (h, tt)
insert_rising c op (o ∷ os) h n r = go (ltb op.version o.version) refl (eqb o.version op.version) refl n (insert_rising o.version op os)
  where
    go : (b : Bool) → ltb op.version o.version ≡ b → (d : Bool) → eqb o.version op.version ≡ d
        → cond d (some o) (find op.version os) ≡ none
        → (o.version < op.version → find op.version os ≡ none → Rising o.version os → Rising o.version (insert op os))
        → Rising c (cond b (op ∷ (o ∷ os)) (o ∷ insert op os))
    go true e d f n ih = (h, (ltb-true op.version o.version e, r.1))
    go false e true f n ih = absurd (let z : ◌≡◌ {A = ℕ} 0 1 = cc in omega arith)
    go false e false f n ih =
        let ne : ¬ (o.version ≡ op.version) = eqb-false o.version op.version f in
        (r.0, ih (omega (arith, ltb-false op.version o.version e)) n r.1)

-- an operation before all others goes to the head
pub insert_first : (op : Operation) (os : List Operation) → Rising op.version os → insert op os ≡ op ∷ os
unfolding insert_by
insert_first op [] r = refl
insert_first op (o ∷ os) r = rw (lt-ltb op.version o.version r.0)

-- insertion adds one operation, under its version
pub find_insert_same : (op : Operation) (os : List Operation) → find op.version os ≡ none → find op.version (insert op os) ≡ some op
unfolding find insert_by
find_insert_same op [] h = rw (eq-eqb op.version op.version refl)
find_insert_same op (o ∷ os) h = go (ltb op.version o.version) (eqb o.version op.version) refl h (find_insert_same op os)
  where
    go : (b d : Bool) → eqb o.version op.version ≡ d → cond d (some o) (find op.version os) ≡ none
        → (find op.version os ≡ none → find op.version (insert op os) ≡ some op) → find op.version (cond b (op ∷ (o ∷ os)) (o ∷ insert op os)) ≡ some op
    go true d f n ih = rw (eq-eqb op.version op.version refl)
    go false true f n ih = cc
    go false false f n ih = rw f (ih n)

pub find_insert_other : (v : ℕ) (op : Operation) (os : List Operation) → ¬ (op.version ≡ v) → find v (insert op os) ≡ find v os
unfolding find insert_by
find_insert_other v op [] h = rw (ne_eqb op.version v h)
find_insert_other v op (o ∷ os) h = go (ltb op.version o.version) (find_insert_other v op os h)
  where
    go : (b : Bool) → find v (insert op os) ≡ find v os → find v (cond b (op ∷ (o ∷ os)) (o ∷ insert op os)) ≡ find v (o ∷ os)
    go true ih = rw (ne_eqb op.version v h)
    go false ih = rw ih
