-- The unbroken run at the head of a list of operations that rises, and the rest behind it. The replay's parts up to and above the
-- watermark, and what a replica applies and leaves pending, all come to these two.
use mathlib.Core.Path.{◌≡◌, refl, ap, ◌∙◌, subst}
use Prim.Native.Nat.{ℕ, suc, ◌+◌, ◌≤◌, ◌<◌}
use native.Mathlib.Omega.{arith}
use mathlib.Core.Bool.{Bool, true, false, cond}
use mathlib.Core.List.{List, [], ◌∷◌, ◌++◌}
use mathlib.Core.Option.{Option}
use lib.ListN.{length}
use lib.Dec.{eqb, ltb}
use borrow.Author.Tests.{leb-true, eqb-true, eqb-false, lt-ltb, le-ltb, le-leb, lt-leb, ne_eqb}
use Rattle.lists.specs.Lists.{every, passing, insert_by}
use Rattle.lists.proofs.ListLaws.{every_head, every_tail}
use Rattle.lists.proofs.LoopLaws.{passing_append}
use Rattle.table_rules.specs.Operations.{Operation}
use Rattle.table_rules.specs.Operations.{find, insert}
use Rattle.replay.specs.Replay.{watermark, up_to, above}
use Rattle.replay.specs.Faithful.{Rising}
use Rattle.replay.proofs.OperationLaws.{within, insert_rising}

unfoldable pub run : ℕ → List Operation → List Operation
run c [] = []
run c (o ∷ os) = cond (eqb o.version (suc c)) (o ∷ run (suc c) os) []

unfoldable pub rest : ℕ → List Operation → List Operation
rest c [] = []
rest c (o ∷ os) = cond (eqb o.version (suc c)) (rest (suc c) os) (o ∷ os)

-- the tail of a run rises after the next version
tail_rising : (c : ℕ) (o : Operation) (os : List Operation) → eqb o.version (suc c) ≡ true → Rising c (o ∷ os) → Rising (suc c) os
tail_rising c o os e r = subst (λ (n : ℕ). Rising n os) (eqb-true o.version (suc c) e) r.1

-- ---- the watermark

pub watermark_le : (c : ℕ) (os : List Operation) → c ≤ watermark c os
unfolding watermark
watermark_le c [] = omega arith
watermark_le c (o ∷ os) = go (eqb o.version (suc c)) (watermark_le (suc c) os)
  where
    go : (b : Bool) → suc c ≤ watermark (suc c) os → c ≤ cond b (watermark (suc c) os) c
    go true h = omega arith
    go false h = omega arith

pub watermark_length : (c : ℕ) (os : List Operation) → watermark c os ≡ c + length (run c os)
unfolding watermark run
watermark_length c [] = omega arith
watermark_length c (o ∷ os) = go (eqb o.version (suc c)) (watermark_length (suc c) os)
  where
    go : (b : Bool) → watermark (suc c) os ≡ suc c + length (run (suc c) os) → cond b (watermark (suc c) os) c ≡ c + length (cond b (o ∷ run (suc c) os) [])
    go true h = omega arith
    go false h = omega arith

pub watermark_within : (c hi : ℕ) (os : List Operation) → c ≤ hi → every (within hi) os ≡ true → watermark c os ≤ hi
unfolding watermark
watermark_within c hi [] h k = h
watermark_within c hi (o ∷ os) h k = go (eqb o.version (suc c)) refl (watermark_within (suc c) hi os)
  where
    go : (b : Bool) → eqb o.version (suc c) ≡ b → (suc c ≤ hi → every (within hi) os ≡ true → watermark (suc c) os ≤ hi) → cond b (watermark (suc c) os) c ≤ hi
    go true e ih =
        ih (omega (arith, eqb-true o.version (suc c) e, leb-true o.version hi (every_head (within hi) o os k))) (every_tail (within hi) o os k)
    go false e ih = h

-- ---- what holds of all holds of the rest

pub every_rest : (t : Operation → Bool) (c : ℕ) (os : List Operation) → every t os ≡ true → every t (rest c os) ≡ true
unfolding rest
every_rest t c [] h = h
every_rest t c (o ∷ os) h = go (eqb o.version (suc c)) (every_rest t (suc c) os (every_tail t o os h))
  where
    go : (b : Bool) → every t (rest (suc c) os) ≡ true → every t (cond b (rest (suc c) os) (o ∷ os)) ≡ true
    go true ih = ih
    go false ih = h

-- ---- the parts up to and above the watermark

up_to_none : (n lo : ℕ) (os : List Operation) → n ≤ lo → Rising lo os → up_to n os ≡ []
unfolding up_to passing
up_to_none n lo [] h r = refl
up_to_none n lo (o ∷ os) h r = rw (lt-leb o.version n (omega arith)) (up_to_none n o.version os (omega arith) r.1)

above_all : (n lo : ℕ) (os : List Operation) → n ≤ lo → Rising lo os → above n os ≡ os
unfolding above passing
above_all n lo [] h r = refl
above_all n lo (o ∷ os) h r = rw (lt-ltb n o.version (omega arith), above_all n o.version os (omega arith) r.1)

pub up_to_run : (c : ℕ) (os : List Operation) → Rising c os → up_to (watermark c os) os ≡ run c os
unfolding up_to passing run watermark
up_to_run c [] r = refl
up_to_run c (o ∷ os) r = go (eqb o.version (suc c)) refl (up_to_run (suc c) os)
  where
    go : (b : Bool) → eqb o.version (suc c) ≡ b → (Rising (suc c) os → up_to (watermark (suc c) os) os ≡ run (suc c) os)
        → up_to (cond b (watermark (suc c) os) c) (o ∷ os) ≡ cond b (o ∷ run (suc c) os) []
    go true e ih =
        rw (le-leb o.version (watermark (suc c) os) (omega (arith, eqb-true o.version (suc c) e, watermark_le (suc c) os)))
        (ap (λ (l : List Operation). o ∷ l) (ih (tail_rising c o os e r)))
    go false e ih = up_to_none c c (o ∷ os) (omega arith) r

pub above_rest : (c : ℕ) (os : List Operation) → Rising c os → above (watermark c os) os ≡ rest c os
unfolding above passing rest watermark
above_rest c [] r = refl
above_rest c (o ∷ os) r = go (eqb o.version (suc c)) refl (above_rest (suc c) os)
  where
    go : (b : Bool) → eqb o.version (suc c) ≡ b → (Rising (suc c) os → above (watermark (suc c) os) os ≡ rest (suc c) os)
        → above (cond b (watermark (suc c) os) c) (o ∷ os) ≡ cond b (rest (suc c) os) (o ∷ os)
    go true e ih =
        rw (le-ltb (watermark (suc c) os) o.version (omega (arith, eqb-true o.version (suc c) e, watermark_le (suc c) os)))
        (ih (tail_rising c o os e r))
    go false e ih = above_all c c (o ∷ os) (omega arith) r

-- the rest rises, and does not begin with the next version
pub rest_rising : (c : ℕ) (os : List Operation) → Rising c os → Rising (suc (watermark c os)) (rest c os)
unfolding rest watermark
rest_rising c [] r = tt
rest_rising c (o ∷ os) r = go (eqb o.version (suc c)) refl (rest_rising (suc c) os)
  where
    go : (b : Bool) → eqb o.version (suc c) ≡ b → (Rising (suc c) os → Rising (suc (watermark (suc c) os)) (rest (suc c) os))
        → Rising (suc (cond b (watermark (suc c) os) c)) (cond b (rest (suc c) os) (o ∷ os))
    go true e ih = ih (tail_rising c o os e r)
    go false e ih =
        let ne : ¬ (o.version ≡ suc c) = eqb-false o.version (suc c) e in
        (omega (arith, r.0), r.1)

-- a version past the run is in the list where it is in the rest
pub find_rest : (c : ℕ) (v : ℕ) (os : List Operation) → watermark c os < v → find v (rest c os) ≡ find v os
unfolding watermark rest find
find_rest c v [] h = refl
find_rest c v (o ∷ os) h = go (eqb o.version (suc c)) refl (find_rest (suc c) v os)
  where
    go : (b : Bool) → eqb o.version (suc c) ≡ b → (watermark (suc c) os < v → find v (rest (suc c) os) ≡ find v os)
        → find v (rest c (o ∷ os)) ≡ find v (o ∷ os)
    go true e ih =
        let k : watermark (suc c) os < v = rw e at h in
        let f : eqb o.version v ≡ false = ne_eqb o.version v (omega (arith, eqb-true o.version (suc c) e, watermark_le (suc c) os)) in
        rw (e, f) (ih k)
    go false e ih = rw e

-- ---- a list that does not begin with the next version has no run

pub record NoRun (n : ℕ) (os : List Operation) : Type 0 where
  pub runs : run n os ≡ []
  pub rests : rest n os ≡ os
  pub ends : watermark n os ≡ n

pub no_run : (n : ℕ) (os : List Operation) → Rising (suc n) os → NoRun n os
unfolding run rest watermark
no_run n [] r = record { runs = refl; rests = refl; ends = refl }
no_run n (o ∷ os) r =
    let e : eqb o.version (suc n) ≡ false = ne_eqb o.version (suc n) (omega (arith, r.0)) in
    record { runs = rw e; rests = rw e; ends = rw e }

-- ---- an operation is inserted past the run

-- the run of the longer list is the run, then that of the rest with the operation in it
pub record Inserted (c : ℕ) (op : Operation) (os : List Operation) : Type 0 where
  pub runs : run c (insert op os) ≡ run c os ++ run (watermark c os) (insert op (rest c os))
  pub rests : rest c (insert op os) ≡ rest (watermark c os) (insert op (rest c os))
  pub ends : watermark c (insert op os) ≡ watermark (watermark c os) (insert op (rest c os))

pub inserted : (c : ℕ) (op : Operation) (os : List Operation) → watermark c os < op.version → Inserted c op os
unfolding watermark run rest insert_by
inserted c op [] h = record { runs = refl; rests = refl; ends = refl }
inserted c op (o ∷ os) h = go (eqb o.version (suc c)) refl (inserted (suc c) op os)
  where
    go : (b : Bool) → eqb o.version (suc c) ≡ b → (watermark (suc c) os < op.version → Inserted (suc c) op os) → Inserted c op (o ∷ os)
    go true e ih =
        let k : watermark (suc c) os < op.version = rw e at h in
        let f : ltb op.version o.version ≡ false =
        le-ltb op.version o.version (omega (arith, eqb-true o.version (suc c) e, watermark_le (suc c) os)) in
        let i = ih k in
        record {
          runs = rw (f, e) (ap (λ (l : List Operation). o ∷ l) i.runs);
          rests = rw (f, e) i.rests;
          ends = rw (f, e) i.ends;
        }
    go false e ih = record { runs = rw e; rests = rw e; ends = rw e }

-- nothing of a run is above its end, and all of it is above its start
above_run_end : (n c : ℕ) (os : List Operation) → watermark c os ≤ n → above n (run c os) ≡ []
unfolding above passing run watermark
above_run_end n c [] h = refl
above_run_end n c (o ∷ os) h = go (eqb o.version (suc c)) refl (above_run_end n (suc c) os)
  where
    go : (b : Bool) → eqb o.version (suc c) ≡ b → (watermark (suc c) os ≤ n → above n (run (suc c) os) ≡ []) → above n (run c (o ∷ os)) ≡ []
    go true e ih =
        let k : watermark (suc c) os ≤ n = rw e at h in
        let f : ltb n o.version ≡ false = le-ltb n o.version (omega (arith, eqb-true o.version (suc c) e, watermark_le (suc c) os)) in
        rw (e, f) (ih k)
    go false e ih = rw e

above_run_start : (n c : ℕ) (os : List Operation) → n ≤ c → above n (run c os) ≡ run c os
unfolding above passing run
above_run_start n c [] h = refl
above_run_start n c (o ∷ os) h = go (eqb o.version (suc c)) refl (above_run_start n (suc c) os (omega arith))
  where
    go : (b : Bool) → eqb o.version (suc c) ≡ b → above n (run (suc c) os) ≡ run (suc c) os → above n (run c (o ∷ os)) ≡ run c (o ∷ os)
    go true e ih =
        let f : ltb n o.version ≡ true = lt-ltb n o.version (omega (arith, eqb-true o.version (suc c) e)) in
        rw (e, f) (ap (λ (l : List Operation). o ∷ l) ih)
    go false e ih = rw e

above_append : (n : ℕ) (xs ys : List Operation) → above n (xs ++ ys) ≡ above n xs ++ above n ys
unfolding above
above_append n xs ys = passing_append (λ o. ltb n o.version) xs ys

-- the operations newly reached
pub newly_reached : (c : ℕ) (op : Operation) (os : List Operation) → watermark c os < op.version → find op.version os ≡ Option.none → Rising c os
    → above (watermark c os) (up_to (watermark c (insert op os)) (insert op os)) ≡ run (watermark c os) (insert op (rest c os))
newly_reached c op os k f r =
    ap (above (watermark c os)) (up_to_run c (insert op os) (insert_rising c op os (omega (arith, k, watermark_le c os)) f r) ∙ (inserted c op os k).runs)
    ∙ above_append (watermark c os) (run c os) (run (watermark c os) (insert op (rest c os)))
    ∙ rw (above_run_end (watermark c os) c os (omega arith)) (above_run_start (watermark c os) (watermark c os) (insert op (rest c os)) (omega arith))
