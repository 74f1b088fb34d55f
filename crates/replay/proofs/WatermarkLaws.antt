-- The watermark is the largest version with none missing up to it.
use mathlib.Core.Path.{◌≡◌, refl, subst}
use Prim.Native.Nat.{ℕ, suc, ◌≤◌, ◌<◌}
use native.Mathlib.Omega.{arith}
use mathlib.Core.Bool.{Bool, true, false, cond}
use mathlib.Core.List.{List, [], ◌∷◌}
use mathlib.Core.Option.{none}
use lib.Dec.{eqb, leb}
use borrow.Author.Tests.{leb-true, leb-false, eqb-true, eqb-false, ne_eqb}
use Rattle.table_rules.specs.Operations.{Operation}
use Rattle.table_rules.specs.Operations.{find}
use Rattle.replay.specs.Replay.{watermark}
use Rattle.replay.specs.Faithful.{Rising, Has, IsWatermark}
use Rattle.replay.proofs.OperationLaws.{find_early}
use Rattle.replay.proofs.RunLaws.{watermark_le}

pub next_missing : (c : ℕ) (os : List Operation) → Rising c os → find (suc (watermark c os)) os ≡ none
unfolding watermark find
next_missing c [] r = refl
next_missing c (o ∷ os) r = go (eqb o.version (suc c)) refl (next_missing (suc c) os)
  where
    go : (b : Bool) → eqb o.version (suc c) ≡ b → (Rising (suc c) os → find (suc (watermark (suc c) os)) os ≡ none)
        → find (suc (cond b (watermark (suc c) os) c)) (o ∷ os) ≡ none
    go true e ih =
        rw (ne_eqb o.version (suc (watermark (suc c) os)) (omega (arith, eqb-true o.version (suc c) e, watermark_le (suc c) os)))
        (ih (subst (λ (n : ℕ). Rising n os) (eqb-true o.version (suc c) e) r.1))
    go false e ih = rw e (find_early (suc c) o.version os r.0 r.1)

pub has_all : (c : ℕ) (os : List Operation) → Rising c os → (v : ℕ) → c < v → v ≤ watermark c os → Has v os
unfolding watermark find
has_all c [] r v h k = absurd (omega arith)
has_all c (o ∷ os) r v h k = go (eqb o.version (suc c)) refl (eqb o.version v) refl (λ p. has_all (suc c) os p v)
  where
    go : (b : Bool) → eqb o.version (suc c) ≡ b → (d : Bool) → eqb o.version v ≡ d
        → (Rising (suc c) os → suc c < v → v ≤ watermark (suc c) os → Has v os) → Has v (o ∷ os)
    go b e true f ih = (o, rw f)
    go true e false f ih =
        let ne : ¬ (o.version ≡ v) = eqb-false o.version v f in
        let q : o.version ≡ suc c = eqb-true o.version (suc c) e in
        let i = ih (subst (λ (n : ℕ). Rising n os) q r.1) (omega arith) (rw e at k) in
        (i.0, rw f i.1)
    go false e false f ih = let k' : v ≤ c = rw e at k in absurd (omega arith)

pub is_watermark : (c : ℕ) (os : List Operation) → Rising c os → IsWatermark c os (watermark c os)
is_watermark c os r = record {
  from_start = watermark_le c os;
  none_missing = has_all c os r;
  largest = λ k l f. go k f (leb k (watermark c os)) refl;
}
  where
    go : (k : ℕ) → ((v : ℕ) → c < v → v ≤ k → Has v os) → (b : Bool) → leb k (watermark c os) ≡ b → k ≤ watermark c os
    go k f true e = leb-true k (watermark c os) e
    go k f false e =
        let more : watermark c os < k = leb-false k (watermark c os) e in
        let there = f (suc (watermark c os)) (omega (arith, watermark_le c os)) more in
        let missing : find (suc (watermark c os)) os ≡ none = next_missing c os r in
        absurd (let z : ◌≡◌ {A = ℕ} 0 1 = cc there.1 in omega arith)
