-- Accepted lists that agree up to one watermark have the same run, so they give the same name table.
use mathlib.Core.Path.{◌≡◌, refl, sym, ◌∙◌}
use Prim.Native.Nat.{ℕ, suc, ◌≤◌, ◌<◌}
use native.Mathlib.Omega.{arith}
use mathlib.Core.Bool.{Bool, true, false}
use mathlib.Core.List.{List, [], ◌∷◌}
use mathlib.Core.Option.{Option, some}
use lib.Dec.{eqb}
use borrow.Author.Tests.{eqb-true}
use Rattle.table_rules.specs.Operations.{Operation}
use Rattle.table_rules.specs.Operations.{find}
use Rattle.table_rules.specs.NameTable.{NameTable}
use Rattle.replay.specs.Replay.{watermark, table_at}
use Rattle.replay.specs.Faithful.{Rising}
use Rattle.replay.proofs.OperationLaws.{find_tail}
use Rattle.replay.proofs.RunLaws.{run, watermark_le, up_to_run}

run_same : (c : ℕ) (xs ys : List Operation) → watermark c xs ≡ watermark c ys
    → ((v : ℕ) → c < v → v ≤ watermark c xs → find v xs ≡ find v ys) → run c xs ≡ run c ys
unfolding run watermark find
run_same c [] [] e f = refl
run_same c [] (y ∷ ys) e f = go (eqb y.version (suc c)) refl
  where
    go : (t : Bool) → eqb y.version (suc c) ≡ t → [] ≡ run c (y ∷ ys)
    go true h = let k : c ≡ watermark (suc c) ys = rw h at e in absurd (omega (arith, watermark_le (suc c) ys))
    go false h = rw h
run_same c (x ∷ xs) [] e f = go (eqb x.version (suc c)) refl
  where
    go : (t : Bool) → eqb x.version (suc c) ≡ t → run c (x ∷ xs) ≡ []
    go true h = let k : watermark (suc c) xs ≡ c = rw h at e in absurd (omega (arith, watermark_le (suc c) xs))
    go false h = rw h
run_same c (x ∷ xs) (y ∷ ys) e f = go (eqb x.version (suc c)) refl (eqb y.version (suc c)) refl (run_same (suc c) xs ys)
  where
    go : (t : Bool) → eqb x.version (suc c) ≡ t → (u : Bool) → eqb y.version (suc c) ≡ u
        → (watermark (suc c) xs ≡ watermark (suc c) ys → ((v : ℕ) → suc c < v → v ≤ watermark (suc c) xs → find v xs ≡ find v ys) → run (suc c) xs ≡ run (suc c) ys)
        → run c (x ∷ xs) ≡ run c (y ∷ ys)
    go false h false k ih = rw (h, k)
    go true h false k ih = let q : watermark (suc c) xs ≡ c = rw (h, k) at e in absurd (omega (arith, watermark_le (suc c) xs))
    go false h true k ih = let q : c ≡ watermark (suc c) ys = rw (h, k) at e in absurd (omega (arith, watermark_le (suc c) ys))
    go true h true k ih =
        let q : watermark (suc c) xs ≡ watermark (suc c) ys = rw (h, k) at e in
        let g : (v : ℕ) → c < v → v ≤ watermark (suc c) xs → find v (x ∷ xs) ≡ find v (y ∷ ys) = rw h at f in
        let heads : ◌≡◌ {A = Option Operation} (some x) (some y) = rw (h, k) at (g (suc c) (omega arith) (watermark_le (suc c) xs)) in
        let head : x ≡ y = cc in
        let tails : (v : ℕ) → suc c < v → v ≤ watermark (suc c) xs → find v xs ≡ find v ys =
        λ v l m.
        sym (find_tail v x xs (omega (arith, eqb-true x.version (suc c) h))) ∙ g v (omega arith) m
        ∙ find_tail v y ys (omega (arith, eqb-true y.version (suc c) k)) in
        rw (h, k, head, ih q tails)

pub table_at_same : (t : NameTable) (xs ys : List Operation) → Rising t.version xs → Rising t.version ys
    → watermark t.version xs ≡ watermark t.version ys
    → ((v : ℕ) → t.version < v → v ≤ watermark t.version xs → find v xs ≡ find v ys) → table_at t xs ≡ table_at t ys
unfolding table_at
table_at_same t xs ys p q e f = rw (up_to_run t.version xs p, up_to_run t.version ys q, run_same t.version xs ys e f)
