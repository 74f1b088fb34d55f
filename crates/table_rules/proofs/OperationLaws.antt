-- The kept fields determine the operation, so the test of two operations is their equality.
use mathlib.Core.Path.{◌≡◌, refl, sym, ap, ◌∙◌}
use Prim.Native.Nat.{ℕ}
use mathlib.Core.Bool.{true}
use mathlib.Core.List.{List, ◌++◌}
use lib.ListN.{length, drop, get_or}
use Rattle.lists.proofs.ListLaws.{eqbs_eq, eqbs_refl}
use Rattle.table_rules.specs.Operations.{Act, Empty, AddEntry, RemoveEntry, Join, Leave, Operation, number_count, act_numbers, act_name, kept, same_operation, act_said}

pub numbers_wide : (v : ℕ) (a : Act) → length (act_numbers v a) ≡ number_count
unfolding act_numbers
numbers_wide v Empty = refl
numbers_wide v (AddEntry k i o f d n) = refl
numbers_wide v (RemoveEntry k i) = refl
numbers_wide v (Join g p) = refl
numbers_wide v (Leave g p) = refl

-- the act is read off its numbers and its name, whatever stands behind the numbers
pub said_back : (v : ℕ) (a : Act) (r : List ℕ) → act_said (act_numbers v a ++ r) (act_name a) ≡ a
unfolding act_said act_numbers act_name
said_back v Empty r = refl
said_back v (AddEntry k i o f d n) r = refl
said_back v (RemoveEntry k i) r = refl
said_back v (Join g p) r = refl
said_back v (Leave g p) r = refl

pub version_back : (v : ℕ) (a : Act) (r : List ℕ) → get_or (act_numbers v a ++ r) 5 0 ≡ v
unfolding act_numbers
version_back v Empty r = refl
version_back v (AddEntry k i o f d n) r = refl
version_back v (RemoveEntry k i) r = refl
version_back v (Join g p) r = refl
version_back v (Leave g p) r = refl

pub numbers_behind : (v : ℕ) (a : Act) (r : List ℕ) → drop number_count (act_numbers v a ++ r) ≡ r
unfolding act_numbers
numbers_behind v Empty r = refl
numbers_behind v (AddEntry k i o f d n) r = refl
numbers_behind v (RemoveEntry k i) r = refl
numbers_behind v (Join g p) r = refl
numbers_behind v (Leave g p) r = refl

-- the operation of kept fields
abbrev of_kept : List ℕ → Operation
of_kept r = record { version = get_or r 5 0; act = act_said r (drop number_count r) }

kept_back : (o : Operation) → of_kept (kept o) ≡ o
unfolding kept
kept_back o =
    let v : ℕ = o.version in
    let a : Act = o.act in
    let r : List ℕ = act_numbers v a ++ act_name a in
    let e : act_said r (drop number_count r) ≡ a = ap (act_said r) (numbers_behind v a (act_name a)) ∙ said_back v a (act_name a) in
    λ i. record { version = version_back v a (act_name a) i; act = e i }

pub same_eq : (a b : Operation) → same_operation a b ≡ true → a ≡ b
unfolding same_operation
same_eq a b h = sym (kept_back a) ∙ ap of_kept (eqbs_eq (kept a) (kept b) h) ∙ kept_back b

pub eq_same : (a b : Operation) → a ≡ b → same_operation a b ≡ true
unfolding same_operation
eq_same a b e = rw (← e) (eqbs_refl (kept a))
