-- Laws of operations applied one after another.
use mathlib.Core.Path.{◌≡◌, refl}
use Prim.Native.Nat.{◌≤◌}
use native.Mathlib.Omega.{arith}
use mathlib.Core.Bool.{Bool, true, false}
use mathlib.Core.List.{List, [], ◌∷◌, ◌++◌}
use lib.ListN.{length}
use Rattle.lists.specs.Lists.{bit}
use Rattle.table_rules.specs.Operations.{Operation}
use Rattle.table_rules.specs.NameTable.{NameTable, is_noop, apply, apply_all, noops_in}

pub apply_all_append : (t : NameTable) (xs ys : List Operation) → apply_all t (xs ++ ys) ≡ apply_all (apply_all t xs) ys
unfolding apply_all
apply_all_append t [] ys = refl
apply_all_append t (x ∷ xs) ys = apply_all_append (apply t x) xs ys

bit_le : (b : Bool) → bit b ≤ 1
unfolding bit
bit_le true = omega arith
bit_le false = omega arith

pub noops_length : (t : NameTable) (os : List Operation) → noops_in t os ≤ length os
unfolding noops_in
noops_length t [] = omega arith
noops_length t (o ∷ os) = omega (arith, bit_le (is_noop t o), noops_length (apply t o) os)
