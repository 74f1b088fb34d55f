-- Laws of the checks of the bytes alone: one for each way out, and what they say of the whole number.
use mathlib.Core.Path.{◌≡◌, refl, sym, ◌∙◌}
use Prim.Native.Nat.{ℕ}
use native.Mathlib.Omega.{arith}
use mathlib.Core.Bool.{Bool, true, false}
use mathlib.Core.List.{List, [], ◌∷◌}
use lib.ListN.{get_or}
use lib.Dec.{eqb}
use borrow.Author.Tests.{eqb-true, not-false}
use Rattle.refusal.specs.Checks.{when, first_of}
use Rattle.refusal.proofs.CheckLaws.{the_last, passed, each_passed}
use Rattle.table_rules.specs.Valid.{ids_distinct}
use Rattle.snapshot_bytes.specs.Snapshot.{entry_count_at, head_size, byte_of, sizes_valid, stated_table, head_no, sizes_no, snapshot_no}
use Rattle.snapshot_checks.specs.RepeatedIds.{repeats_id}
use Rattle.refusal.proofs.NumberLaws.{no_of_ok}
use Rattle.snapshot_bytes.proofs.SnapshotProofs.{stated_few}
use Rattle.snapshot_checks.proofs.IdProofs.{repeated_ids}

abbrev pub bytes_no : List ℕ → ℕ
bytes_no s = first_of (head_no s ∷ sizes_no s ∷ when (repeats_id s) 24 ∷ [])

-- what the ways out of the checks ask for
pub ruleset ways = (stated_few, no_of_ok, the_last)

module _ (s : List ℕ) where
  abbrev sizes : Bool
  sizes = sizes_valid s head_size (byte_of s entry_count_at)

  -- all of them passed
  module _ (e : bytes_no s ≡ 0) where
    each : (i : ℕ) → get_or (head_no s ∷ sizes_no s ∷ when (repeats_id s) 24 ∷ []) i 0 ≡ 0
    each i = each_passed (head_no s ∷ sizes_no s ∷ when (repeats_id s) 24 ∷ []) i e

    pub head_passed : head_no s ≡ 0
    head_passed = each 0

    pub sizes_passed : sizes_no s ≡ 0
    sizes_passed = each 1

    pub ids_passed : ids_distinct (stated_table s).entries ≡ true
    unfolding repeats_id
    ids_passed = not-false (ids_distinct (stated_table s).entries) (passed (repeats_id s) 24 (omega arith) (each 2))

  -- one that failed gives the snapshot's number
  pub bytes_refused : (n : ℕ) → n ≡ bytes_no s → (n ≡ 0 → ⊥) → snapshot_no s ≡ n
  unfolding snapshot_no sizes_no
  bytes_refused n e h = head (eqb (head_no s) 0) refl
    where
      ids : head_no s ≡ 0 → sizes ≡ true → (b : Bool) → repeats_id s ≡ b → snapshot_no s ≡ n
      ids z y true d = repeated_ids.refused s z d ∙ sym (e ∙ rw (z, y, d))
      ids z y false d = absurd (h (e ∙ rw (z, y, d)))

      lengths : head_no s ≡ 0 → (b : Bool) → sizes ≡ b → snapshot_no s ≡ n
      lengths z true y = ids z y (repeats_id s) refl
      lengths z false y = rw (z, y) (sym (e ∙ rw (z, y)))

      head : (b : Bool) → eqb (head_no s) 0 ≡ b → snapshot_no s ≡ n
      head true b = lengths (eqb-true (head_no s) 0 b) sizes refl
      head false b = rw b (sym (e ∙ rw b))
