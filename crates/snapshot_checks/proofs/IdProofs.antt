-- The statements of repeated ids, proved.
use mathlib.Core.Path.{◌≡◌, refl}
use Prim.Native.Nat.{ℕ}
use mathlib.Core.Bool.{Bool, true, false}
use mathlib.Core.List.{List}
use borrow.Author.Tests.{not-true}
use Rattle.table_rules.specs.Valid.{ids_distinct, table_no}
use Rattle.table_rules.proofs.NumberLaws.{repeated_no_law}
use Rattle.snapshot_bytes.specs.Snapshot.{entry_count_at, head_size, byte_of, entry_item_at, next_entry, sizes_valid, stated_table, head_no, sizes_no, snapshot_no}
use Rattle.snapshot_checks.specs.RepeatedIds.{repeats_id, OneIdTwice, RepeatedIds}
use Rattle.snapshot_checks.proofs.IdLaws.{id, Twice, twice, not_distinct}

told : (s : List ℕ) → repeats_id s ≡ true → OneIdTwice s
unfolding repeats_id stated_table
told s h =
    let n : ℕ = byte_of s entry_count_at in
    let t : Twice (entry_item_at s) (next_entry s) id head_size n =
    twice (entry_item_at s) (next_entry s) id head_size n (not-true (ids_distinct (stated_table s).entries) h) in
    record { first = t.first; second = t.second; apart = t.apart; within = t.within; one_id = t.same }

found : (s : List ℕ) → OneIdTwice s → repeats_id s ≡ true
unfolding repeats_id stated_table
found s t = rw (not_distinct (entry_item_at s) (next_entry s) id head_size (byte_of s entry_count_at) t.first t.second t.apart t.within t.one_id)

refused : (s : List ℕ) → head_no s ≡ 0 → repeats_id s ≡ true → snapshot_no s ≡ 24
unfolding snapshot_no repeats_id sizes_no
refused s z h = go (sizes_valid s head_size (byte_of s entry_count_at)) refl
  where
    n : table_no (stated_table s) ≡ 24
    n = repeated_no_law (stated_table s) (not-true (ids_distinct (stated_table s).entries) h)

    go : (b : Bool) → sizes_valid s head_size (byte_of s entry_count_at) ≡ b → snapshot_no s ≡ 24
    go true e = rw (z, e, n)
    go false e = rw (z, e)

pub repeated_ids : RepeatedIds
repeated_ids = record { told = told; found = found; refused = refused }
