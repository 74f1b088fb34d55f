-- Laws of the names that bytes state: where their lengths are valid, each is short and has units of 16 bits.
use mathlib.Core.Path.{◌≡◌}
use Prim.Native.Nat.{ℕ, zero, suc, ◌+◌, ◌*◌, ◌%◌, ◌≤◌, ◌<◌}
use native.Mathlib.Omega.{arith}
use mathlib.Core.Bool.{true, not}
use mathlib.Core.List.{List, [], ◌∷◌}
use lib.ListN.{take, drop, get_or, length-take}
use lib.Dec.{lit<, eqb, leb}
use borrow.Author.Tests.{leb-true, not-false}
use Rattle.refusal.proofs.CheckLaws.{passed}
use Rattle.byte_words.specs.Bytes.{big, IsByte, AllBytes}
use Rattle.lists.specs.Lists.{All}
use Rattle.lists.proofs.ListLaws.{and_r, all_take, all_drop, every_head, every_tail}
use Rattle.names.specs.Names.{max_name, unit_limit, units_of}
use Rattle.names.specs.Inner.{NameFits}
use Rattle.names.proofs.UnitLaws.{length_units}
use Rattle.snapshot_bytes.specs.Items.{walk}
use Rattle.snapshot_bytes.specs.Snapshot.{entry_count_at, head_size, name_start, byte_of, name_size, name_at, entry_item_at, next_entry, entries_from}
use Rattle.snapshot_bytes.specs.Snapshot.{stated_table, size_valid, sizes_valid, sizes_no}

-- bytes, from a bound of each
pub all_bytes : (s : List ℕ) → ((i : ℕ) → get_or s i 0 < 256) → AllBytes s
all_bytes [] h = tt
all_bytes (x ∷ s) h = (h 0, all_bytes s (λ i. h (suc i)))

pub short_size : (n : ℕ) → size_valid n ≡ true → n ≤ 2 * max_name
short_size n h = leb-true n (2 * max_name) (and_r (eqb (n % 2) 0) (leb n (2 * max_name)) h)

units_small : (bs : List ℕ) → AllBytes bs → All (λ u. u < unit_limit) (units_of big bs)
units_small [] h = tt
units_small (a ∷ []) h = tt
units_small (a ∷ (b ∷ bs)) h = (omega (arith, h.0, h.1.0), units_small bs h.1.1)

module _ (s : List ℕ) (b : AllBytes s) where
  name_fits : (p : ℕ) → size_valid (name_size s p) ≡ true → NameFits (name_at s p)
  unfolding name_at
  name_fits p h =
      let bs : List ℕ = take (name_size s p) (drop (p + name_start) s) in record {
        short = omega (arith, short_size (name_size s p) h, length_units big bs, length-take (name_size s p) (drop (p + name_start) s));
        units = units_small bs (all_take IsByte (name_size s p) (drop (p + name_start) s) (all_drop IsByte (p + name_start) s b));
      }

  pub names_fit : (p n : ℕ) → sizes_valid s p n ≡ true → All (λ e. NameFits e.name) (entries_from s p n)
  unfolding entry_item_at
  names_fit p zero h = tt
  names_fit p (suc n) h =
      let rest : List ℕ = walk (name_size s) (next_entry s) (next_entry s p) n in
      (name_fits p (every_head size_valid (name_size s p) rest h), names_fit (next_entry s p) n (every_tail size_valid (name_size s p) rest h))

  pub stated_names : sizes_no s ≡ 0 → All (λ e. NameFits e.name) (stated_table s).entries
  unfolding stated_table sizes_no
  stated_names z =
      let n : ℕ = byte_of s entry_count_at in
      names_fit head_size n (not-false (sizes_valid s head_size n) (passed (not (sizes_valid s head_size n)) 24 (lit< tt) z))
