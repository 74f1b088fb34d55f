-- `apply_run` meets its contract: what is left to apply to what there is comes to what there was to apply.
use mathlib.Core.Path.{◌≡◌}
use Prim.Native.Nat.{◌+◌, ◌≤◌}
use lib.ListN.{length, take, drop}
use lib.Seq.{slice}
use Rattle.lists.specs.Lists.{flat_map}
use Rattle.table_rules.specs.NameTable.{apply_all, noops_in}
use Rattle.table_words.specs.Layout.{window_size, window_at}
use Rattle.table_words.specs.Words.{table_of, window_in, row_of}
use Rattle.table_words.specs.Inner.{with_table, Packed}
use Rattle.replica.proofs.apply_run.Given as goal

abbrev pub invariant-loop-k : goal.invariant-loop-k
invariant-loop-k l = (l.k ≤ l.n) × (l.n ≤ window_size) × (l.noops ≤ l.k) × Packed l.w × (drop window_at l.w ≡ drop window_at l.initial.w)
    × (noops_in (table_of l.initial.w) (take l.n (window_in (drop window_at l.initial.w))) ≡ l.noops + noops_in (table_of l.w) (slice l.k l.n (window_in (drop window_at l.initial.w))))
    × (with_table (apply_all (table_of l.initial.w) (take l.n (window_in (drop window_at l.initial.w)))) l.initial.w ≡ with_table (apply_all (table_of l.w) (slice l.k l.n (window_in (drop window_at l.initial.w)))) l.w)
    × (length l.w ≡ length l.initial.w) × (drop window_at l.initial.w ≡ flat_map row_of (window_in (drop window_at l.initial.w)))
