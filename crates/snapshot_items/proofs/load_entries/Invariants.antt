-- the rows of the entries so far are stored, and the position is behind them
use Rattle.std.proofs.Common.{◌≡◌, ◌+◌, ◌*◌, ◌≤◌, length}
use Rattle.lists.specs.Lists.{flat_map}
use Rattle.table_words.specs.Words.{entry_words}
use Rattle.snapshot_bytes.specs.Items.{after}
use Rattle.snapshot_bytes.specs.Inner.{most_entry, onto}
use Rattle.snapshot_bytes.specs.Snapshot.{next_entry, entries_from}
use Rattle.snapshot_items.proofs.load_entries.Given as goal

abbrev pub invariant-loop-i : goal.invariant-loop-i
invariant-loop-i l = (length l.w ≡ length l.initial.w) × (l.p ≤ l.at + most_entry * l.i) × (l.p ≡ after (next_entry l.s) l.at l.i)
    × (l.w ≡ onto l.initial.w (flat_map entry_words (entries_from l.s l.at l.i)))
