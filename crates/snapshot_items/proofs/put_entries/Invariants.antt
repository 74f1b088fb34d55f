-- what is left to write, at the running position, is what there was to write
use Rattle.lists.specs.Lists.{flat_map}
use Rattle.table_words.specs.Layout.{entry_width}
use Rattle.table_words.specs.Words.{entry_of, entries_in}
use Rattle.snapshot_bytes.specs.Snapshot.{entry_bytes}
use Rattle.snapshot_items.proofs.ItemLaws.{Writing}
use Rattle.snapshot_items.proofs.put_entries.Given as goal

abbrev pub invariant-loop-row : goal.invariant-loop-row
invariant-loop-row l = Writing entry_of entry_bytes entry_width l.initial.buf l.at (flat_map entry_bytes (entries_in l.rows.count l.rows.words.now)) l.row-iterator l.buf l.p
