-- the units so far, and those of the rows left, are all
use Rattle.table_words.specs.Words.{entries_in}
use Rattle.snapshot_bytes.specs.Snapshot.{name_units}
use Rattle.snapshot_items.proofs.ItemLaws.{Counting}
use Rattle.snapshot_items.proofs.name_units.Given as goal

abbrev pub invariant-loop-row : goal.invariant-loop-row
invariant-loop-row l = Counting l.row-iterator l.units (name_units (entries_in l.rows.count l.rows.words.now))
