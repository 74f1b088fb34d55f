-- `load_entries` meets its contract: the entry at the running position can be read.
use Rattle.snapshot_items.proofs.ItemLaws.{readable_at}
use Rattle.snapshot_items.proofs.load_entries.Goals as goal

pub store_entry-requires-clause-at_value : goal.store_entry-requires-clause-at_value
store_entry-requires-clause-at_value c =
    let a = c.args in let l = c.loop-i in
    rw l.invariant.2 (readable_at a.s.now a.at a.count l.i c.requires.count_value c.loop-i-test.true)
