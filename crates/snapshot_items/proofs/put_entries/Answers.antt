-- `put_entries` meets its contract: what is left to write, at the running position, is what there was to write.
use Rattle.std.proofs.Common.{◌≡◌, length, rules}
use Rattle.table_words.specs.Layout.{entry_width}
use Rattle.table_words.specs.Words.{entry_of}
use Rattle.snapshot_bytes.specs.Snapshot.{entry_bytes}
use Rattle.table_words.proofs.CutRows.{entry_cut}
use Rattle.snapshot_items.proofs.ItemLaws.{write_start, write_room, write_again, write_done}
use Rattle.snapshot_items.proofs.put_entries.Goals as goal

pub loop-row-init : goal.loop-row-init
loop-row-init c =
    let a = c.args in
    write_start entry_of entry_bytes entry_width a.buf.now a.at a.rows.count a.rows.words.now _ _ c.requires c.each-row-items.ensures.rows c.into_iter-row-iterator.ensures.into_iter_gives

pub put_entry-p-requires : goal.put_entry-p-requires
put_entry-p-requires c =
    let l = c.loop-row in
    (search rules, write_room entry_of entry_bytes entry_width entry_cut _ _ _ _ l.buf l.p l.invariant c.next.new.self c.in-Some.row c.in-Some.ensures.steps)

pub loop-row-preserved : goal.loop-row-preserved
loop-row-preserved c =
    let l = c.loop-row in
    let o = c.put_entry-p in
    let long : length o.new.buf ≡ length l.buf = search rules in
    write_again entry_of entry_bytes entry_width entry_cut _ _ _ _ l.buf l.p l.invariant c.next.new.self c.in-Some.row c.in-Some.ensures.steps o.new.buf o.result long
    o.ensures.buffer o.ensures.place

pub returns : goal.returns
returns c =
    let l = c.loop-row in
    let d = write_done entry_of entry_bytes entry_width entry_cut _ _ _ _ l.buf l.p l.invariant c.next.new.self c.in-None.ensures.steps in
    record { place = d.0; buffer = d.1 }
