-- `put_memberships` meets its contract: what is left to write, at the running position, is what there was to write.
use Rattle.std.proofs.Common.{◌≡◌, length, rules}
use Rattle.table_words.specs.Layout.{membership_width}
use Rattle.table_words.specs.Words.{membership_of}
use Rattle.snapshot_bytes.specs.Snapshot.{membership_bytes}
use Rattle.table_words.proofs.CutRows.{membership_cut}
use Rattle.snapshot_items.proofs.ItemLaws.{write_start, write_room, write_again, write_done}
use Rattle.snapshot_items.proofs.put_memberships.Goals as goal

pub loop-row-init : goal.loop-row-init
loop-row-init c =
    let a = c.args in
    write_start membership_of membership_bytes membership_width a.buf.now a.at a.rows.count a.rows.words.now _ _ c.requires c.each-row-items.ensures.rows c.into_iter-row-iterator.ensures.into_iter_gives

pub put_membership-p-requires : goal.put_membership-p-requires
put_membership-p-requires c =
    let l = c.loop-row in
    (search rules, write_room membership_of membership_bytes membership_width membership_cut _ _ _ _ l.buf l.p l.invariant c.next.new.self c.in-Some.row c.in-Some.ensures.steps)

pub loop-row-preserved : goal.loop-row-preserved
loop-row-preserved c =
    let l = c.loop-row in
    let o = c.put_membership-p in
    let long : length o.new.buf ≡ length l.buf = search rules in
    write_again membership_of membership_bytes membership_width membership_cut _ _ _ _ l.buf l.p l.invariant c.next.new.self c.in-Some.row c.in-Some.ensures.steps o.new.buf o.result long
    o.ensures.buffer o.ensures.place

pub returns : goal.returns
returns c =
    let l = c.loop-row in
    let d = write_done membership_of membership_bytes membership_width membership_cut _ _ _ _ l.buf l.p l.invariant c.next.new.self c.in-None.ensures.steps in
    record { place = d.0; buffer = d.1 }
