-- `put_table` meets its contract: head, entries and memberships, one after another.
use mathlib.Core.Path.{◌≡◌}
use native.Mathlib.Omega.{arith}
use lib.ListN.{length}
use Rattle.table_words.specs.Words.{table_of}
use Rattle.snapshot_bytes.proofs.PutLaws.{length_snapshot}
use Rattle.snapshot.proofs.SaveLaws.{saved_length, whole_room, table_put}
use borrow.Author.Rules.{rules}
use Rattle.snapshot.proofs.put_table.Goals as goal

pub put_head-requires : goal.put_head-requires
put_head-requires c =
    let l = c.args.w.now in
    omega (arith, c.requires.1, c.requires.3, saved_length l, length_snapshot (table_of l))

pub put_entries-at-requires : goal.put_entries-at-requires
put_entries-at-requires c =
    let l = c.args.w.now in
    let lb : length c.put_head.new.buf ≡ length c.args.buf.now = search rules in
    rw (c.entries.ensures.0, c.entries.ensures.1) (omega (arith, lb, c.requires.1, c.requires.3, saved_length l, whole_room l))

pub put_memberships-requires : goal.put_memberships-requires
put_memberships-requires c =
    let l = c.args.w.now in
    let p = c.put_entries-at in
    let place = rw (c.entries.ensures.0, c.entries.ensures.1) at p.ensures.place in
    let lb : length p.new.buf ≡ length c.args.buf.now = search rules in
    rw (c.memberships.ensures.0, c.memberships.ensures.1) (omega (arith, lb, c.requires.1, c.requires.3, saved_length l, place, whole_room l))

pub returns : goal.returns
returns c =
    let l = c.args.w.now in let d = c.args.buf.now in
    let p = rw (c.entries.ensures.0, c.entries.ensures.1) at c.put_entries-at.ensures.place in
    let e = rw (c.entries.ensures.0, c.entries.ensures.1) at c.put_entries-at.ensures.buffer in
    let m = rw (c.memberships.ensures.0, c.memberships.ensures.1) at c.put_memberships.ensures.buffer in
    table_put l d c.put_head.new.buf c.put_entries-at.new.buf c.put_memberships.new.buf
    c.args.size c.low.result c.low-2.result c.put_entries-at.result c.requires.1 c.low.ensures c.low-2.ensures (omega (arith, c.requires.1, c.requires.3, saved_length l))
    c.put_head.ensures p e m
