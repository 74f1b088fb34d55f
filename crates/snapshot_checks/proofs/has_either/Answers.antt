-- `has_either` meets its contract: a turn, at an entry that has neither id.
use Rattle.std.proofs.Common.{◌∙◌, ◌-◌, ◌+◌, arith}
use Rattle.snapshot_bytes.specs.Snapshot.{entry_item_at, next_entry}
use Rattle.snapshot_checks.proofs.IdLaws.{id, either_next}
use Rattle.snapshot_checks.proofs.has_either.Goals as goal

pub loop-preserved : goal.loop-preserved
loop-preserved c =
    let a = c.args in
    let l = c.loop in
    let r = c.next_entry-p.ensures in
    let e = either_next (entry_item_at a.s.now) (next_entry a.s.now) id a.a a.b l.p (a.count - l.counter) (a.count - (l.counter + 1)) _ (omega arith) c.entry_id-id.ensures c.if-id-a.false c.if-id-b.false in
    (omega (arith, l.invariant.0, r.1), l.invariant.1 ∙ e ∙ rw r.0)
