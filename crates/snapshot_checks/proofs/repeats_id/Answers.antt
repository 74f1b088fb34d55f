-- `repeats_id` meets its contract: in each turn the ids left repeat exactly if those of all entries do.
use Rattle.std.proofs.Common.{◌≡◌, ◌+◌, ◌-◌, ◌*◌, not, ap, sym, ◌∙◌, arith}
use Rattle.snapshot_bytes.specs.Snapshot.{entry_item_at, next_entry, stated_table}
use Rattle.snapshot_checks.specs.RepeatedIds.{repeats_id}
use Rattle.snapshot_checks.proofs.IdLaws.{id, distinct_one, two_same, two_again, two_apart}
use Rattle.snapshot_checks.proofs.repeats_id.Goals as goal

pub loop-i-init : goal.loop-i-init
unfolding repeats_id stated_table
loop-i-init c = let e : c.from-count.result - 0 ≡ c.from-count.result = omega arith in (omega arith, rw (e, c.from-count.ensures, c.byte.ensures))

pub returns-then-a-b : goal.returns-then-a-b
returns-then-a-b c =
    let l = c.loop-i in let s = c.args.s.now in
    let n = c.from-count.result in
    let e = two_same (entry_item_at s) (next_entry s) id l.p (n - 2 * l.i) (n - 2 * (l.i + 1)) (omega arith) _ _ _ c.entry_id-a.ensures c.next_entry-q.ensures.0
    c.entry_id-b.ensures c.if-a-b.true in
    sym (l.invariant.1 ∙ ap not e)

pub returns-then-has_either : goal.returns-then-has_either
returns-then-has_either c =
    let l = c.loop-i in let s = c.args.s.now in
    let n = c.from-count.result in
    let e = two_again (entry_item_at s) (next_entry s) id l.p (n - 2 * l.i) (n - 2 * (l.i + 1)) (omega arith) _ _ _ c.entry_id-a.ensures c.next_entry-q.ensures.0
    c.entry_id-b.ensures _ c.next_entry-p.ensures.0 (sym c.has_either.ensures ∙ c.if-has_either.true) in
    sym (l.invariant.1 ∙ ap not e)

pub loop-i-preserved : goal.loop-i-preserved
loop-i-preserved c =
    let l = c.loop-i in let s = c.args.s.now in
    let n = c.from-count.result in
    let r = c.next_entry-p.ensures in
    let e = two_apart (entry_item_at s) (next_entry s) id l.p (n - 2 * l.i) (n - 2 * (l.i + 1)) (omega arith) _ _ _ c.entry_id-a.ensures c.next_entry-q.ensures.0
    c.entry_id-b.ensures _ r.0 c.if-a-b.false (sym c.has_either.ensures ∙ c.if-has_either.false) in
    (omega (arith, l.invariant.0, r.1, c.next_entry-q.ensures.1), l.invariant.1 ∙ ap not e)

pub returns : goal.returns
returns c =
    let l = c.loop-i in let s = c.args.s.now in
    sym (l.invariant.1 ∙ ap not (distinct_one (entry_item_at s) (next_entry s) id l.p (c.from-count.result - 2 * l.i) (omega arith)))
