-- `name_units` meets its contract: the units so far, and those of the rows left, are all.
use Rattle.std.proofs.Common.{arith}
use Rattle.snapshot_items.proofs.ItemLaws.{units_few, count_start, count_next, count_done}
use Rattle.snapshot_items.proofs.name_units.Goals as goal

pub loop-row-init : goal.loop-row-init
loop-row-init c = let a = c.args in count_start a.rows.count a.rows.words.now _ _ c.each-row-items.ensures.rows c.into_iter-row-iterator.ensures.into_iter_gives

pub overflow_add-units : goal.overflow_add-units
overflow_add-units c =
    let a = c.args in let l = c.loop-row in
    let n = count_next _ l.units _ l.invariant c.next.new.self c.in-Some.row _ c.in-Some.ensures.steps c.name_length.ensures in
    omega (arith, n.same, units_few a.rows.count a.rows.words.now, c.requires)

pub loop-row-preserved : goal.loop-row-preserved
loop-row-preserved c =
    let l = c.loop-row in
    count_next _ l.units _ l.invariant c.next.new.self c.in-Some.row _ c.in-Some.ensures.steps c.name_length.ensures

pub returns : goal.returns
returns c =
    let a = c.args in let l = c.loop-row in
    let e = count_done _ l.units _ l.invariant c.next.new.self c.in-None.ensures.steps in
    (e, omega (arith, e, units_few a.rows.count a.rows.words.now))
