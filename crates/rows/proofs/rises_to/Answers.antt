-- `rises_to` meets its contract: what the test says of the rows that are left is what it says of all.
use native.Mathlib.Omega.{arith}
use Rattle.std.proofs.Common.{◌+◌, ◌≤◌, false, add-one, get_or}
use borrow.Author.Tests.{le-leb, lt-leb}
use Rattle.lists.specs.Lists.{rising}
use Rattle.rows.specs.Rows.{word_in}
use Rattle.rows.proofs.EachLaws.{left_next, left_found, left_none, column}
use Rattle.rows.proofs.rises_to.Goals as goal

pub returns-then-from-low : goal.returns-then-from-low
unfolding rising
returns-then-from-low c =
    left_found c.loop-row.invariant c.next.new.self c.in-Some.row c.in-Some.ensures.steps false (λ y ys e.
    rw (column c.args.c y c.requires.0 e, lt-leb c.loop-row.low (get_or c.in-Some.row.now c.args.c 0) (omega (arith, c.from.ensures))))

pub returns-then-high-x : goal.returns-then-high-x
unfolding rising
returns-then-high-x c =
    let h : c.loop-row.low ≤ get_or c.in-Some.row.now c.args.c 0 = omega (arith, c.from.ensures) in
    left_found c.loop-row.invariant c.next.new.self c.in-Some.row c.in-Some.ensures.steps false (λ y ys e.
    rw (column c.args.c y c.requires.0 e, le-leb _ _ h, lt-leb _ _ c.if-high-x.true))

pub loop-row-preserved : goal.loop-row-preserved
unfolding rising
loop-row-preserved c =
    let h : c.loop-row.low ≤ get_or c.in-Some.row.now c.args.c 0 = omega (arith, c.from.ensures) in
    left_next c.loop-row.invariant c.next.new.self c.in-Some.row c.in-Some.ensures.steps (rising (word_in c.args.c) (c.from-low.result + 1) c.args.high) (λ y ys e.
    rw (column c.args.c y c.requires.0 e, le-leb _ _ h, le-leb _ _ c.if-high-x.false, c.from-low.ensures, add-one))

pub returns : goal.returns
unfolding rising
returns c = left_none c.loop-row.invariant c.next.new.self c.in-None.ensures.steps
