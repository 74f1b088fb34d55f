-- `check_text` meets its contract: what the check says of the rest is what it says of the whole.
use Rattle.std.proofs.Common.{sym, ◌∙◌, arith}
use Rattle.std.proofs.Math.Bool.{or-false}
use Rattle.std.proofs.lemmas.List.{take_rest}
use Rattle.wire_text.proofs.TextLaws.{said, from_start, text_found, text_next, text_short, begun_few}
use Rattle.wire_text.proofs.check_text.Goals as goal

pub loop-low-init : goal.loop-low-init
loop-low-init c = (omega arith, from_start c.args.s.now)

pub returns-then-u-eq0 : goal.returns-then-u-eq0
returns-then-u-eq0 c =
    let l = c.loop-low in
    let p = c.in-Some.ensures.cases in
    let f = text_found l.count l.before _ _ _ _ p.0 p.1 p.2 c.unit-u.ensures.0 c.if-u-eq0.true in
    c.then_some.ensures ∙ said _ l.count ∙ simp (or-false, c.is_empty.ensures) (sym f) ∙ l.invariant.1

pub loop-low-preserved : goal.loop-low-preserved
loop-low-preserved c =
    let l = c.loop-low in
    let u = c.unit-u in
    let p = c.in-Some.ensures.cases in
    let f = text_next l.count l.before _ _ _ _ p.0 p.1 p.2 u.ensures.0 c.if-u-eq0.false u.ensures.1 in
    simp (take_rest, ← p.1, c.begun.ensures) (omega (arith, l.invariant.0, p.2, begun_few l.before u.result), sym f ∙ l.invariant.1)

pub returns : goal.returns
returns c = let l = c.loop-low in sym (text_short l.count l.before l.rest.now c.in_default.ensures.cases) ∙ l.invariant.1
