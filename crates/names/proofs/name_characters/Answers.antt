-- `name_characters` meets its contract: what is counted, with what the units that are left begin, is the whole count.
use native.Mathlib.Omega.{arith}
use Rattle.characters.proofs.CountLaws.{adds_up, bounds}
use Rattle.names.specs.Words.{name_of}
use Rattle.names.proofs.NameLaws.{name_fits}
use Rattle.names.proofs.UnitLaws.{count_next, count_end}
use Rattle.names.proofs.name_characters.Goals as goal

pub loop-j-init : goal.loop-j-init
loop-j-init c = omega (arith, adds_up (name_of c.args.row.now))

pub loop-j-preserved : goal.loop-j-preserved
loop-j-preserved c =
    let u = c.name_unit-u in let l = c.loop-j in
    let us = name_of c.args.row.now in
    count_next us l.j l.n l.before l.invariant u.result c.begun-n.result (omega arith) u.ensures.0 c.begun-n.ensures

pub overflow_add-n : goal.overflow_add-n
overflow_add-n c =
    let r = c.args.row.now in
    let e = loop-j-preserved c in
    omega (arith, (bounds (name_of r)).most, (name_fits r).short)

pub returns : goal.returns
returns c =
    let l = c.loop-j in let us = name_of c.args.row.now in
    count_end us l.j l.n l.before l.invariant (omega arith)
