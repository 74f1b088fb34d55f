-- `unit_at` meets its contract: a unit is spelt by its two bytes.
use mathlib.Core.Path.{sym, ◌∙◌}
use native.Mathlib.Omega.{arith}
use lib.Seq.{get_or-take}
use Rattle.names.specs.Names.{units_of}
use Rattle.names.proofs.UnitLaws.{unit_of_bytes}
use Rattle.names.proofs.unit_at.Goals as goal

pub returns : goal.returns
returns c =
    let a = c.args in
    let e = get_or-take a.n (units_of a.order a.s.now) a.j 0 (omega arith) in
    let u = unit_of_bytes a.order a.s.now a.j (omega arith) in
    (c.join.ensures.0 ∙ sym (e ∙ u), c.join.ensures.1)
