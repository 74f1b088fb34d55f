-- `put_pairs` meets its contract: after i turns the words are those of the first 2 * i units.
use mathlib.Core.Path.{◌∙◌}
use Prim.Native.Nat.{◌*◌}
use native.Mathlib.Omega.{arith}
use lib.ListN.{take, length-take, length-set}
use lib.Seq.{take_all}
use Rattle.names.specs.Names.{units_of}
use Rattle.names.specs.Words.{unit_words}
use Rattle.names.proofs.UnitLaws.{pair_more}
use borrow.Author.Rules.{rules}
use Rattle.names.proofs.put_pairs.Goals as goal

pub loop-i-preserved : goal.loop-i-preserved
loop-i-preserved c =
    let l = c.loop-i in
    let a = c.args in (
      search rules,
      simp length-set l.invariant.1,
      rw (c.pair_at.ensures, l.invariant.2) (pair_more unit_words l.i (take a.n (units_of a.order a.s.now)) (omega arith)),
    )

pub returns : goal.returns
returns c =
    let a = c.args in
    let l = c.loop-i in
    let us = units_of a.order a.s.now in
    l.invariant.2 ∙ rw (take_all (2 * l.i) (take a.n us) (omega (arith, length-take a.n us)))
