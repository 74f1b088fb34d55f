-- `each` meets its contract: the rows come one after another.
use native.Mathlib.Omega.{arith}
use Rattle.rows.proofs.EachLaws.{always}
use Rattle.rows.proofs.each.Goals as goal

pub returns-clause-rows : goal.returns-clause-rows
returns-clause-rows c =
    let a = c.args in let e = c.chunks_exact.ensures in
    record { rows = always a.width a.count a.s.now c.chunks_exact.result (omega arith) (omega arith) e.rest e.size; size = e.size }
