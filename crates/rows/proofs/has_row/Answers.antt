-- `has_row` meets its contract.
use native.Mathlib.Omega.{arith}
use Rattle.std.proofs.Common.{rules, tests}
use Rattle.rows.specs.Rows.{words_are}
use Rattle.rows.proofs.EachLaws.{any_row, words_cut}
use Rattle.rows.proofs.has_row.Goals as goal

pub returns : goal.returns
returns c =
    let a = c.args in
    any_row (words_are a.c a.a a.d a.b) c.any.result c.any.ensures.ran c.each.ensures.rows (words_cut a.c a.a a.d a.b a.width (omega arith) (omega arith)) (λ x b q k. search (rules, tests))
