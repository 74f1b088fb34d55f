-- `has_word` meets its contract.
use native.Mathlib.Omega.{arith}
use Rattle.std.proofs.Common.{rules, tests}
use Rattle.rows.specs.Rows.{word_is}
use Rattle.rows.proofs.EachLaws.{any_row, word_cut}
use Rattle.rows.proofs.has_word.Goals as goal

pub returns : goal.returns
returns c =
    let a = c.args in
    any_row (word_is a.c a.x) c.any.result c.any.ensures.ran c.each.ensures.rows (word_cut a.c a.width a.x (omega arith)) (λ x b q k. search (rules, tests))
