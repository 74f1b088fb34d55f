-- `column_zero` meets its contract: the fold is 0 if each word is.
use mathlib.Core.Path.{ap, ◌∙◌}
use native.Mathlib.Omega.{arith}
use Rattle.std.proofs.Common.{rules, tests, ℕ, eqb}
use lib.Bits.{bit_or}
use Rattle.rows.specs.Rows.{word_in}
use Rattle.rows.proofs.EachLaws.{fold_row, or_column}
use Rattle.rows.proofs.column_zero.Goals as goal

pub returns : goal.returns
returns c =
    let a = c.args in
    ap (λ (n : ℕ). eqb n 0) (fold_row (λ u y. bit_or u (word_in a.c y)) 0 c.fold.result c.fold.ensures.ran c.each.ensures.rows (λ u r x q k. search (rules, tests)))
    ∙ or_column a.c a.width a.count 0 a.s.now (omega arith)
