-- `run_length` meets its contract.
use mathlib.Core.Path.{ap, ◌∙◌}
use mathlib.Core.Bool.{not}
use Rattle.std.proofs.Common.{rules, tests}
use Rattle.table_rules.specs.Operations.{Operation}
use Rattle.table_words.specs.Words.{of_row}
use Rattle.table_words.proofs.CutRows.{operation_cut}
use Rattle.table_words.proofs.FirstLaws.{first_row}
use Rattle.table_window.specs.Window.{used}
use Rattle.table_window.proofs.WindowLaws.{run_first}
use Rattle.table_window.proofs.run_length.Goals as goal

pub returns : goal.returns
returns c =
    let rows = rw (c.new.ensures.0, c.new.ensures.1) at c.each.ensures.rows in
    c.unwrap_or.ensures
    ∙ first_row (λ y. not (used (of_row y))) c.position.result c.position.ensures.ran rows (λ y. ap (λ (o : Operation). not (used o)) (operation_cut y)) (λ x b q k. search (rules, tests))
    ∙ run_first _
