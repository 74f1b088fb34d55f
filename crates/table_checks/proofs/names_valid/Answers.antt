-- `names_valid` meets its contract.
use Rattle.std.proofs.Common.{rules, tests}
use Rattle.table_words.specs.Inner.{row_named}
use Rattle.table_words.proofs.CutRows.{named_cut}
use Rattle.rows.proofs.EachLaws.{every_row}
use Rattle.table_checks.proofs.names_valid.Goals as goal

pub returns : goal.returns
returns c = every_row row_named c.all.result c.all.ensures.ran c.each.ensures.rows named_cut (λ x b q k. search (rules, tests))
