-- `all_name` meets its contract.
use Rattle.std.proofs.Common.{rules, tests}
use Rattle.table_rules.specs.Valid.{names_present}
use Rattle.table_words.specs.Words.{entries_in, membership_of}
use Rattle.table_words.proofs.CutRows.{membership_cut}
use Rattle.rows.proofs.EachLaws.{every_said}
use Rattle.table_checks.proofs.all_name.Goals as goal

pub returns : goal.returns
returns c =
    every_said membership_of (names_present (entries_in c.args.rows.count c.args.rows.words.now)) c.all.result c.all.ensures.ran c.each.ensures.rows membership_cut (λ x b q k. search (rules, tests))
