-- `kinds_known` meets its contract.
use mathlib.Core.Path.{ap, ◌∙◌}
use native.Mathlib.Omega.{arith}
use lib.ListN.{get_or}
use Rattle.std.proofs.Common.{rules, tests}
use Rattle.std.proofs.lemmas.List.{get_or-take}
use Rattle.table_rules.specs.Operations.{is_kind}
use Rattle.table_words.specs.Layout.{entry_width}
use Rattle.rows.proofs.EachLaws.{every_row}
use Rattle.table_checks.proofs.CheckLaws.{kinds_are}
use Rattle.table_checks.proofs.kinds_known.Goals as goal

pub returns : goal.returns
returns c =
    every_row (λ y. is_kind (get_or y 0 0)) c.all.result c.all.ensures.ran c.each.ensures.rows (λ y. ap is_kind (get_or-take entry_width y 0 0 (omega arith))) (λ x b q k. search (rules, tests))
    ∙ kinds_are c.args.rows.count c.args.rows.words.now
