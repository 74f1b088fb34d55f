-- `rank` meets its contract.
use mathlib.Core.Path.{ap, ◌∙◌}
use Rattle.std.proofs.Common.{rules, tests}
use Rattle.table_rules.specs.declared.Membership.{Membership}
use Rattle.table_rules.specs.NameTable.{before}
use Rattle.table_words.specs.Words.{membership_of}
use Rattle.table_words.proofs.CutRows.{membership_cut}
use Rattle.table_words.proofs.FirstLaws.{first_row}
use Rattle.table_apply.proofs.ApplyLaws.{rank_first}
use Rattle.table_apply.proofs.rank.Goals as goal

pub returns : goal.returns
returns c =
    let a = c.args in
    let m : Membership = record { group = a.group; player = a.player } in
    c.unwrap_or.ensures
    ∙ first_row (λ y. before m (membership_of y)) c.position.result c.position.ensures.ran c.each.ensures.rows (λ y. ap (before m) (membership_cut y)) (λ x b q k. search (rules, tests))
    ∙ rank_first m _
