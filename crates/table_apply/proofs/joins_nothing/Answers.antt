-- `joins_nothing` meets its contract: the conditions of a no-op one after another.
use mathlib.Core.Path.{sym, ◌∙◌}
use Rattle.table_apply.proofs.ApplyLaws.{group_absent, player_absent, pair_there, join_last}
use Rattle.table_apply.proofs.joins_nothing.Goals as goal

pub returns-then-not-is_present : goal.returns-then-not-is_present
returns-then-not-is_present c =
    let a = c.args in
    group_absent a.w.now a.group a.player (sym c.is_present.ensures ∙ c.if-not-is_present.true)

pub returns-then-not-is_present-2 : goal.returns-then-not-is_present-2
returns-then-not-is_present-2 c =
    let a = c.args in
    player_absent a.w.now a.group a.player (sym c.is_present.ensures ∙ c.if-not-is_present.false) (sym c.is_present-2.ensures ∙ c.if-not-is_present-2.true)

pub returns-then-has_pair : goal.returns-then-has_pair
returns-then-has_pair c =
    let a = c.args in
    c.if-has_pair.true
    ∙ pair_there a.w.now a.group a.player (sym c.is_present.ensures ∙ c.if-not-is_present.false) (sym c.is_present-2.ensures ∙ c.if-not-is_present-2.false)
    (sym c.has_pair.ensures ∙ c.if-has_pair.true)

pub returns-else-has_pair : goal.returns-else-has_pair
returns-else-has_pair c =
    let a = c.args in
    rw c.small.ensures
    (join_last a.w.now a.group a.player (sym c.is_present.ensures ∙ c.if-not-is_present.false) (sym c.is_present-2.ensures ∙ c.if-not-is_present-2.false)
    (sym c.has_pair.ensures ∙ c.if-has_pair.false))
