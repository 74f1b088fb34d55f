-- `join` meets its contract: the no-op, or the pair put in its place.
use mathlib.Core.Path.{sym, ◌∙◌}
use Rattle.table_apply.proofs.ApplyLaws.{noop_applied, change_applied, join_noop, join_room}
use Rattle.table_apply.proofs.join.Goals as goal

pub returns-then-joins_nothing : goal.returns-then-joins_nothing
returns-then-joins_nothing c =
    let a = c.args in
    noop_applied a.w.now _ c.requires (join_noop a.w.now a.version a.group a.player ∙ sym c.joins_nothing.ensures ∙ c.if-joins_nothing.true)

pub insert_membership-requires : goal.insert_membership-requires
insert_membership-requires c =
    let a = c.args in (c.requires, join_room a.w.now a.group a.player (sym c.joins_nothing.ensures ∙ c.if-joins_nothing.false))

pub returns : goal.returns
returns c =
    let a = c.args in
    change_applied a.w.now _ _ (join_noop a.w.now a.version a.group a.player ∙ sym c.joins_nothing.ensures ∙ c.if-joins_nothing.false) c.insert_membership.ensures
