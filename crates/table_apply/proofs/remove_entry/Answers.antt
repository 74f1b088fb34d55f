-- `remove_entry` meets its contract: the no-op, or the entry and the memberships taken out, and the host.
use mathlib.Core.Path.{◌≡◌, sym, ◌∙◌}
use mathlib.Core.Bool.{true, false}
use Rattle.table_rules.specs.NameTable.{present}
use Rattle.table_words.specs.Words.{table_of}
use Rattle.table_apply.proofs.ApplyLaws.{noop_applied, change_applied, entry_gone, none_dropped, left_packed, removed}
use Rattle.table_apply.proofs.remove_entry.Goals as goal

pub returns-then-not-drop_entry : goal.returns-then-not-drop_entry
returns-then-not-drop_entry c =
    let a = c.args in let l = a.w.now in
    let gone : present a.kind a.id (table_of l).entries ≡ false = sym c.drop_entry.ensures.0 ∙ c.if-not-drop_entry.true in
    rw (none_dropped l a.kind a.id c.requires c.drop_entry.new.w gone c.drop_entry.ensures.1)
    (noop_applied l _ c.requires (entry_gone l a.kind a.id c.requires a.version ∙ rw gone))

pub drop_memberships-requires : goal.drop_memberships-requires
drop_memberships-requires c =
    let at = c.member_column-at.ensures.1 in
    (left_packed c.args.w.now c.args.kind c.args.id c.requires c.drop_entry.new.w c.drop_entry.ensures.1, at, at)

pub returns : goal.returns
returns c =
    let a = c.args in let l = a.w.now in
    let there : present a.kind a.id (table_of l).entries ≡ true = sym c.drop_entry.ensures.0 ∙ c.if-not-drop_entry.false in
    change_applied l _ _ (entry_gone l a.kind a.id c.requires a.version ∙ rw there)
    (removed l a.kind a.id c.requires a.version c.host_without.result c.member_column-at.result c.drop_entry.new.w c.drop_memberships.new.w c.member_column-at.ensures.0 c.drop_entry.ensures.1 c.drop_memberships.ensures.1 c.host_without.ensures)
