-- `add_entry` meets its contract: the no-op, or the entry pushed.
use mathlib.Core.Path.{sym, ◌∙◌}
use Rattle.table_apply.proofs.ApplyLaws.{noop_applied, change_applied, add_noop, add_room}
use Rattle.table_words.specs.Words.{entry_of}
use Rattle.table_apply.proofs.add_entry.Goals as goal

pub returns-then-adds_nothing : goal.returns-then-adds_nothing
returns-then-adds_nothing c =
    let l = c.args.w.now in
    noop_applied l _ c.requires.0 (add_noop l (entry_of c.args.entry.now) ∙ sym c.adds_nothing.ensures ∙ c.if-adds_nothing.true)

pub push_entry-requires-clause-w_bound : goal.push_entry-requires-clause-w_bound
push_entry-requires-clause-w_bound c = add_room c.args.w.now (entry_of c.args.entry.now) (sym c.adds_nothing.ensures ∙ c.if-adds_nothing.false)

pub returns : goal.returns
returns c =
    let l = c.args.w.now in
    change_applied l _ _ (add_noop l (entry_of c.args.entry.now) ∙ sym c.adds_nothing.ensures ∙ c.if-adds_nothing.false) c.push_entry.ensures
