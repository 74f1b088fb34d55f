-- `adds_nothing` meets its contract: the search over the rows is the one over the entries.
use mathlib.Core.Path.{◌≡◌, sym, ◌∙◌}
use Rattle.std.specs.Prelude.{true, false}
use Rattle.table_rules.specs.NameTable.{has_id}
use Rattle.table_words.specs.Words.{table_of}
use Rattle.table_apply.proofs.ApplyLaws.{has_id_law}
use Rattle.table_apply.proofs.adds_nothing.Goals as goal

pub returns-then-has_word : goal.returns-then-has_word
returns-then-has_word c =
    let l = c.args.w.now in
    let x : has_id c.args.id (table_of l).entries ≡ true = sym (has_id_law l c.args.id) ∙ sym (c.has_word.ensures ∙ rw (c.entries.ensures.0, c.entries.ensures.1)) ∙ c.if-has_word.true in
    c.if-has_word.true ∙ rw x

pub returns-else-has_word : goal.returns-else-has_word
returns-else-has_word c =
    let l = c.args.w.now in
    let x : has_id c.args.id (table_of l).entries ≡ false = sym (has_id_law l c.args.id) ∙ sym (c.has_word.ensures ∙ rw (c.entries.ensures.0, c.entries.ensures.1)) ∙ c.if-has_word.false in
    rw (x, c.small.ensures)
