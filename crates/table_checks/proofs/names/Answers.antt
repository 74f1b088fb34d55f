-- `names` meets its contract: by its tests.
use mathlib.Core.Path.{◌≡◌, sym, ◌∙◌}
use mathlib.Core.Bool.{true, false}
use Rattle.table_rules.specs.Valid.{names_present}
use Rattle.table_words.specs.Words.{entries_in}
use Rattle.table_rules.specs.NameTable.{present}
use Rattle.table_checks.proofs.CheckLaws.{entry_there}
use Rattle.table_rules.specs.Operations.{player, group}
use Rattle.table_checks.proofs.names.Goals as goal

pub returns-then-not-has_row_by : goal.returns-then-not-has_row_by
unfolding names_present
returns-then-not-has_row_by c =
    let a = c.args in
    let e : present group a.group (entries_in a.rows.count a.rows.words.now) ≡ false = sym (entry_there a.rows.count a.rows.words.now group a.group) ∙ sym (rw c.from.ensures at c.has_row_by.ensures) ∙ c.if-not-has_row_by.true in
    rw e

pub returns : goal.returns
unfolding names_present
returns c =
    let a = c.args in
    let e : present group a.group (entries_in a.rows.count a.rows.words.now) ≡ true = sym (entry_there a.rows.count a.rows.words.now group a.group) ∙ sym (rw c.from.ensures at c.has_row_by.ensures) ∙ c.if-not-has_row_by.false in
    rw e ((rw c.from-2.ensures at c.has_row_by-2.ensures) ∙ entry_there a.rows.count a.rows.words.now player a.player)
