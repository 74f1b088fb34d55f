-- `row_valid` meets its contract: the version, and what stands with it.
use mathlib.Core.Path.{◌≡◌, sym, ◌∙◌}
use mathlib.Core.Bool.{false}
use lib.ListN.{take, get_or}
use borrow.Author.Tests.{eq-eqb}
use Rattle.lists.specs.Lists.{every}
use Rattle.rows.specs.Rows.{is_zero}
use Rattle.table_words.specs.Layout.{operation_width}
use Rattle.table_window.proofs.RowTests.{row_tests}
use Rattle.table_window.proofs.row_valid.Goals as goal

pub returns-then-wide-v : goal.returns-then-wide-v
returns-then-wide-v c =
    let r = c.args.row.now in
    let z : every is_zero (take operation_width r) ≡ false = sym c.all_zero.ensures ∙ c.if-all_zero.false in
    c.act_valid.ensures ∙ sym (row_tests c.args.v r c.requires z ∙ rw (eq-eqb (get_or r 5 0) c.args.v (sym c.wide.ensures ∙ c.if-wide-v.true)))
