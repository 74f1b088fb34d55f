-- `entries_whole` meets its contract: the names, then what stands behind the rows.
use mathlib.Core.Path.{◌≡◌, ap, sym, ◌∙◌}
use Prim.Native.Nat.{◌*◌}
use mathlib.Core.Bool.{true, false}
use Rattle.lists.specs.Lists.{every}
use Rattle.rows.specs.Rows.{places, is_zero}
use Rattle.rows.proofs.PlaceLaws.{behind_row_law}
use Rattle.table_words.specs.Layout.{entry_width}
use Rattle.table_words.specs.Inner.{row_named}
use Rattle.table_checks.proofs.entries_whole.Goals as goal

pub returns-then-not-names_valid : goal.returns-then-not-names_valid
returns-then-not-names_valid c =
    let s = c.args.rows.words.now in
    let e : every row_named (places entry_width c.args.rows.count s) ≡ false = sym c.names_valid.ensures ∙ c.if-not-names_valid.true in
    rw e

pub returns : goal.returns
returns c =
    let s = c.args.rows.words.now in
    let e : every row_named (places entry_width c.args.rows.count s) ≡ true = sym c.names_valid.ensures ∙ c.if-not-names_valid.false in
    c.zero_behind.ensures ∙ rw e
