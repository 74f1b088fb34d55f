-- `rows_valid` meets its contract: what the test says of the rows that are left is what it says of all.
use Rattle.std.proofs.Common.{◌≡◌, ◌+◌, length}
use Rattle.table_words.specs.Layout.{operation_width, window_size}
use Rattle.table_window.specs.Inner.{rows_valid}
use Rattle.table_window.proofs.WindowLaws.{all_valid}
use Rattle.rows.proofs.EachLaws.{Left}
use Rattle.table_window.proofs.rows_valid.Given as goal

abbrev pub invariant-loop-row : goal.invariant-loop-row
invariant-loop-row l = (l.v ≡ l.version + 2 + length l.yielded)
    × Left l.row-iterator operation_width (all_valid l.v) (rows_valid (l.version + 2) window_size l.s)
