-- `put_plain` meets its contract: zeros, and the numbers over the first of them.
use mathlib.Core.Path.{ap, ◌∙◌}
use mathlib.Core.List.{List}
use Rattle.rows.specs.Rows.{put_words}
use Rattle.operations.proofs.RowLaws.{plain_row}
use Rattle.operations.proofs.put_plain.Goals as goal

pub returns : goal.returns
returns c =
    let ns = c.args.numbers.now in
    c.put.ensures ∙ ap (λ (y : List _). put_words y 0 ns) c.clear.ensures ∙ plain_row c.args.row.now ns c.told-row c.told-numbers
