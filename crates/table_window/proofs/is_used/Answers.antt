-- `is_used` meets its contract: by what the first word says.
use mathlib.Core.Path.{◌∙◌}
use Rattle.table_window.proofs.RowTests.{used_said}
use Rattle.table_window.proofs.is_used.Goals as goal

pub returns : goal.returns
returns c = c.is_ok.ensures.value ∙ used_said c.args.row.now c.try_from.result c.try_from.ensures
