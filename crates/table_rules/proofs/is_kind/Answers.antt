-- `is_kind` meets its contract: by what the word says.
use mathlib.Core.Path.{◌∙◌}
use Rattle.table_rules.proofs.SaidLaws.{kind_tested}
use Rattle.table_rules.proofs.is_kind.Goals as goal

pub returns : goal.returns
returns c = c.is_ok.ensures.value ∙ kind_tested c.args.kind c.try_from.result c.try_from.ensures
