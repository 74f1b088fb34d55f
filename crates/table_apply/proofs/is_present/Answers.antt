-- `is_present` meets its contract: the search over the rows is the one over the entries.
use mathlib.Core.Path.{◌∙◌}
use Rattle.table_rules.specs.WordsSaid.{kind_word}
use Rattle.table_apply.proofs.ApplyLaws.{has_entry}
use Rattle.table_apply.proofs.is_present.Goals as goal

pub returns : goal.returns
returns c = c.has_row.ensures ∙ rw (c.entries.ensures.0, c.entries.ensures.1, c.from.ensures) (has_entry c.args.w.now (kind_word c.args.kind) c.args.id)
