-- `has_pair` meets its contract: the search over the rows is the one over the memberships.
use mathlib.Core.Path.{◌∙◌}
use Rattle.table_apply.proofs.ApplyLaws.{has_pair_law}
use Rattle.table_apply.proofs.has_pair.Goals as goal

pub returns : goal.returns
returns c = c.has_row.ensures ∙ rw (c.memberships.ensures.0, c.memberships.ensures.1) (has_pair_law c.args.w.now c.args.group c.args.player)
