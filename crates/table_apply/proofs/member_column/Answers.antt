-- `member_column` meets its contract: a word that says no kind is not that of a player.
use mathlib.Core.Path.{refl}
use native.Mathlib.Omega.{arith}
use borrow.Author.Tests.{ne_eqb}
use Rattle.table_rules.specs.declared.EntryKind.TheVariants.{Player}
use Rattle.table_apply.proofs.member_column.Goals as goal

pub returns-in_default-2 : goal.returns-in_default-2
returns-in_default-2 c = rw (ne_eqb c.args.kind 1 ((rw c.in_default.is at c.try_from.ensures).1 Player)) (refl, omega arith)
