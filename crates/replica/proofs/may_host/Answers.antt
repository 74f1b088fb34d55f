-- `may_host` meets its contract: the two tests, in their order.
use mathlib.Core.Path.{◌≡◌, sym, ◌∙◌}
use mathlib.Core.Bool.{false}
use lib.ListN.{get_or}
use lib.Dec.{eqb}
use borrow.Author.Tests.{eq-eqb, ne_eqb}
use Rattle.table_rules.specs.Operations.{player}
use Rattle.table_rules.specs.NameTable.{may_host}
use Rattle.replica.proofs.may_host.Goals as goal

pub returns-then-row-from : goal.returns-then-row-from
unfolding may_host
returns-then-row-from c = rw (eq-eqb _ _ (c.if-row-from.true ∙ c.from.ensures))

pub returns-else-row-from : goal.returns-else-row-from
unfolding may_host
returns-else-row-from c =
    let e : eqb (get_or c.args.row.now 0 0) player ≡ false = ne_eqb _ _ (λ h. c.if-row-from.false (h ∙ sym c.from.ensures)) in
    rw (c.from.ensures, e)
