-- `field_at` meets its contract: by cases on the reading and on the names.
use mathlib.Core.Path.{sym, ◌∙◌}
use native.Mathlib.Omega.{arith}
use Rattle.wire_fields.specs.FieldList.{listed_at}
use Rattle.wire_fields.proofs.NameLaws.{of_ok, unread, found, past}
use Rattle.wire_fields.proofs.field_at.Goals as goal

pub returns-in_err-read : goal.returns-in_err-read
unfolding listed_at
returns-in_err-read c = c.from_residual.ensures ∙ rw (← c.read.ensures) (unread _ _ (sym c.ok.ensures.value ∙ c.in_err-read.was))

pub returns-in_err-name : goal.returns-in_err-name
unfolding listed_at
returns-in_err-name c =
    let l = c.in_err-name.ensures.lookup in
    c.from_residual-in_err-name.ensures
    ∙ rw (← c.read.ensures, of_ok _ _ (sym c.ok.ensures.value ∙ c.in_ok-read.was), ← c.names_said-names.ensures) (past _ _ _ c.args.place (omega arith) l.3)

pub returns : goal.returns
unfolding listed_at
returns c =
    let l = c.in_ok-name.ensures.lookup in
    rw (c.named.ensures, ← c.read.ensures, of_ok _ _ (sym c.ok.ensures.value ∙ c.in_ok-read.was), ← c.names_said-names.ensures) (found _ _ _ c.args.place (omega arith) _ l.3.0 l.1)
