-- `deliver_in` meets its contract: validity, then the delivery to a valid replica.
use mathlib.Core.Path.{sym, ◌∙◌}
use Rattle.replica.specs.Deliver.{refusal, deliver_of}
use borrow.Author.Rules.{rules}
use Rattle.replica.proofs.deliver_in.Goals as goal

pub returns-then-not-is_valid : goal.returns-then-not-is_valid
unfolding deliver_of refusal
returns-then-not-is_valid c = rw (← c.is_valid.ensures, c.if-not-is_valid.true)

pub deliver_valid-requires : goal.deliver_valid-requires
deliver_valid-requires c = sym c.is_valid.ensures ∙ c.if-not-is_valid.false

pub returns : goal.returns
unfolding deliver_of refusal
returns c = search rules
