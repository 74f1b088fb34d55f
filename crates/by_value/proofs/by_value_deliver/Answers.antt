-- `by_value_deliver` meets its contract: the struct of the delivery's answer, and the replica that it hands back.
use mathlib.Core.Path.{ap, ◌∙◌}
use Rattle.replica.specs.Deliver.{Done}
use Rattle.batch.specs.Batch.{record_of}
use Rattle.by_value.proofs.by_value_deliver.Goals as goal

pub returns : goal.returns
returns c =
    let e = c.deliver-next.ensures in record {
      answer = c.record_of.ensures ∙ ap (λ (d : Done). record_of d.answer) e;
      replica = ap (λ (d : Done). d.words) e;
    }
