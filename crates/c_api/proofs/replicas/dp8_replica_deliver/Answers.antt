-- `dp8_replica_deliver` meets its contract: the struct of the delivery's answer, and the words that it leaves.
use mathlib.Core.Path.{ap, ◌∙◌}
use Rattle.replica.specs.Deliver.{Done}
use Rattle.batch.specs.Batch.{record_of}
use Rattle.c_api.proofs.replicas.dp8_replica_deliver.Goals as goal

pub returns : goal.returns
returns c =
    let e = c.deliver_in.ensures in record {
      answer = c.record_of.ensures ∙ ap (λ (d : Done). record_of d.answer) e;
      replica = ap (λ (d : Done). d.words) e;
    }
