-- The operations that calls apply, one after another, each with the name table that it is applied to (paper 01, "The station"; paper 02,
-- A2): the delivered one, and behind it each that is drained.
use Rattle.std.specs.Prelude.{ℕ, suc, cond, List, [], ◌∷◌, ◌++◌, eqb}
use Rattle.table_rules.specs.Operations.{Operation}
use Rattle.table_rules.specs.NameTable.{NameTable, apply}
use Rattle.table_words.specs.Words.{table_of}
use Rattle.operations.specs.Received.{operation_in}
use Rattle.replica.specs.Replica.{view}
use Rattle.replica.specs.Deliver.{deliver_of}
use Rattle.batch.specs.Batch.{delivered_in}
use Rattle.demand.specs.Calls.{Call, deliver, batch, words_after}
use Rattle.add_rule.specs.ByRule.{refused_no}

pub record Step : Type 0 where
  pub table : NameTable
  pub operation : Operation

-- as long as the next version is there
unfoldable pub steps_from : NameTable → List Operation → List Step
steps_from t [] = []
steps_from t (o ∷ os) = cond (eqb o.version (suc t.version)) (record { table = t; operation = o } ∷ steps_from (apply t o) os) []

-- of a message delivered to these words: none where it is refused, or pending
unfoldable pub steps_of : List ℕ → List ℕ → List Step
steps_of l m = cond (eqb (refused_no l m) 0) (steps_from (table_of l) ((operation_in m).operation ∷ (view l).pending)) []

-- of messages delivered in turn
unfoldable pub steps_in : List ℕ → List (List ℕ) → List Step
steps_in l [] = []
steps_in l (m ∷ ms) = steps_of l m ++ steps_in (deliver_of l m).words ms

-- of a call: a message delivered by itself, or a batch
abbrev pub steps_to : List ℕ → Call → List Step
steps_to l (deliver m) = steps_of l m
steps_to l (batch s room) = steps_in l (delivered_in l s room)

-- of calls in any mixture, each made on what the last one left
unfoldable pub all_steps : List ℕ → List Call → List Step
all_steps l [] = []
all_steps l (c ∷ cs) = steps_to l c ++ all_steps (words_after l c) cs
