-- Applying, delivery and the replay by any rule that says which operation is a no-op (paper 01, "The station" and "The replay"). Each says
-- what its definition in `table_rules`, `replica` or `replay` says, with the rule for a parameter: that by the rule in force delivery and
-- replay are those is stated (`SameAs is_noop`), so that they can differ from them in nothing but the rule.
use Rattle.std.specs.Prelude.{ℕ, suc, ◌+◌, ◌-◌, Bool, cond, List, [], ◌∷◌, Ok, eqb, ltb}
use Rattle.lists.specs.Lists.{bit}
use Rattle.table_rules.specs.Operations.{Operation, insert}
use Rattle.table_rules.specs.NameTable.{NameTable, at_version, change}
use Rattle.operations.specs.Received.{operation_in}
use Rattle.replica.specs.declared.Delivery.TheVariants.{Pending, Applied}
use Rattle.replica.specs.Replica.{Model, view}
use Rattle.replica.specs.Valid.{valid_of}
use Rattle.replica.specs.Deliver.{Done, Drained, Outcome, operation_no, refusal, pack_outcome}
use Rattle.replay.specs.Replay.{ReplayAnswer, refused, pending, applied, watermark, up_to, above, message_no, accepted_after}

abbrev pub Rule : Type 0
Rule = NameTable → Operation → Bool

-- ---- applying

unfoldable pub apply_by : Rule → NameTable → Operation → NameTable
apply_by r t op = cond (r t op) (at_version op.version t) (change t op.version op.act)

unfoldable pub apply_all_by : Rule → NameTable → List Operation → NameTable
apply_all_by r t [] = t
apply_all_by r t (o ∷ os) = apply_all_by r (apply_by r t o) os

unfoldable pub noops_by : Rule → NameTable → List Operation → ℕ
noops_by r t [] = 0
noops_by r t (o ∷ os) = bit (r t o) + noops_by r (apply_by r t o) os

-- ---- delivery

unfoldable pub drain_by : Rule → NameTable → List Operation → Drained
drain_by r t [] = record { table = t; pending = []; passed = 0; noops = 0 }
drain_by r t (o ∷ os) =
    let d = drain_by r (apply_by r t o) os in
    cond (eqb o.version (suc t.version))
    (record { table = d.table; pending = d.pending; passed = suc d.passed; noops = bit (r t o) + d.noops })
    (record { table = t; pending = o ∷ os; passed = 0; noops = 0 })

unfoldable pub enter_by : Rule → Model → Operation → Outcome
enter_by r m op =
    let d = drain_by r m.table (op ∷ m.pending) in
    cond (eqb op.version (suc m.table.version))
    (record { answer = Ok (Applied d.passed d.noops); model = record { table = d.table; pending = d.pending } })
    (record { answer = Ok Pending; model = record { table = m.table; pending = insert op m.pending } })

-- the number that refuses a message, 28 aside: 1 to 10 and 13 of what is read, then 14 to 17
unfoldable pub refused_no : List ℕ → List ℕ → ℕ
refused_no l m = cond (eqb (operation_in m).number 0) (operation_no (view l) (operation_in m).operation) (operation_in m).number

unfoldable pub deliver_by : Rule → List ℕ → List ℕ → Done
deliver_by r l m =
    cond (valid_of l)
    (cond (eqb (refused_no l m) 0) (pack_outcome (enter_by r (view l) (operation_in m).operation)) (refusal (refused_no l m) l))
    (refusal 28 l)

-- ---- the replay: which messages are accepted depends on no rule

unfoldable pub table_at_by : Rule → NameTable → List Operation → NameTable
table_at_by r t accepted = apply_all_by r t (up_to (watermark t.version accepted) accepted)

unfoldable pub answer_by : Rule → NameTable → List Operation → List ℕ → ReplayAnswer
answer_by r t accepted m =
    let next = accepted_after t accepted m in
    let mark = watermark t.version accepted in
    let risen = watermark t.version next in
    cond (eqb (message_no t accepted m) 0)
    (cond (ltb mark risen) (applied (risen - mark) (noops_by r (table_at_by r t accepted) (above mark (up_to risen next)))) pending)
    (refused (message_no t accepted m))

-- the answers in order, from what was accepted before
unfoldable pub answers_by : Rule → NameTable → List Operation → List (List ℕ) → List ReplayAnswer
answers_by r t accepted [] = []
answers_by r t accepted (m ∷ ms) = answer_by r t accepted m ∷ answers_by r t (accepted_after t accepted m) ms
