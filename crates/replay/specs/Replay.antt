-- The replay (paper 01, "The replay"), which demand 3 holds replicas to. It works on a starting name table and the bytes of the
-- messages, one after another. It knows the name table's rules and what reading makes of a message, and nothing of a replica: neither its
-- deliveries nor its pending operations nor its answers.
use Rattle.std.specs.Prelude.{ℕ, suc, ◌+◌, ◌-◌, cond, List, [], ◌∷◌, eqb, leb, ltb}
use Rattle.std.proofs.Math.Option.{Option, none, some}
use Rattle.lists.specs.Lists.{passing}
use Rattle.table_rules.specs.Operations.{Operation}
use Rattle.table_rules.specs.Operations.{same_operation, find, insert}
use Rattle.table_rules.specs.NameTable.{NameTable, apply_all, noops_in}
use Rattle.operations.specs.Received.{operation_in}

-- what is answered to a message: refused with its number, pending (the paper's waits), or applied with the versions passed and the
-- no-ops (the paper's void ones) among the operations newly reached
pub data ReplayAnswer : Type 0 where
  refused : (number : ℕ) → ReplayAnswer
  pending : ReplayAnswer
  applied : (passed noops : ℕ) → ReplayAnswer

-- ---- the accepted operations: all that the replay keeps. They are a list rising by version

-- the watermark (the paper's reach): the last version of the unbroken run of accepted ones that begins right above version c
unfoldable pub watermark : ℕ → List Operation → ℕ
watermark c [] = c
watermark c (o ∷ os) = cond (eqb o.version (suc c)) (watermark (suc c) os) c

-- the operations up to a version, and those above it
unfoldable pub up_to : ℕ → List Operation → List Operation
up_to n os = passing (λ o. leb o.version n) os

unfoldable pub above : ℕ → List Operation → List Operation
above n os = passing (λ o. ltb n o.version) os

-- the starting name table with the accepted operations up to the watermark applied in rising order, no-ops included
unfoldable pub table_at : NameTable → List Operation → NameTable
table_at t accepted = apply_all t (up_to (watermark t.version accepted) accepted)

-- ---- why a message is not accepted

-- 16 and 17: the version is accepted already, with the same kept fields (the paper's kept values) or others
unfoldable pub repeated_no : Operation → Option Operation → ℕ
repeated_no op none = 0
repeated_no op (some earlier) = cond (same_operation op earlier) 16 17

-- 14: the version is not above the watermark. 15: it is above watermark + 32. 0: nothing refuses the operation
unfoldable pub version_no : ℕ → List Operation → Operation → ℕ
version_no mark accepted op =
    cond (leb op.version mark) 14
    (cond (ltb (mark + 32) op.version) 15
    (repeated_no op (find op.version accepted)))

-- 1 to 10 and 13 come first: reading refuses the message, or it is no operation
unfoldable pub message_no : NameTable → List Operation → List ℕ → ℕ
message_no t accepted m =
    cond (eqb (operation_in m).number 0)
    (version_no (watermark t.version accepted) accepted (operation_in m).operation)
    (operation_in m).number

-- ---- one message

-- a message without a number is accepted: its operation joins the list, with its kept fields alone
unfoldable pub accepted_after : NameTable → List Operation → List ℕ → List Operation
accepted_after t accepted m = cond (eqb (message_no t accepted m) 0) (insert (operation_in m).operation accepted) accepted

-- where the watermark rises from `mark` to `risen`: applied, with the rise and the no-ops among the operations newly reached. Else pending
unfoldable pub rise_answer : NameTable → ℕ → ℕ → List Operation → ReplayAnswer
rise_answer before mark risen accepted =
    cond (ltb mark risen) (applied (risen - mark) (noops_in before (above mark (up_to risen accepted)))) pending

unfoldable pub answer_to : NameTable → List Operation → List ℕ → ReplayAnswer
answer_to t accepted m =
    let next = accepted_after t accepted m in
    cond (eqb (message_no t accepted m) 0)
    (rise_answer (table_at t accepted) (watermark t.version accepted) (watermark t.version next) next)
    (refused (message_no t accepted m))

-- ---- the whole list of messages, from what was accepted before it

unfoldable pub accepted_from : NameTable → List Operation → List (List ℕ) → List Operation
accepted_from t accepted [] = accepted
accepted_from t accepted (m ∷ ms) = accepted_from t (accepted_after t accepted m) ms

unfoldable pub answers_from : NameTable → List Operation → List (List ℕ) → List ReplayAnswer
answers_from t accepted [] = []
answers_from t accepted (m ∷ ms) = answer_to t accepted m ∷ answers_from t (accepted_after t accepted m) ms

-- ---- the replay: at first nothing is accepted

unfoldable pub accepted_of : NameTable → List (List ℕ) → List Operation
accepted_of t ms = accepted_from t [] ms

unfoldable pub answers_of : NameTable → List (List ℕ) → List ReplayAnswer
answers_of t ms = answers_from t [] ms

unfoldable pub watermark_of : NameTable → List (List ℕ) → ℕ
watermark_of t ms = watermark t.version (accepted_of t ms)

unfoldable pub table_after : NameTable → List (List ℕ) → NameTable
table_after t ms = table_at t (accepted_of t ms)

-- the accepted operations that are not reached
unfoldable pub unreached_of : NameTable → List (List ℕ) → List Operation
unreached_of t ms = above (watermark_of t ms) (accepted_of t ms)
