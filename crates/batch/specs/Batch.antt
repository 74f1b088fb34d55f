-- A batch (paper 02, A2): framed messages delivered in turn, and the answer to each in its own record. Messages are framed as those of
-- the listing.
use Rattle.std.specs.Prelude.{ℕ, false, cond, not, List, [], ◌∷◌, ◌++◌, Result, Ok, Err, map, length, drop, eqb, ltb}
use Rattle.refusal.specs.Checks.{when, first_of}
use Rattle.refusal.specs.Numbers.{number}
use Rattle.framing.specs.Frames.{messages_in, is_cut}
use Rattle.replica.specs.declared.Delivery.{Delivery}
use Rattle.replica.specs.declared.Delivery.TheVariants.{Pending, Applied}
use Rattle.replica.specs.Valid.{valid_of}
use Rattle.replica.specs.Deliver.{Answer}
use Rattle.replay.specs.Run.{replica_after, answers_given}
use Rattle.batch.specs.declared.AnswerRecord.{AnswerRecord}
use Rattle.batch.specs.declared.BatchAnswer.{BatchAnswer}

-- an answer as a record, whatever it is refused with, by the number of that (paper 02, A2): the number, how many versions passed and how
-- many were no-ops; pending is 0 versions passed
abbrev pub record_by : {E : Type 0} → (E → ℕ) → Result Delivery E → AnswerRecord
record_by by (Err why) = record { number = by why; passed = 0; noops = 0 }
record_by by (Ok Pending) = record { number = 0; passed = 0; noops = 0 }
record_by by (Ok (Applied p n)) = record { number = 0; passed = p; noops = n }

-- the record of what a delivery answers: the number is the refusal's
abbrev pub record_of : Answer → AnswerRecord
record_of = record_by number

-- ---- of words, the bytes of a batch, and how many records there are

-- why it is refused whole. 28: the replica is not valid. 29: there are more whole messages than records
unfoldable pub batch_no : List ℕ → List ℕ → ℕ → ℕ
batch_no l s room =
    first_of (
    when (not (valid_of l)) 28
    ∷ when (ltb room (length (messages_in s))) 29
    ∷ []
    )

-- the messages that are delivered: all whole ones; none where it is refused whole
unfoldable pub delivered_in : List ℕ → List ℕ → ℕ → List (List ℕ)
delivered_in l s room = cond (eqb (batch_no l s room) 0) (messages_in s) []

-- the number, how many were delivered, and whether bytes are left behind the last; no tail is told where it is refused whole
unfoldable pub batch_answer : List ℕ → List ℕ → ℕ → BatchAnswer
batch_answer l s room = record {
  number = batch_no l s room;
  count = length (delivered_in l s room);
  cut = cond (eqb (batch_no l s room) 0) (is_cut s) false;
}

-- the words after the last of them, each delivered to what the one before it left
unfoldable pub batch_words : List ℕ → List ℕ → ℕ → List ℕ
batch_words l s room = replica_after l (delivered_in l s room)

-- the answer to each
unfoldable pub batch_answers : List ℕ → List ℕ → ℕ → List Answer
batch_answers l s room = answers_given l (delivered_in l s room)

-- each in its own record, and the records past the last as they were
unfoldable pub batch_records : List ℕ → List ℕ → List AnswerRecord → List AnswerRecord
batch_records l s rs = map record_of (batch_answers l s (length rs)) ++ drop (batch_answer l s (length rs)).count rs
