-- What holds of every record and every batch (paper 02, A2; paper 01, "The station": a refused delivery changes nothing). Statements only.
use Rattle.std.specs.Prelude.{◌≡◌, ℕ, ◌≤◌, ◌<◌, true, false, List, [], ◌++◌, map, length, take, drop, get_or}
use Rattle.lists.specs.Lists.{All, flat_map}
use Rattle.framing.specs.Frames.{framed_message, messages_in, HasLength}
use Rattle.replica.specs.Valid.{valid_of}
use Rattle.replica.specs.Deliver.{deliver_of}
use Rattle.replay.specs.Run.{replica_after, answers_given}
use Rattle.batch.specs.declared.AnswerRecord.{AnswerRecord}
use Rattle.batch.specs.Batch.{record_of, batch_no, batch_answer, batch_words, batch_records}

-- nothing is touched
pub record Untouched (l s : List ℕ) (rs : List AnswerRecord) : Type 0 where
  pub none_delivered : (batch_answer l s (length rs)).count ≡ 0
  pub words_stay : batch_words l s (length rs) ≡ l
  pub records_stay : batch_records l s rs ≡ rs

-- one that is not refused, record by record
pub record Answered (l s : List ℕ) (rs : List AnswerRecord) : Type 0 where
  -- record k has the answer to message k, delivered to what those before it left
  pub each_record : (k : ℕ) (d : AnswerRecord) → k < length (messages_in s)
      → get_or (batch_records l s rs) k d ≡ record_of (deliver_of (replica_after l (take k (messages_in s))) (get_or (messages_in s) k [])).answer
  -- a record past the last message is as it was
  pub past_the_last : (k : ℕ) (d : AnswerRecord) → length (messages_in s) ≤ k → get_or (batch_records l s rs) k d ≡ get_or rs k d

-- the messages of a list, each after its length, as one batch: all are delivered, no tail is left, and words and records are theirs
pub record AtOnce (l : List ℕ) (ms : List (List ℕ)) (rs : List AnswerRecord) : Type 0 where
  pub answer_is : batch_answer l (flat_map framed_message ms) (length rs) ≡ record { number = 0; count = length ms; cut = false }
  pub words_are : batch_words l (flat_map framed_message ms) (length rs) ≡ replica_after l ms
  pub records_are : batch_records l (flat_map framed_message ms) rs ≡ map record_of (answers_given l ms) ++ drop (length ms) rs

pub record Batches : Type 0 where
  -- a delivery whose record has a number leaves every word of the replica as it was, whatever the words and the message
  pub refused_delivery : (l m : List ℕ) → ¬ ((record_of (deliver_of l m).answer).number ≡ 0) → (deliver_of l m).words ≡ l
  -- a record tells the answer: no two that deliveries give have the same record
  pub record_tells : (l m k n : List ℕ) → record_of (deliver_of l m).answer ≡ record_of (deliver_of k n).answer
      → (deliver_of l m).answer ≡ (deliver_of k n).answer
  -- refused whole
  pub refused_stays : (l s : List ℕ) (rs : List AnswerRecord) → ¬ (batch_no l s (length rs) ≡ 0) → Untouched l s rs
  pub answered : (l s : List ℕ) (rs : List AnswerRecord) → batch_no l s (length rs) ≡ 0 → Answered l s rs
  -- as many records as before
  pub as_many : (l s : List ℕ) (rs : List AnswerRecord) → length (batch_records l s rs) ≡ length rs
  -- it keeps a valid replica valid
  pub stays_valid : (l s : List ℕ) (room : ℕ) → valid_of l ≡ true → valid_of (batch_words l s room) ≡ true
  -- whatever can be delivered one by one can be delivered at once: framed, with a record for each
  pub at_once : (l : List ℕ) (ms : List (List ℕ)) (rs : List AnswerRecord) → valid_of l ≡ true → All HasLength ms → length ms ≤ length rs
      → AtOnce l ms rs
