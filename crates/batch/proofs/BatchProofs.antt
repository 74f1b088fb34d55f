-- What holds of every batch: refused whole, record by record, and of messages framed.
use mathlib.Core.Path.{◌≡◌, refl, ap, sym, ◌∙◌}
use Prim.Native.Nat.{ℕ, zero, suc, ◌≤◌, ◌<◌}
use native.Mathlib.Nat.{not-suc-le-zero, le_of_suc-le-suc}
use mathlib.Core.Bool.{true}
use mathlib.Core.List.{List, [], ◌∷◌, ◌++◌, map}
use lib.ListN.{length, take, drop, get_or}
use borrow.Author.Tests.{eq-eqb, ne_eqb, le-ltb}
use Rattle.lists.specs.Lists.{All}
use Rattle.framing.specs.Frames.{messages_in, HasLength}
use Rattle.framing.proofs.FramedProofs.{frames_back}
use Rattle.replica.specs.Valid.{valid_of}
use Rattle.replica.specs.Deliver.{deliver_of}
use Rattle.replay.specs.Run.{replica_after, answers_given}
use Rattle.replay.proofs.InTurnLaws.{after_valid}
use Rattle.batch.specs.declared.AnswerRecord.{AnswerRecord}
use Rattle.batch.specs.Batch.{record_of, batch_no, delivered_in, batch_answer, batch_answers, batch_words, batch_records}
use Rattle.batch.specs.Batches.{Untouched, Answered, AtOnce, Batches}
use Rattle.batch.proofs.RecordProofs.{refused_delivery, record_tells}
use Rattle.batch.proofs.LoopLaws.{start, length_written, plan_fits, written_is}

-- ---- refused whole

refused_stays : (l s : List ℕ) (rs : List AnswerRecord) → ¬ (batch_no l s (length rs) ≡ 0) → Untouched l s rs
unfolding batch_words batch_answers batch_records batch_answer delivered_in replica_after answers_given
refused_stays l s rs h =
    let e = ne_eqb (batch_no l s (length rs)) 0 h in
    record { none_delivered = rw e; words_stay = rw e; records_stay = rw e }

-- ---- record by record

nth_answer : (l : List ℕ) (ms : List (List ℕ)) (rest : List AnswerRecord) (k : ℕ) (d : AnswerRecord) → k < length ms
    → get_or (map record_of (answers_given l ms) ++ rest) k d ≡ record_of (deliver_of (replica_after l (take k ms)) (get_or ms k [])).answer
unfolding replica_after answers_given
nth_answer l [] rest k d h = absurd (not-suc-le-zero h)
nth_answer l (m ∷ ms) rest zero d h = refl
nth_answer l (m ∷ ms) rest (suc k) d h = nth_answer (deliver_of l m).words ms rest k d (le_of_suc-le-suc h)

past_answers : (l : List ℕ) (ms : List (List ℕ)) (rs : List AnswerRecord) (k : ℕ) (d : AnswerRecord) → length ms ≤ length rs → length ms ≤ k
    → get_or (map record_of (answers_given l ms) ++ drop (length ms) rs) k d ≡ get_or rs k d
unfolding answers_given
past_answers l [] rs k d g h = refl
past_answers l (m ∷ ms) [] k d g h = absurd (not-suc-le-zero g)
past_answers l (m ∷ ms) (r ∷ rs) zero d g h = absurd (not-suc-le-zero h)
past_answers l (m ∷ ms) (r ∷ rs) (suc k) d g h = past_answers (deliver_of l m).words ms rs k d (le_of_suc-le-suc g) (le_of_suc-le-suc h)

module _ (l s : List ℕ) (rs : List AnswerRecord) (e : batch_no l s (length rs) ≡ 0) where
  delivered : delivered_in l s (length rs) ≡ messages_in s
  unfolding delivered_in
  delivered = rw (eq-eqb (batch_no l s (length rs)) 0 e)

  records : batch_records l s rs ≡ map record_of (answers_given l (messages_in s)) ++ drop (length (messages_in s)) rs
  unfolding batch_records batch_answers batch_answer
  records = rw delivered

  fits : length (messages_in s) ≤ length rs
  unfolding batch_answer
  fits = rw (← delivered) (plan_fits l s (length rs))

  answered : Answered l s rs
  answered = record {
    each_record = λ k d h. rw records (nth_answer l (messages_in s) (drop (length (messages_in s)) rs) k d h);
    past_the_last = λ k d h. rw records (past_answers l (messages_in s) rs k d fits h);
  }

as_many : (l s : List ℕ) (rs : List AnswerRecord) → length (batch_records l s rs) ≡ length rs
as_many l s rs = ap length (sym (written_is l s rs)) ∙ length_written (batch_answer l s (length rs)).count s (start l) rs

-- ---- validity, and messages framed

stays_valid : (l s : List ℕ) (room : ℕ) → valid_of l ≡ true → valid_of (batch_words l s room) ≡ true
unfolding batch_words
stays_valid l s room h = after_valid l (delivered_in l s room) h

at_once : (l : List ℕ) (ms : List (List ℕ)) (rs : List AnswerRecord) → valid_of l ≡ true → All HasLength ms → length ms ≤ length rs → AtOnce l ms rs
unfolding batch_no delivered_in batch_answer batch_answers batch_words batch_records
at_once l ms rs v h fit =
    let b = frames_back ms h in
    let f = le-ltb (length rs) (length ms) fit in
    record {
      answer_is = rw (v, b.messages_are, b.not_cut, f);
      words_are = rw (v, b.messages_are, f);
      records_are = rw (v, b.messages_are, f);
    }

pub batches : Batches
batches = record {
  refused_delivery = refused_delivery;
  record_tells = record_tells;
  refused_stays = refused_stays;
  answered = answered;
  as_many = as_many;
  stays_valid = stays_valid;
  at_once = at_once;
}
