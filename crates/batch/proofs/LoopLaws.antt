-- What the loop of `batch_in` makes, turn by turn, and that it is what the contract says. Plain antt: no program logic.
--     Stand                where the loop stands: the next message's place, the last answer, the words
--     turns k s t          the same after k messages.        written k s t rs     the records after k stores
--     plan_fits, ready     what `batch_in` needs at each turn: the place is within, and what `next` requires
--     length_words         the words stay as many
--     written_is, words_is what it needs at the end: the contract's equations
use mathlib.Core.Path.{◌≡◌, refl, sym, ◌∙◌, ap}
use Prim.Native.Nat.{ℕ, zero, suc, ◌≤◌, ◌<◌}
use mathlib.Core.Bool.{Bool, true, false}
use mathlib.Core.List.{List, [], ◌∷◌, ◌++◌, append_assoc, map}
use native.Mathlib.Omega.{arith}
use native.Mathlib.Nat.{not-suc-le-zero}
use lib.ListN.{length, get_or, set, drop, length-set}
use lib.Seq.{drop-cons, set_at}
use Rattle.framing.specs.Frames.{messages_in}
use Rattle.framing.proofs.FrameLaws.{messages_cons, next_after}
use Rattle.replica.specs.Valid.{valid_of}
use Rattle.replica.specs.Deliver.{deliver_of, refusal}
use Rattle.replica.proofs.ValidLaws.{valid_parts}
use Rattle.replay.specs.Run.{replica_after, answers_given}
use Rattle.replay.proofs.StatementProof.{stays_valid}
use Rattle.batch.specs.declared.AnswerRecord.{AnswerRecord}
use Rattle.batch.specs.Batch.{record_of, delivered_in, batch_answer, batch_words, batch_answers, batch_records}
use Rattle.batch.specs.Inner.{message_at, turn_of}
use Rattle.batch.proofs.PlanLaws.{Planned, none, all, planned}

pub record Stand : Type 0 where
  pub at : ℕ
  pub answer : AnswerRecord
  pub words : List ℕ

abbrev pub start : List ℕ → Stand
start l = record { at = 0; answer = record { number = 0; passed = 0; noops = 0 }; words = l }

abbrev pub turned : List ℕ → Stand → Stand
turned s t = record {
  at = (turn_of t.words s t.at).at;
  answer = (turn_of t.words s t.at).answer;
  words = (deliver_of t.words (message_at s t.at)).words;
}

abbrev pub turns : ℕ → List ℕ → Stand → Stand
turns zero s t = t
turns (suc k) s t = turned s (turns k s t)

abbrev pub written : ℕ → List ℕ → Stand → List AnswerRecord → List AnswerRecord
written zero s t rs = rs
written (suc k) s t rs = set (written k s t rs) k (turns (suc k) s t).answer

-- the first k answers
abbrev told : ℕ → List ℕ → Stand → List AnswerRecord
told zero s t = []
told (suc k) s t = (turned s t).answer ∷ told k s (turned s t)

-- ---- records and words stay as many

pub length_written : (k : ℕ) (s : List ℕ) (t : Stand) (rs : List AnswerRecord) → length (written k s t rs) ≡ length rs
length_written zero s t rs = refl
length_written (suc k) s t rs = length-set (written k s t rs) k (turns (suc k) s t).answer ∙ length_written k s t rs

length_delivered : (l m : List ℕ) → length (deliver_of l m).words ≡ length l
unfolding deliver_of refusal
length_delivered l m = go (valid_of l) refl
  where
    go : (b : Bool) → valid_of l ≡ b → length (deliver_of l m).words ≡ length l
    go true e = (valid_parts (deliver_of l m).words (stays_valid l m e)).long ∙ sym (valid_parts l e).long
    go false e = rw e

pub length_words : (k : ℕ) (s : List ℕ) (t : Stand) → length (turns k s t).words ≡ length t.words
length_words zero s t = refl
length_words (suc k) s t = length_delivered (turns k s t).words (message_at s (turns k s t).at) ∙ length_words k s t

-- ---- k stores: the answers, and the rest as it was

turns_front : (k : ℕ) (s : List ℕ) (t : Stand) → turns (suc k) s t ≡ turns k s (turned s t)
turns_front zero s t = refl
turns_front (suc k) s t = ap (turned s) (turns_front k s t)

told_snoc : (k : ℕ) (s : List ℕ) (t : Stand) → told (suc k) s t ≡ told k s t ++ ((turns (suc k) s t).answer ∷ [])
told_snoc zero s t = refl
told_snoc (suc k) s t =
    ap (λ (l : List AnswerRecord). (turned s t).answer ∷ l)
    (told_snoc k s (turned s t) ∙ ap (λ (u : Stand). told k s (turned s t) ++ ((turned s u).answer ∷ [])) (sym (turns_front k s t)))

length_told : (k : ℕ) (s : List ℕ) (t : Stand) → length (told k s t) ≡ k
length_told zero s t = refl
length_told (suc k) s t = ap suc (length_told k s (turned s t))

written_told : (k : ℕ) (s : List ℕ) (t : Stand) (rs : List AnswerRecord) → k ≤ length rs → written k s t rs ≡ told k s t ++ drop k rs
written_told zero s t rs h = refl
written_told (suc k) s t rs h =
    let a = (turns (suc k) s t).answer in
    let d = (turns k s t).answer in
    rw (written_told k s t rs (omega arith), drop-cons rs k d (omega arith), set_at (told k s t) (get_or rs k d) (drop (suc k) rs) a k (length_told k s t))
    (sym (append_assoc (told k s t) (a ∷ []) (drop (suc k) rs)) ∙ ap (λ (l : List AnswerRecord). l ++ drop (suc k) rs) (sym (told_snoc k s t)))

-- ---- the turns are the deliveries of the messages from the place on

-- where the list has a message, a turn delivers it and comes to the rest
turn_next : (s : List ℕ) (t : Stand) (m : List ℕ) (ms : List (List ℕ)) → messages_in (drop t.at s) ≡ m ∷ ms
    → (message_at s t.at ≡ m) × (messages_in (drop (turned s t).at s) ≡ ms)
unfolding turn_of
turn_next s t m ms e =
    let c = messages_cons (drop t.at s) m ms e in
    (c.1, ap messages_in (next_after s t.at c.0) ∙ c.2)

told_answers : (s : List ℕ) (ms : List (List ℕ)) (t : Stand) → messages_in (drop t.at s) ≡ ms
    → told (length ms) s t ≡ map record_of (answers_given t.words ms)
unfolding answers_given turn_of
told_answers s [] t e = refl
told_answers s (m ∷ ms) t e =
    let n = turn_next s t m ms e in
    let i = told_answers s ms (turned s t) n.1 in
    rw (i, n.0)

turns_after : (s : List ℕ) (ms : List (List ℕ)) (t : Stand) → messages_in (drop t.at s) ≡ ms
    → (turns (length ms) s t).words ≡ replica_after t.words ms
unfolding replica_after
turns_after s [] t e = refl
turns_after s (m ∷ ms) t e =
    let n = turn_next s t m ms e in
    ap (λ (u : Stand). u.words) (turns_front (length ms) s t) ∙ turns_after s ms (turned s t) n.1
    ∙ ap (λ (x : List ℕ). replica_after (deliver_of t.words x).words ms) n.0

turns_valid : (i : ℕ) (s : List ℕ) (t : Stand) → valid_of t.words ≡ true → valid_of (turns i s t).words ≡ true
turns_valid zero s t h = h
turns_valid (suc i) s t h = stays_valid (turns i s t).words (message_at s (turns i s t).at) (turns_valid i s t h)

-- ---- what `batch_in` needs

module _ (l s : List ℕ) (room : ℕ) where
  pub plan_fits : (batch_answer l s room).count ≤ room
  unfolding batch_answer
  plan_fits = go (planned l s room)
    where
      go : Planned l s room → length (delivered_in l s room) ≤ room
      go (none e) = rw e (omega arith)
      go (all e v h) = rw e h

  pub ready : (i : ℕ) → i < (batch_answer l s room).count → valid_of (turns i s (start l)).words ≡ true
  unfolding batch_answer
  ready i h = go (planned l s room)
    where
      go : Planned l s room → valid_of (turns i s (start l)).words ≡ true
      go (none e) = absurd (not-suc-le-zero (rw e at h))
      go (all e v k) = turns_valid i s (start l) v

  pub words_is : (turns (batch_answer l s room).count s (start l)).words ≡ batch_words l s room
  unfolding batch_answer batch_words replica_after
  words_is = go (planned l s room)
    where
      go : Planned l s room → (turns (length (delivered_in l s room)) s (start l)).words ≡ replica_after l (delivered_in l s room)
      go (none e) = rw e
      go (all e v h) = rw e (turns_after s (messages_in s) (start l) refl)

pub written_is : (l s : List ℕ) (rs : List AnswerRecord) → written (batch_answer l s (length rs)).count s (start l) rs ≡ batch_records l s rs
unfolding batch_answer batch_answers batch_records answers_given
written_is l s rs = go (planned l s (length rs))
  where
    go : Planned l s (length rs) → written (length (delivered_in l s (length rs))) s (start l) rs
        ≡ map record_of (answers_given l (delivered_in l s (length rs))) ++ drop (length (delivered_in l s (length rs))) rs
    go (none e) = rw e
    go (all e v h) = rw (e, written_told (length (messages_in s)) s (start l) rs h, told_answers s (messages_in s) (start l) refl)

-- what the loop of `batch_in` asks for
pub ruleset loop_turns = (plan_fits, ready, length_written)
