-- Deliveries and batches, in any mixture, are their messages delivered in turn: from a valid replica, which stays valid.
use mathlib.Core.Path.{◌≡◌, refl, sym, ap, ◌∙◌}
use Prim.Native.Nat.{ℕ}
use mathlib.Core.Bool.{Bool, true, false, cond}
use mathlib.Core.List.{List, [], ◌∷◌, ◌++◌}
use lib.ListN.{length}
use lib.Dec.{ltb}
use Rattle.framing.specs.Frames.{messages_in}
use Rattle.replica.specs.Valid.{valid_of}
use Rattle.replica.specs.Deliver.{Answer}
use Rattle.replay.specs.Run.{replica_after, answers_given}
use Rattle.replay.proofs.InTurnLaws.{after_append, answers_append, after_valid}
use Rattle.batch.specs.Batch.{batch_no, delivered_in, batch_words, batch_answers}
use Rattle.demand.specs.Calls.{Call, deliver, batch, messages_of, in_turn, words_after, answers_to, replica_left, all_answers}

-- ---- one call

-- a batch to a valid replica is refused for its records alone
delivered_is : (l s : List ℕ) (room : ℕ) → valid_of l ≡ true → delivered_in l s room ≡ messages_of (batch s room)
unfolding delivered_in batch_no
delivered_is l s room h = go (ltb room (length (messages_in s))) refl
  where
    go : (b : Bool) → ltb room (length (messages_in s)) ≡ b → delivered_in l s room ≡ cond b [] (messages_in s)
    go true e = rw (h, e)
    go false e = rw (h, e)

words_is : (l : List ℕ) (c : Call) → valid_of l ≡ true → words_after l c ≡ replica_after l (messages_of c)
unfolding replica_after batch_words
words_is l (deliver m) h = refl
words_is l (batch s room) h = ap (replica_after l) (delivered_is l s room h)

answers_is : (l : List ℕ) (c : Call) → valid_of l ≡ true → answers_to l c ≡ answers_given l (messages_of c)
unfolding answers_given batch_answers
answers_is l (deliver m) h = refl
answers_is l (batch s room) h = ap (answers_given l) (delivered_is l s room h)

-- ---- all calls

pub left_is : (l : List ℕ) (cs : List Call) → valid_of l ≡ true → replica_left l cs ≡ replica_after l (in_turn cs)
unfolding replica_left in_turn replica_after
left_is l [] h = refl
left_is l (c ∷ cs) h =
    ap (λ (k : List ℕ). replica_left k cs) (words_is l c h)
    ∙ left_is (replica_after l (messages_of c)) cs (after_valid l (messages_of c) h)
    ∙ sym (after_append l (messages_of c) (in_turn cs))

pub all_is : (l : List ℕ) (cs : List Call) → valid_of l ≡ true → all_answers l cs ≡ answers_given l (in_turn cs)
unfolding all_answers in_turn answers_given
all_is l [] h = refl
all_is l (c ∷ cs) h =
    ap (λ (x : List Answer). x ++ all_answers (words_after l c) cs) (answers_is l c h)
    ∙ ap (λ (k : List ℕ). answers_given l (messages_of c) ++ all_answers k cs) (words_is l c h)
    ∙ ap (λ (x : List Answer). answers_given l (messages_of c) ++ x) (all_is (replica_after l (messages_of c)) cs (after_valid l (messages_of c) h))
    ∙ sym (answers_append l (messages_of c) (in_turn cs))
