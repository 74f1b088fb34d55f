-- The calls that demand 3 and the statement beside it speak of (paper 01, "The replay"; paper 02, A2 and A11): messages delivered by
-- themselves and in batches, in any mixture. What the replay is given of them, and the run: each call made on what the last one left.
use Rattle.std.specs.Prelude.{ℕ, cond, List, [], ◌∷◌, ◌++◌, length, ltb}
use Rattle.framing.specs.Frames.{messages_in}
use Rattle.replica.specs.Deliver.{Answer, deliver_of}
use Rattle.batch.specs.Batch.{batch_words, batch_answers}

-- a message is delivered; or a batch, into so many records
pub data Call : Type 0 where
  deliver : (message : List ℕ) → Call
  batch : (bytes : List ℕ) (room : ℕ) → Call

-- ---- for the replay

-- a batch is its messages in turn; one that is refused whole, since it has more of them than records, is none
abbrev pub messages_of : Call → List (List ℕ)
messages_of (deliver m) = m ∷ []
messages_of (batch s room) = cond (ltb room (length (messages_in s))) [] (messages_in s)

-- all of them in turn
unfoldable pub in_turn : List Call → List (List ℕ)
in_turn [] = []
in_turn (c ∷ cs) = messages_of c ++ in_turn cs

-- ---- the run

abbrev pub words_after : List ℕ → Call → List ℕ
words_after l (deliver m) = (deliver_of l m).words
words_after l (batch s room) = batch_words l s room

abbrev pub answers_to : List ℕ → Call → List Answer
answers_to l (deliver m) = (deliver_of l m).answer ∷ []
answers_to l (batch s room) = batch_answers l s room

-- the words after the last call
unfoldable pub replica_left : List ℕ → List Call → List ℕ
replica_left l [] = l
replica_left l (c ∷ cs) = replica_left (words_after l c) cs

-- the answers in order
unfoldable pub all_answers : List ℕ → List Call → List Answer
all_answers l [] = []
all_answers l (c ∷ cs) = answers_to l c ++ all_answers (words_after l c) cs
