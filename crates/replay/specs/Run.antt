-- The run of demand 3 (paper 01, "The replay"): a replica at its start, and each message delivered to what the last delivery left.
use Rattle.std.specs.Prelude.{◌≡◌, ℕ, true, List, [], ◌∷◌, Ok, Err}
use Rattle.refusal.specs.Numbers.{number}
use Rattle.replica.specs.declared.Delivery.TheVariants.{Pending, Applied}
use Rattle.replica.specs.Valid.{valid_of}
use Rattle.replica.specs.Deliver.{Answer, deliver_of}
use Rattle.replay.specs.Replay.{ReplayAnswer, refused, pending, applied}

-- the words after the last message
unfoldable pub replica_after : List ℕ → List (List ℕ) → List ℕ
replica_after l [] = l
replica_after l (m ∷ ms) = replica_after (deliver_of l m).words ms

-- the answers in order
unfoldable pub answers_given : List ℕ → List (List ℕ) → List Answer
answers_given l [] = []
answers_given l (m ∷ ms) = (deliver_of l m).answer ∷ answers_given (deliver_of l m).words ms

-- a delivery's answer in the replay's words
abbrev pub as_replayed : Answer → ReplayAnswer
as_replayed (Err why) = refused (number why)
as_replayed (Ok Pending) = pending
as_replayed (Ok (Applied passed noops)) = applied passed noops

-- the statement: a delivery keeps any valid replica valid, so 28 never comes after a valid one
abbrev pub StaysValid : Type 0
StaysValid = (l m : List ℕ) → valid_of l ≡ true → valid_of (deliver_of l m).words ≡ true
