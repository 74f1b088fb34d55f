-- Laws of messages delivered one after another: lists of them one behind the other, and validity.
use mathlib.Core.Path.{◌≡◌, refl, ap}
use Prim.Native.Nat.{ℕ}
use mathlib.Core.Bool.{true}
use mathlib.Core.List.{List, [], ◌∷◌, ◌++◌}
use Rattle.replica.specs.Valid.{valid_of}
use Rattle.replica.specs.Deliver.{Answer, deliver_of}
use Rattle.replay.specs.Run.{replica_after, answers_given}
use Rattle.replay.proofs.StatementProof.{stays_valid}

pub after_append : (l : List ℕ) (ms ns : List (List ℕ)) → replica_after l (ms ++ ns) ≡ replica_after (replica_after l ms) ns
unfolding replica_after
after_append l [] ns = refl
after_append l (m ∷ ms) ns = after_append (deliver_of l m).words ms ns

pub answers_append : (l : List ℕ) (ms ns : List (List ℕ)) → answers_given l (ms ++ ns) ≡ answers_given l ms ++ answers_given (replica_after l ms) ns
unfolding replica_after answers_given
answers_append l [] ns = refl
answers_append l (m ∷ ms) ns = ap (λ (x : List Answer). (deliver_of l m).answer ∷ x) (answers_append (deliver_of l m).words ms ns)

pub after_valid : (l : List ℕ) (ms : List (List ℕ)) → valid_of l ≡ true → valid_of (replica_after l ms) ≡ true
unfolding replica_after
after_valid l [] h = h
after_valid l (m ∷ ms) h = after_valid (deliver_of l m).words ms (stays_valid l m h)
