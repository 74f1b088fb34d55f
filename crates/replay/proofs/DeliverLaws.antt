-- Laws of a delivery: to a replica that stands for an accepted list it answers what the replay answers, and the next replica stands for
-- the list after it. Every valid replica stands for its own pending operations, so it stays valid.
use mathlib.Core.Path.{◌≡◌, refl, ap, ◌∙◌}
use Prim.Native.Nat.{ℕ, suc, ◌+◌}
use native.Mathlib.Omega.{arith}
use mathlib.Core.Bool.{Bool, true, false, cond}
use mathlib.Core.List.{List, [], ◌∷◌, map}
use lib.Dec.{eqb}
use borrow.Author.Tests.{eqb-true}
use Rattle.lists.proofs.ListLaws.{rising_wider}
use Rattle.table_rules.specs.Operations.{Operation}
use Rattle.table_rules.specs.Operations.{insert}
use Rattle.operations.specs.Received.{operation_in}
use Rattle.table_rules.specs.NameTable.{NameTable, apply_all}
use Rattle.table_words.specs.Words.{table_of, version_of}
use Rattle.replica.specs.Replica.{view}
use Rattle.replica.specs.Valid.{valid_of}
use Rattle.replica.specs.Deliver.{enter, refusal, pack_outcome, accepted_by, delivered_read, deliver_of}
use Rattle.replay.specs.Replay.{refused, watermark, version_no, message_no, accepted_after, answer_to, accepted_from, answers_from}
use Rattle.replay.specs.Faithful.{Rising}
use Rattle.replay.specs.Run.{replica_after, answers_given, as_replayed}
use Rattle.replay.proofs.OperationLaws.{test_rising, test_within}
use Rattle.replay.proofs.RunLaws.{no_run}
use Rattle.table_rules.proofs.KeepsLaws.{ValidTable}
use Rattle.replay.proofs.StepLaws.{model_of, refusal_same, step_answer, step_model}
use Rattle.replica.proofs.PackLaws.{ValidModel, view_valid, view_pack, pack_valid}
use Rattle.replay.proofs.ListedLaws.{message_listed}
use Rattle.replay.proofs.AcceptedLaws.{Accepted, taken, accept_accepted, model_valid}

-- ---- one delivery

-- the replica is valid and shows the model that the accepted list stands for
pub record Follows (t : NameTable) (acc : List Operation) (s : List ℕ) : Type 0 where
  pub valid : valid_of s ≡ true
  pub shows : view s ≡ model_of t acc

module _ (t : NameTable) (acc : List Operation) (s : List ℕ) (f : Follows t acc s) (m : List ℕ) where
  abbrev op : Operation
  op = (operation_in m).operation

  -- the delivery by the replay's number
  deliver_is : deliver_of s m ≡ cond (eqb (message_no t acc m) 0) (pack_outcome (enter (model_of t acc) op)) (refusal (message_no t acc m) s)
  unfolding deliver_of delivered_read accepted_by message_no
  deliver_is = rw (f.valid, f.shows, refusal_same t acc op) (go (eqb (operation_in m).number 0) refl)
    where
      n : ℕ
      n = version_no (watermark t.version acc) acc op

      k : ℕ
      k = (operation_in m).number

      go : (b : Bool) → eqb k 0 ≡ b → cond b (cond (eqb n 0) (pack_outcome (enter (model_of t acc) op)) (refusal n s)) (refusal k s)
          ≡ cond (eqb (cond b n k) 0) (pack_outcome (enter (model_of t acc) op)) (refusal (cond b n k) s)
      go true e = refl
      go false e = rw e

  -- a refusal hands the replica back
  deliver_refused : eqb (message_no t acc m) 0 ≡ false → deliver_of s m ≡ refusal (message_no t acc m) s
  deliver_refused e = deliver_is ∙ rw e

  deliver_accepted : eqb (message_no t acc m) 0 ≡ true → deliver_of s m ≡ pack_outcome (enter (model_of t acc) op)
  deliver_accepted e = deliver_is ∙ rw e

  module _ (p : ValidTable t) (a : Accepted t acc) where
    pub deliver_answers : as_replayed (deliver_of s m).answer ≡ answer_to t acc m
    unfolding answer_to accepted_after refusal pack_outcome
    deliver_answers = go (eqb (message_no t acc m) 0) refl
      where
        go : (b : Bool) → eqb (message_no t acc m) 0 ≡ b → as_replayed (deliver_of s m).answer ≡ answer_to t acc m
        go true e = rw (e, deliver_accepted e) (step_answer t acc op a.rises (taken t acc m (eqb-true (message_no t acc m) 0 e)).is_fresh)
        go false e = rw (e, deliver_refused e) (ap refused (message_listed t acc m e))

    pub deliver_follows : Follows t (accepted_after t acc m) (deliver_of s m).words
    unfolding accepted_after refusal pack_outcome
    deliver_follows = go (eqb (message_no t acc m) 0) refl (model_valid t (accepted_after t acc m) p (accept_accepted t acc a m))
      where
        go : (b : Bool) → eqb (message_no t acc m) 0 ≡ b → ValidModel (model_of t (accepted_after t acc m)) → Follows t (accepted_after t acc m) (deliver_of s m).words
        go true e v =
            let w : ValidModel (model_of t (insert op acc)) = rw e at v in
            let k = step_model t acc op a.rises (taken t acc m (eqb-true (message_no t acc m) 0 e)).is_fresh in
            rw (e, deliver_accepted e, k) (record { valid = pack_valid (model_of t (insert op acc)) w; shows = view_pack (model_of t (insert op acc)) w })
        go false e v = rw (e, deliver_refused e) f

-- ---- the whole list of messages

pub record Followed (t : NameTable) (acc : List Operation) (s : List ℕ) (ms : List (List ℕ)) : Type 0 where
  pub answers_are : map as_replayed (answers_given s ms) ≡ answers_from t acc ms
  pub follows : Follows t (accepted_from t acc ms) (replica_after s ms)

pub followed : (t : NameTable) (acc : List Operation) (s : List ℕ) (ms : List (List ℕ)) → ValidTable t → Accepted t acc → Follows t acc s → Followed t acc s ms
unfolding answers_given answers_from replica_after accepted_from
followed t acc s [] p a f = record { answers_are = refl; follows = f }
followed t acc s (m ∷ ms) p a f =
    let i = followed t (accepted_after t acc m) (deliver_of s m).words ms p (accept_accepted t acc a m) (deliver_follows t acc s f m p a) in
    record { answers_are = rw (deliver_answers t acc s f m p a, i.answers_are); follows = i.follows }

-- ---- any valid replica

-- it stands for its own pending operations, which are accepted and not reached
module _ (s : List ℕ) (h : valid_of s ≡ true) where
  abbrev table : NameTable
  table = table_of s

  abbrev held : List Operation
  held = (view s).pending

  model : ValidModel (view s)
  model = view_valid s h

  pub own_table : ValidTable table
  unfolding view
  own_table = model.table_valid

  held_rising : Rising (suc (version_of s)) held
  unfolding view table_of
  held_rising =
      let two : version_of s + 2 ≡ suc (suc (version_of s)) = omega arith in
      test_rising (suc (version_of s)) (version_of s + 32) held (rw two at model.pending_rise)

  pub own_follows : Follows table held s
  unfolding model_of view table_of apply_all
  own_follows =
      let q = no_run (version_of s) held held_rising in
      record { valid = h; shows = rw (q.runs, q.rests) }

  pub own_accepted : Accepted table held
  unfolding view table_of
  own_accepted =
      let c : ℕ = version_of s in
      let q = no_run c held held_rising in
      record {
        rises = test_rising c (c + 32) held
            (rising_wider (λ o. o.version) (c + 2) (suc c) (c + 32) (c + 32) held (omega arith) (omega arith) model.pending_rise);
        near = rw q.ends (test_within (c + 2) (c + 32) held model.pending_rise);
        ids = model.pending_valid;
      }

  -- a delivery keeps a valid replica valid, so 28 never comes after a valid one
  pub deliver_valid : (m : List ℕ) → valid_of (deliver_of s m).words ≡ true
  deliver_valid m = (deliver_follows table held s own_follows m own_table own_accepted).valid
