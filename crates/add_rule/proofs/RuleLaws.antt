-- A rule that says what the rule in force says of operations above a valid name table's version makes no difference: not in a delivery, nor in
-- the replay. In both each operation is of the next version, and applying keeps the name table valid.
use mathlib.Core.Path.{◌≡◌, refl, sym, ap, ◌∙◌}
use Prim.Native.Nat.{ℕ, suc, ◌-◌, ◌<◌}
use native.Mathlib.Omega.{arith}
use mathlib.Core.Bool.{Bool, true, false, cond}
use mathlib.Core.List.{List, [], ◌∷◌}
use mathlib.Core.Option.{none}
use lib.Dec.{eqb, ltb}
use borrow.Author.Tests.{eqb-true}
use Rattle.lists.specs.Lists.{every}
use Rattle.lists.proofs.ListLaws.{every_head, every_tail, every_insert}
use Rattle.table_rules.specs.Operations.{Operation, valid_operation, find, earlier, insert}
use Rattle.table_rules.specs.NameTable.{NameTable, is_noop, apply, apply_all, noops_in}
use Rattle.table_rules.proofs.KeepsLaws.{ValidTable, table_parts, apply_version, apply_valid}
use Rattle.operations.specs.Received.{operation_in}
use Rattle.operations.proofs.ReceivedLaws.{read_valid}
use Rattle.replica.specs.Replica.{Model, view}
use Rattle.replica.specs.Valid.{valid_of}
use Rattle.replica.specs.Deliver.{drain, enter, refusal, pack_outcome, deliver_of}
use Rattle.replay.specs.Replay.{pending, applied, watermark, up_to, above, table_at, rise_answer, message_no, accepted_after, answer_to, answers_from, accepted_of, answers_of, table_after}
use Rattle.replay.proofs.RunLaws.{run, rest, every_rest, up_to_run, newly_reached}
use Rattle.replay.proofs.StepLaws.{model_of, model_version, model_table}
use Rattle.replay.proofs.AcceptedLaws.{Accepted, none_accepted, taken, accept_accepted, all_accepted, model_valid}
use Rattle.add_rule.specs.ByRule.{Rule, apply_by, apply_all_by, noops_by, drain_by, enter_by, refused_no, deliver_by, table_at_by, answer_by, answers_by}
use Rattle.add_rule.specs.AddRule.{SameAs}
use Rattle.add_rule.proofs.DeliveryLaws.{delivered, delivery_is, table_valid, due_valid, next_past, next_valid}

abbrev pub Agrees : Rule → Type 0
Agrees r = (t : NameTable) (op : Operation) → ValidTable t → t.version < op.version → r t op ≡ is_noop t op

module _ (r : Rule) (a : Agrees r) where
  apply_same : (t : NameTable) (op : Operation) → ValidTable t → t.version < op.version → apply_by r t op ≡ apply t op
  unfolding apply_by apply
  apply_same t op p h = rw (a t op p h)

  -- ---- delivery

  drain_same : (t : NameTable) (os : List Operation) → ValidTable t → every valid_operation os ≡ true → drain_by r t os ≡ drain t os
  unfolding drain_by drain
  drain_same t [] p h = refl
  drain_same t (o ∷ os) p h = go (eqb o.version (suc t.version)) refl (λ v. drain_same (apply t o) os v (every_tail valid_operation o os h))
    where
      go : (b : Bool) → eqb o.version (suc t.version) ≡ b → (ValidTable (apply t o) → drain_by r (apply t o) os ≡ drain (apply t o) os)
          → drain_by r t (o ∷ os) ≡ drain t (o ∷ os)
      go true e ih =
          let past = next_past t o e in
          rw (e, a t o p past, apply_same t o p past, ih (next_valid t o e os p h))
      go false e ih = rw e

  enter_same : (m : Model) (op : Operation) → ValidTable m.table → every valid_operation (op ∷ m.pending) ≡ true → enter_by r m op ≡ enter m op
  unfolding enter_by enter
  enter_same m op p h = rw (drain_same m.table (op ∷ m.pending) p h)

  deliver_same : (l m : List ℕ) → deliver_by r l m ≡ deliver_of l m
  unfolding deliver_by view
  deliver_same l m = go (valid_of l) refl (eqb (refused_no l m) 0) refl ∙ sym (delivery_is l m)
    where
      n : ℕ
      n = refused_no l m

      go : (b : Bool) → valid_of l ≡ b → (d : Bool) → eqb n 0 ≡ d
          → cond b (cond d (pack_outcome (enter_by r (view l) (delivered l m))) (refusal n l)) (refusal 28 l)
          ≡ cond b (cond d (pack_outcome (enter (view l) (delivered l m))) (refusal n l)) (refusal 28 l)
      go true v true e = rw (enter_same (view l) (delivered l m) (table_valid l v) (due_valid l m v e))
      go true v false e = refl
      go false v d e = refl

  -- ---- the replay

  pub record RunSame (t : NameTable) (os : List Operation) : Type 0 where
    pub tables : apply_all_by r t os ≡ apply_all t os
    pub noops : noops_by r t os ≡ noops_in t os

  step_same : (t : NameTable) (o : Operation) (os : List Operation) → ValidTable t → t.version < o.version → RunSame (apply t o) os → RunSame t (o ∷ os)
  unfolding apply_all_by apply_all noops_by noops_in
  step_same t o os p past i = record {
    tables = rw (apply_same t o p past) i.tables;
    noops = rw (a t o p past, apply_same t o p past, i.noops);
  }

  run_same : (t : NameTable) (c : ℕ) (os : List Operation) → t.version ≡ c → ValidTable t → every valid_operation os ≡ true → RunSame t (run c os)
  unfolding run apply_all_by apply_all noops_by noops_in
  run_same t c [] q p h = record { tables = refl; noops = refl }
  run_same t c (o ∷ os) q p h = go (eqb o.version (suc c)) refl (λ v w. run_same (apply t o) (suc c) os v w (every_tail valid_operation o os h))
    where
      go : (b : Bool) → eqb o.version (suc c) ≡ b → ((apply t o).version ≡ suc c → ValidTable (apply t o) → RunSame (apply t o) (run (suc c) os))
          → RunSame t (cond b (o ∷ run (suc c) os) [])
      go true e ih =
          let v : o.version ≡ suc c = eqb-true o.version (suc c) e in
          let past : t.version < o.version = omega arith in
          step_same t o (run (suc c) os) p past (ih (apply_version t o ∙ v) (apply_valid t o p past (every_head valid_operation o os h)))
      go false e ih = record { tables = refl; noops = refl }

  module _ (t : NameTable) (p : ValidTable t) (acc : List Operation) (k : Accepted t acc) where
    table_same : table_at_by r t acc ≡ table_at t acc
    unfolding table_at_by table_at
    table_same = rw (up_to_run t.version acc k.rises) (run_same t t.version acc refl p k.ids).tables

    abbrev mark : ℕ
    mark = watermark t.version acc

    -- the no-ops among the operations newly reached
    newly_same : (op : Operation) → mark < op.version → find op.version acc ≡ none → valid_operation op ≡ true
        → noops_by r (table_at_by r t acc) (above mark (up_to (watermark t.version (insert op acc)) (insert op acc)))
        ≡ noops_in (table_at t acc) (above mark (up_to (watermark t.version (insert op acc)) (insert op acc)))
    unfolding model_of
    newly_same op past missing ok =
        let c : ℕ = t.version in
        let m = model_table t acc k.rises in
        rw (newly_reached c op acc past missing k.rises, table_same, ← m)
        (run_same (model_of t acc).table mark (insert op (rest c acc)) (model_version t acc) (model_valid t acc p k).table_valid
        (every_insert earlier valid_operation op (rest c acc) ok (every_rest valid_operation c acc k.ids))).noops

    answer_same : (m : List ℕ) → answer_by r t acc m ≡ answer_to t acc m
    unfolding answer_by answer_to rise_answer accepted_after
    answer_same m = go (eqb (message_no t acc m) 0) refl
      where
        op : Operation
        op = (operation_in m).operation

        go : (b : Bool) → eqb (message_no t acc m) 0 ≡ b → answer_by r t acc m ≡ answer_to t acc m
        go true e =
            let f = taken t acc m (eqb-true (message_no t acc m) 0 e) in
            let risen : ℕ = watermark t.version (insert op acc) in
            rw e (ap (λ (n : ℕ). cond (ltb mark risen) (applied (risen - mark) n) pending)
            (newly_same op f.is_fresh.past f.is_fresh.missing (read_valid m f.is_read)))
        go false e = rw e

  answers_same : (t : NameTable) → ValidTable t → (acc : List Operation) → Accepted t acc → (ms : List (List ℕ)) → answers_by r t acc ms ≡ answers_from t acc ms
  unfolding answers_by answers_from
  answers_same t p acc k [] = refl
  answers_same t p acc k (m ∷ ms) = rw (answer_same t p acc k m, answers_same t p (accepted_after t acc m) (accept_accepted t acc k m) ms)

  pub same_as : SameAs r
  unfolding table_after accepted_of answers_of
  same_as = record {
    deliveries = λ i l m. deliver_same l m i;
    replay_tables = λ t ms h. table_same t (table_parts t h) (accepted_of t ms) (all_accepted t [] ms (none_accepted t));
    replay_answers = λ t ms h. answers_same t (table_parts t h) [] (none_accepted t) ms;
  }
