-- Every step of every call is of a version that is new to its name table, and the steps of a delivery are all that it applies.
use mathlib.Core.Path.{◌≡◌, refl, ap, ◌∙◌}
use Prim.Native.Nat.{ℕ, suc, ◌+◌}
use native.Mathlib.Omega.{arith}
use mathlib.Core.Bool.{Bool, true, false, cond, not}
use mathlib.Core.List.{List, [], ◌∷◌}
use lib.ListN.{length}
use lib.Dec.{eqb}
use Rattle.std.specs.Prelude.{Ok}
use Rattle.lists.specs.Lists.{every, passing, bit}
use Rattle.lists.proofs.ListLaws.{every_tail, every_cons, every_append}
use Rattle.table_rules.specs.Operations.{Operation, valid_operation}
use Rattle.table_rules.specs.NameTable.{NameTable, is_noop, apply}
use Rattle.table_rules.proofs.KeepsLaws.{ValidTable}
use Rattle.table_words.specs.Words.{table_of}
use Rattle.replica.specs.declared.Delivery.TheVariants.{Applied}
use Rattle.replica.specs.Replica.{Model, view}
use Rattle.replica.specs.Valid.{valid_of}
use Rattle.replica.specs.Deliver.{Answer, Drained, drain, enter, refusal, pack_outcome, deliver_of}
use Rattle.replay.proofs.StatementProof.{stays_valid}
use Rattle.batch.specs.Batch.{delivered_in}
use Rattle.batch.proofs.BatchProofs.{batches}
use Rattle.demand.specs.Calls.{Call, deliver, batch, words_after}
use Rattle.add_rule.specs.ByRule.{refused_no}
use Rattle.add_rule.specs.Steps.{Step, steps_from, steps_of, steps_in, steps_to, all_steps}
use Rattle.add_rule.specs.AddRule.{is_new, is_noop_step, StepsTold}
use Rattle.add_rule.proofs.VersionLaws.{above_new}
use Rattle.add_rule.proofs.DeliveryLaws.{delivered, due, delivery_is, table_valid, due_valid, next_past, next_valid}

-- ---- their versions are new

from_new : (t : NameTable) (os : List Operation) → ValidTable t → every valid_operation os ≡ true → every is_new (steps_from t os) ≡ true
unfolding steps_from every
from_new t [] p h = refl
from_new t (o ∷ os) p h = go (eqb o.version (suc t.version)) refl (λ v. from_new (apply t o) os v (every_tail valid_operation o os h))
  where
    go : (b : Bool) → eqb o.version (suc t.version) ≡ b → (ValidTable (apply t o) → every is_new (steps_from (apply t o) os) ≡ true)
        → every is_new (cond b (record { table = t; operation = o } ∷ steps_from (apply t o) os) []) ≡ true
    go true e ih =
        every_cons is_new (record { table = t; operation = o }) (steps_from (apply t o) os)
        (ap not (above_new t o.version p (next_past t o e))) (ih (next_valid t o e os p h))
    go false e ih = refl

delivered_new : (l m : List ℕ) → valid_of l ≡ true → every is_new (steps_of l m) ≡ true
unfolding steps_of every
delivered_new l m v = go (eqb (refused_no l m) 0) refl
  where
    go : (b : Bool) → eqb (refused_no l m) 0 ≡ b → every is_new (cond b (steps_from (table_of l) (due l m)) []) ≡ true
    go true e = from_new (table_of l) (due l m) (table_valid l v) (due_valid l m v e)
    go false e = refl

in_turn_new : (l : List ℕ) (ms : List (List ℕ)) → valid_of l ≡ true → every is_new (steps_in l ms) ≡ true
unfolding steps_in every
in_turn_new l [] v = refl
in_turn_new l (m ∷ ms) v =
    every_append is_new (steps_of l m) (steps_in (deliver_of l m).words ms) (delivered_new l m v) (in_turn_new (deliver_of l m).words ms (stays_valid l m v))

call_new : (l : List ℕ) (c : Call) → valid_of l ≡ true → every is_new (steps_to l c) ≡ true
call_new l (deliver m) v = delivered_new l m v
call_new l (batch s room) v = in_turn_new l (delivered_in l s room) v

call_valid : (l : List ℕ) (c : Call) → valid_of l ≡ true → valid_of (words_after l c) ≡ true
call_valid l (deliver m) v = stays_valid l m v
call_valid l (batch s room) v = batches.stays_valid l s room v

pub all_new : (l : List ℕ) (cs : List Call) → valid_of l ≡ true → every is_new (all_steps l cs) ≡ true
unfolding all_steps every
all_new l [] v = refl
all_new l (c ∷ cs) v =
    every_append is_new (steps_to l c) (all_steps (words_after l c) cs) (call_new l c v) (all_new (words_after l c) cs (call_valid l c v))

-- ---- they are all that is applied

drain_told : (t : NameTable) (os : List Operation) → StepsTold (steps_from t os) (drain t os).passed (drain t os).noops
unfolding steps_from drain passing bit
drain_told t [] = record { as_many = refl; noops_as_many = refl }
drain_told t (o ∷ os) = go (eqb o.version (suc t.version)) refl (drain_told (apply t o) os)
  where
    one_more : (b : Bool) (s : Step) (ss : List Step) (n : ℕ) → length ss ≡ n → length (cond b (s ∷ ss) ss) ≡ bit b + n
    one_more true s ss n h = omega arith
    one_more false s ss n h = omega arith

    go : (b : Bool) → eqb o.version (suc t.version) ≡ b
        → StepsTold (steps_from (apply t o) os) (drain (apply t o) os).passed (drain (apply t o) os).noops
        → StepsTold (steps_from t (o ∷ os)) (drain t (o ∷ os)).passed (drain t (o ∷ os)).noops
    go true e ih =
        let s : Step = record { table = t; operation = o } in
        let ss : List Step = steps_from (apply t o) os in
        rw e (record {
          as_many = ap suc ih.as_many;
          noops_as_many = one_more (is_noop t o) s (passing is_noop_step ss) (drain (apply t o) os).noops ih.noops_as_many;
        })
    go false e ih = rw e (record { as_many = refl; noops_as_many = refl })

abbrev Told : List Step → Answer → Type 0
Told ss x = (passed noops : ℕ) → x ≡ Ok (Applied passed noops) → StepsTold ss passed noops

not_applied : (ss : List Step) (n : ℕ) (l : List ℕ) → Told ss (refusal n l).answer
unfolding refusal
not_applied ss n l p q e = absurd (let z : ◌≡◌ {A = ℕ} 0 1 = cc in omega arith)

enter_told : (m : Model) (op : Operation) → Told (steps_from m.table (op ∷ m.pending)) (enter m op).answer
unfolding enter
enter_told m op = go (eqb op.version (suc m.table.version)) refl
  where
    d : Drained
    d = drain m.table (op ∷ m.pending)

    go : (b : Bool) → eqb op.version (suc m.table.version) ≡ b → Told (steps_from m.table (op ∷ m.pending)) (enter m op).answer
    go true e = rw e (λ p q f.
        let a : d.passed ≡ p = cc in
        let b : d.noops ≡ q = cc in
        let told = drain_told m.table (op ∷ m.pending) in
        record { as_many = told.as_many ∙ a; noops_as_many = told.noops_as_many ∙ b })
    go false e = rw e (λ p q f. absurd (let z : ◌≡◌ {A = ℕ} 0 1 = cc in omega arith))

pub steps_told : (l m : List ℕ) → Told (steps_of l m) (deliver_of l m).answer
unfolding steps_of view refusal pack_outcome
steps_told l m = rw (delivery_is l m) (go (valid_of l) (eqb (refused_no l m) 0))
  where
    n : ℕ
    n = refused_no l m

    go : (b d : Bool) → Told (cond d (steps_from (table_of l) (due l m)) [])
        (cond b (cond d (pack_outcome (enter (view l) (delivered l m))) (refusal n l)) (refusal 28 l)).answer
    go true true = enter_told (view l) (delivered l m)
    go true false = not_applied _ n l
    go false d = not_applied _ 28 l
