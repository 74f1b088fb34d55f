-- One operation: the model that an accepted list stands for refuses it as the replay does, or answers as the replay does and is then the
-- model that the list with it stands for.
use mathlib.Core.Path.{◌≡◌, refl, sym, ap, ◌∙◌, subst}
use Prim.Native.Nat.{ℕ, suc, ◌+◌, ◌-◌, ◌≤◌, ◌<◌}
use native.Mathlib.Omega.{arith}
use mathlib.Core.Bool.{Bool, true, false, cond}
use mathlib.Core.List.{List, [], ◌∷◌}
use mathlib.Core.Option.{Option, none, some}
use lib.ListN.{length}
use Rattle.std.specs.Prelude.{Ok}
use lib.Dec.{eqb, leb, ltb}
use borrow.Author.Tests.{ltb-true, ltb-false, leb-false, eqb-true, eqb-false, lt-ltb, le-ltb}
use Rattle.refusal.proofs.CheckLaws.{the_last}
use Rattle.table_rules.specs.Operations.{Operation}
use Rattle.table_rules.specs.Operations.{same_operation, find, insert}
use Rattle.table_rules.specs.NameTable.{NameTable, apply, apply_all, noops_in}
use Rattle.replica.specs.declared.Delivery.TheVariants as delivery
use Rattle.replica.specs.Replica.{Model}
use Rattle.replica.specs.Deliver.{Drained, drain, Outcome, enter, pending_no, operation_no}
use Rattle.replay.specs.Replay.{pending, applied, watermark, table_at, repeated_no, version_no, rise_answer}
use Rattle.replay.specs.Faithful.{Rising}
use Rattle.replay.specs.Run.{as_replayed}
use Rattle.replay.proofs.OperationLaws.{insert_rising, insert_first}
use Rattle.table_rules.proofs.KeepsLaws.{apply_version}
use Rattle.replay.proofs.TableLaws.{apply_all_append}
use Rattle.replay.proofs.RunLaws.{run, rest, watermark_length, up_to_run, rest_rising, find_rest, no_run, inserted, newly_reached}

-- ---- applying the run, and draining

pub run_version : (t : NameTable) (c : ℕ) (os : List Operation) → t.version ≡ c → (apply_all t (run c os)).version ≡ watermark c os
unfolding apply_all run watermark
run_version t c [] p = p
run_version t c (o ∷ os) p = go (eqb o.version (suc c)) refl (run_version (apply t o) (suc c) os)
  where
    go : (b : Bool) → eqb o.version (suc c) ≡ b → ((apply t o).version ≡ suc c → (apply_all (apply t o) (run (suc c) os)).version ≡ watermark (suc c) os)
        → (apply_all t (run c (o ∷ os))).version ≡ watermark c (o ∷ os)
    go true e ih = rw e (ih (apply_version t o ∙ eqb-true o.version (suc c) e))
    go false e ih = rw e p

abbrev drained : NameTable → ℕ → List Operation → Drained
drained t c os = record {
  table = apply_all t (run c os);
  pending = rest c os;
  passed = length (run c os);
  noops = noops_in t (run c os);
}

drain_run : (t : NameTable) (c : ℕ) (os : List Operation) → t.version ≡ c → drain t os ≡ drained t c os
unfolding drain apply_all noops_in run rest
drain_run t c [] p = refl
drain_run t c (o ∷ os) p = go (eqb o.version (suc c)) refl (drain_run (apply t o) (suc c) os)
  where
    go : (b : Bool) → eqb o.version (suc c) ≡ b → ((apply t o).version ≡ suc c → drain (apply t o) os ≡ drained (apply t o) (suc c) os)
        → drain t (o ∷ os) ≡ drained t c (o ∷ os)
    go true e ih =
        let e' : eqb o.version (suc t.version) ≡ true = rw p e in
        rw (e', e, ih (apply_version t o ∙ eqb-true o.version (suc c) e))
    go false e ih =
        let e' : eqb o.version (suc t.version) ≡ false = rw p e in
        rw (e', e)

-- ---- the model that an accepted list stands for

unfoldable pub model_of : NameTable → List Operation → Model
model_of t acc = record { table = apply_all t (run t.version acc); pending = rest t.version acc }

abbrev mark : NameTable → List Operation → ℕ
mark t acc = watermark t.version acc

pub model_version : (t : NameTable) (acc : List Operation) → (model_of t acc).table.version ≡ mark t acc
unfolding model_of
model_version t acc = run_version t t.version acc refl

pub model_table : (t : NameTable) (acc : List Operation) → Rising t.version acc → (model_of t acc).table ≡ table_at t acc
unfolding table_at model_of
model_table t acc r = sym (ap (apply_all t) (up_to_run t.version acc r))

model_find : (t : NameTable) (acc : List Operation) (v : ℕ) → mark t acc < v → find v (model_of t acc).pending ≡ find v acc
unfolding model_of
model_find t acc v h = find_rest t.version v acc h

pub model_rising : (t : NameTable) (acc : List Operation) → Rising t.version acc → Rising (suc (mark t acc)) (model_of t acc).pending
unfolding model_of
model_rising t acc r = rest_rising t.version acc r

-- the model after an insertion past the watermark, from the one before it
abbrev joined : NameTable → List Operation → Operation → List Operation
joined t acc op = insert op (model_of t acc).pending

-- the operations newly reached
abbrev new_run : NameTable → List Operation → Operation → List Operation
new_run t acc op = run (mark t acc) (joined t acc op)

model_insert : (t : NameTable) (acc : List Operation) (op : Operation) → mark t acc < op.version
    → model_of t (insert op acc) ≡ record {
      table = apply_all (model_of t acc).table (new_run t acc op);
      pending = rest (mark t acc) (joined t acc op);
    }
unfolding model_of
model_insert t acc op h =
    let i = inserted t.version op acc h in
    rw (i.runs, i.rests, apply_all_append)

-- ---- refusals

-- an operation that is not refused
pub record Fresh (n : ℕ) (acc : List Operation) (op : Operation) : Type 0 where
  pub past : n < op.version
  pub near : op.version ≤ n + 32
  pub missing : find op.version acc ≡ none

sixteen_or_more : (b : Bool) → cond {A = ℕ} b 16 17 ≡ 0 → ⊥
sixteen_or_more true h = omega arith
sixteen_or_more false h = omega arith

pub fresh : (n : ℕ) (acc : List Operation) (op : Operation) → version_no n acc op ≡ 0 → Fresh n acc op
unfolding version_no repeated_no
fresh n acc op = go (leb op.version n) refl (ltb (n + 32) op.version) refl (find op.version acc) refl
  where
    go : (b : Bool) → leb op.version n ≡ b → (d : Bool) → ltb (n + 32) op.version ≡ d → (f : Option Operation) → find op.version acc ≡ f
        → cond b 14 (cond d 15 (repeated_no op f)) ≡ 0 → Fresh n acc op
    go true e d f o g h = absurd (omega arith)
    go false e true f o g h = absurd (omega arith)
    go false e false f (some w) g h = absurd (sixteen_or_more (same_operation op w) h)
    go false e false f none g h = record { past = leb-false op.version n e; near = ltb-false (n + 32) op.version f; missing = g }

-- the two texts of 16 and 17
repeated_same : (op : Operation) (f : Option Operation) → pending_no op f ≡ repeated_no op f
unfolding pending_no repeated_no
repeated_same op none = refl
repeated_same op (some w) = refl

pub refusal_same : (t : NameTable) (acc : List Operation) (op : Operation) → operation_no (model_of t acc) op ≡ version_no (mark t acc) acc op
unfolding operation_no version_no
refusal_same t acc op = rw (model_version t acc) (go (leb op.version (mark t acc)) refl (ltb (mark t acc + 32) op.version))
  where
    p : ℕ
    p = pending_no op (find op.version (model_of t acc).pending)

    go : (b : Bool) → leb op.version (mark t acc) ≡ b → (d : Bool)
        → cond (eqb (cond b 14 0) 0) (cond (eqb (cond d 15 0) 0) (cond (eqb p 0) 0 p) (cond d 15 0)) (cond b 14 0)
        ≡ cond b 14 (cond d 15 (repeated_no op (find op.version acc)))
    go true e d = refl
    go false e true = refl
    go false e false =
        the_last p ∙ repeated_same op (find op.version (model_of t acc).pending)
        ∙ ap (repeated_no op) (model_find t acc op.version (leb-false op.version (mark t acc) e))

-- ---- an operation that is not refused

ltb_add : (n k : ℕ) → ltb n (n + k) ≡ ltb 0 k
ltb_add n k = go (ltb 0 k) refl
  where
    go : (b : Bool) → ltb 0 k ≡ b → ltb n (n + k) ≡ ltb 0 k
    go true e = rw (e, lt-ltb n (n + k) (omega (arith, ltb-true 0 k e)))
    go false e = rw (e, le-ltb n (n + k) (omega (arith, ltb-false 0 k e)))

add_sub : (n k : ℕ) → n + k - n ≡ k
add_sub n k = omega arith

module _ (t : NameTable) (acc : List Operation) (op : Operation) (r : Rising t.version acc) (f : Fresh (mark t acc) acc op) where
  abbrev reached : List Operation
  reached = new_run t acc op

  -- the replay's answer, by the operations newly reached
  pub rise_run : rise_answer (table_at t acc) (mark t acc) (mark t (insert op acc)) (insert op acc)
      ≡ cond (ltb 0 (length reached)) (applied (length reached) (noops_in (model_of t acc).table reached)) pending
  unfolding rise_answer model_of
  rise_run =
      let c : ℕ = t.version in
      let n : ℕ = watermark c acc in
      let os : List Operation = rest c acc in
      let ends : watermark c (insert op acc) ≡ n + length (run n (insert op os)) = (inserted c op acc f.past).ends ∙ watermark_length n (insert op os) in
      rw (
        newly_reached c op acc f.past f.missing r,
        ← model_table t acc r,
        ends,
        ltb_add n (length (run n (insert op os))),
        add_sub n (length (run n (insert op os))),
      )

  run_first : (n : ℕ) (os : List Operation) → eqb op.version (suc n) ≡ true → ltb 0 (length (run n (op ∷ os))) ≡ true
  unfolding run
  run_first n os e = rw e (lt-ltb 0 (suc (length (run (suc n) os))) (omega arith))

  -- the replica's answer, by the same operations
  enter_run : enter (model_of t acc) op ≡ record {
    answer = cond (ltb 0 (length reached)) (Ok (delivery.Applied (length reached) (noops_in (model_of t acc).table reached))) (Ok delivery.Pending);
    model = model_of t (insert op acc);
  }
  unfolding enter apply_all
  enter_run = rw (model_insert t acc op f.past) (go (eqb op.version (suc (mark t acc))) refl)
    where
      n : ℕ
      n = mark t acc

      ws : List Operation
      ws = (model_of t acc).pending

      go : (b : Bool) → eqb op.version (suc n) ≡ b → enter (model_of t acc) op ≡ record {
        answer = cond (ltb 0 (length reached)) (Ok (delivery.Applied (length reached) (noops_in (model_of t acc).table reached))) (Ok delivery.Pending);
        model = record { table = apply_all (model_of t acc).table reached; pending = rest n (joined t acc op) };
      }
      go true e =
          let e' : eqb op.version (suc (model_of t acc).table.version) ≡ true = rw (model_version t acc) e in
          let first : insert op ws ≡ op ∷ ws =
          insert_first op ws (subst (λ (k : ℕ). Rising k ws) (sym (eqb-true op.version (suc n) e)) (model_rising t acc r)) in
          rw (first, run_first n ws e, e', drain_run (model_of t acc).table n (op ∷ ws) (model_version t acc))
      go false e =
          let e' : eqb op.version (suc (model_of t acc).table.version) ≡ false = rw (model_version t acc) e in
          let ne : ¬ (op.version ≡ suc n) = eqb-false op.version (suc n) e in
          let quiet = no_run n (insert op ws) (insert_rising (suc n) op ws (omega (arith, f.past))
          (model_find t acc op.version f.past ∙ f.missing) (model_rising t acc r)) in
          rw (quiet.runs, quiet.rests, e')

  told : (b : Bool) (p n : ℕ) → as_replayed (cond b (Ok (delivery.Applied p n)) (Ok delivery.Pending)) ≡ cond b (applied p n) pending
  told true p n = refl
  told false p n = refl

  pub step_answer : as_replayed (enter (model_of t acc) op).answer ≡ rise_answer (table_at t acc) (mark t acc) (mark t (insert op acc)) (insert op acc)
  step_answer =
      ap (λ (o : Outcome). as_replayed o.answer) enter_run
      ∙ told (ltb 0 (length reached)) (length reached) (noops_in (model_of t acc).table reached)
      ∙ sym rise_run

  pub step_model : (enter (model_of t acc) op).model ≡ model_of t (insert op acc)
  step_model = ap (λ (o : Outcome). o.model) enter_run
