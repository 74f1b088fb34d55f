-- Laws of the accepted operations: they rise by version, none is further than 32 above the watermark, and none keeps an id 0. So the
-- model that they stand for is valid.
use mathlib.Core.Path.{◌≡◌, refl, ◌∙◌}
use Prim.Native.Nat.{ℕ, suc, ◌+◌, ◌≤◌}
use native.Mathlib.Omega.{arith}
use mathlib.Core.Bool.{Bool, true, false, cond}
use mathlib.Core.List.{List, [], ◌∷◌}
use lib.Dec.{eqb}
use borrow.Author.Tests.{leb-true, eqb-true, eqb-false, le-leb}
use Rattle.lists.specs.Lists.{every}
use Rattle.lists.proofs.ListLaws.{every_head, every_tail, every_weaken, every_insert}
use Rattle.table_rules.specs.Operations.{Operation}
use Rattle.table_rules.specs.Operations.{valid_operation, earlier, insert}
use Rattle.operations.specs.Received.{operation_in}
use Rattle.table_rules.specs.NameTable.{NameTable, apply, apply_all}
use Rattle.replica.specs.Valid.{operations_rise}
use Rattle.replay.specs.Replay.{watermark, version_no, message_no, accepted_after, accepted_from}
use Rattle.replay.specs.Faithful.{Rising, IsAccepted}
use Rattle.replay.proofs.OperationLaws.{within, rising_test, insert_rising, find_insert_same, find_insert_other}
use Rattle.operations.proofs.ReceivedLaws.{read_valid}
use Rattle.replay.proofs.RunLaws.{run, rest, watermark_le, every_rest, rest_rising, inserted}
use Rattle.table_rules.proofs.KeepsLaws.{ValidTable, apply_version, apply_valid}
use Rattle.replay.proofs.StepLaws.{model_of, model_version, Fresh, fresh}
use Rattle.replica.proofs.PackLaws.{ValidModel}

pub record Accepted (t : NameTable) (acc : List Operation) : Type 0 where
  pub rises : Rising t.version acc
  pub near : every (within (watermark t.version acc + 32)) acc ≡ true
  pub ids : every valid_operation acc ≡ true

pub none_accepted : (t : NameTable) → Accepted t []
unfolding every
none_accepted t = record { rises = tt; near = refl; ids = refl }

-- ---- a message that is accepted

pub record Taken (t : NameTable) (acc : List Operation) (m : List ℕ) : Type 0 where
  pub is_read : (operation_in m).number ≡ 0
  pub is_fresh : Fresh (watermark t.version acc) acc (operation_in m).operation

pub taken : (t : NameTable) (acc : List Operation) (m : List ℕ) → message_no t acc m ≡ 0 → Taken t acc m
unfolding message_no
taken t acc m = go (eqb (operation_in m).number 0) refl
  where
    n : ℕ
    n = watermark t.version acc

    go : (b : Bool) → eqb (operation_in m).number 0 ≡ b
        → cond b (version_no n acc (operation_in m).operation) (operation_in m).number ≡ 0 → Taken t acc m
    go true e h = record { is_read = eqb-true (operation_in m).number 0 e; is_fresh = fresh n acc (operation_in m).operation h }
    go false e h = absurd (eqb-false (operation_in m).number 0 e h)

pub is_accepted : (t : NameTable) (acc : List Operation) (m : List ℕ) → message_no t acc m ≡ 0 → IsAccepted (operation_in m).operation acc (accepted_after t acc m)
unfolding accepted_after
is_accepted t acc m h =
    let op : Operation = (operation_in m).operation in
    let missing = (taken t acc m h).is_fresh.missing in
    rw h (record {
      was_missing = missing;
      is_there = find_insert_same op acc missing;
      others_stay = λ v n. find_insert_other v op acc n;
    })

-- ---- the list after messages

module _ (t : NameTable) (acc : List Operation) (a : Accepted t acc) where
  abbrev n : ℕ
  n = watermark t.version acc

  insert_accepted : (op : Operation) → Fresh n acc op → valid_operation op ≡ true → Accepted t (insert op acc)
  insert_accepted op f ok =
      let i = inserted t.version op acc f.past in
      let n' : ℕ = watermark t.version (insert op acc) in
      let more : n ≤ n' = omega (arith, i.ends, watermark_le n (insert op (rest t.version acc))) in
      record {
        rises = insert_rising t.version op acc (omega (arith, f.past, watermark_le t.version acc)) f.missing a.rises;
        near = every_weaken (within (n + 32)) (within (n' + 32))
            (λ o h. le-leb o.version (n' + 32) (omega (arith, leb-true o.version (n + 32) h)))
            (insert op acc) (every_insert earlier (within (n + 32)) op acc (le-leb op.version (n + 32) f.near) a.near);
        ids = every_insert earlier valid_operation op acc ok a.ids;
      }

  pub accept_accepted : (m : List ℕ) → Accepted t (accepted_after t acc m)
  unfolding accepted_after
  accept_accepted m = go (eqb (message_no t acc m) 0) refl
    where
      go : (b : Bool) → eqb (message_no t acc m) 0 ≡ b → Accepted t (cond b (insert (operation_in m).operation acc) acc)
      go true e =
          let k = taken t acc m (eqb-true (message_no t acc m) 0 e) in
          insert_accepted (operation_in m).operation k.is_fresh (read_valid m k.is_read)
      go false e = a

pub all_accepted : (t : NameTable) (acc : List Operation) (ms : List (List ℕ)) → Accepted t acc → Accepted t (accepted_from t acc ms)
unfolding accepted_from
all_accepted t acc [] a = a
all_accepted t acc (m ∷ ms) a = all_accepted t (accepted_after t acc m) ms (accept_accepted t acc a m)

-- ---- the model is valid

run_valid : (t : NameTable) (c : ℕ) (os : List Operation) → t.version ≡ c → ValidTable t → every valid_operation os ≡ true → ValidTable (apply_all t (run c os))
unfolding apply_all run
run_valid t c [] e p h = p
run_valid t c (o ∷ os) e p h = go (eqb o.version (suc c)) refl (run_valid (apply t o) (suc c) os)
  where
    go : (b : Bool) → eqb o.version (suc c) ≡ b
        → ((apply t o).version ≡ suc c → ValidTable (apply t o) → every valid_operation os ≡ true → ValidTable (apply_all (apply t o) (run (suc c) os)))
        → ValidTable (apply_all t (cond b (o ∷ run (suc c) os) []))
    go true q ih =
        let v : o.version ≡ suc c = eqb-true o.version (suc c) q in
        ih (apply_version t o ∙ v) (apply_valid t o p (omega arith) (every_head valid_operation o os h)) (every_tail valid_operation o os h)
    go false q ih = p

pub model_valid : (t : NameTable) (acc : List Operation) → ValidTable t → Accepted t acc → ValidModel (model_of t acc)
unfolding model_of
model_valid t acc p a =
    let c : ℕ = t.version in
    let n : ℕ = watermark c acc in
    let two : n + 2 ≡ suc (suc n) = omega arith in
    let rise : operations_rise (n + 2) (n + 32) (rest c acc) ≡ true =
    rw two (rising_test (suc n) (n + 32) (rest c acc) (rest_rising c acc a.rises) (every_rest (within (n + 32)) c acc a.near)) in
    record {
      table_valid = run_valid t c acc refl p a.ids;
      pending_rise = rw (model_version t acc) rise;
      pending_valid = every_rest valid_operation c acc a.ids;
    }
