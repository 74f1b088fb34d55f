-- What holds of every outcome: the counts of an applied answer, and that only the kept fields of a message count.
use mathlib.Core.Path.{◌≡◌, refl, sym, ap, ◌∙◌}
use Prim.Native.Nat.{ℕ, suc, ◌≤◌}
use native.Mathlib.Omega.{arith}
use mathlib.Core.Bool.{Bool, true, false, cond}
use mathlib.Core.List.{List, [], ◌∷◌}
use lib.ListN.{length, drop}
use lib.Dec.{eqb}
use Rattle.std.specs.Prelude.{Ok}
use Rattle.refusal.specs.Numbers.{refused}
use Rattle.table_rules.specs.Operations.{Operation}
use Rattle.table_rules.specs.Operations.{same_operation}
use Rattle.operations.specs.Received.{ReadOperation}
use Rattle.operations.specs.Received.{operation_in}
use Rattle.operations.proofs.ReceivedLaws.{read_version}
use Rattle.byte_words.specs.Bytes.{AllBytes}
use Rattle.table_words.specs.Layout.{window_size, window_at}
use Rattle.table_words.specs.Words.{version_of, window_in}
use Rattle.table_window.proofs.WindowLaws.{window_long}
use Rattle.table_rules.specs.NameTable.{NameTable, is_noop, apply}
use Rattle.table_rules.proofs.OperationLaws.{same_eq}
use Rattle.table_window.specs.Window.{used, pending_of}
use Rattle.replica.specs.declared.Delivery.TheVariants.{Applied}
use Rattle.replica.specs.Replica.{Model, view}
use Rattle.replica.specs.Valid.{valid_of}
use Rattle.replica.specs.Deliver.{Answer, Drained, drain, enter, operation_no, refusal, pack_outcome, accepted_by, delivered_read, deliver_of}
use Rattle.replica.specs.Outcomes.{CountsOf, Outcomes}
use Rattle.replica.proofs.PackLaws.{fresh_valid}
use Rattle.replica.proofs.ValidLaws.{Valid, valid_parts}
use Rattle.replica.proofs.RunLaws.{bit_small}
use Rattle.replica.proofs.DeliverLaws.{too_late}

-- ---- counts

abbrev Counted : Answer → Type 0
Counted a = (passed noops : ℕ) → a ≡ Ok (Applied passed noops) → CountsOf passed noops

not_applied : (n : ℕ) → Counted (refused n)
not_applied n p q e = absurd (let z : ◌≡◌ {A = ℕ} 0 1 = cc in omega arith)

drain_counts : (t : NameTable) (os : List Operation) → ((drain t os).passed ≤ length os) × ((drain t os).noops ≤ (drain t os).passed)
unfolding drain
drain_counts t [] = (omega arith, omega arith)
drain_counts t (o ∷ os) = go (eqb o.version (suc t.version)) refl (drain_counts (apply t o) os)
  where
    go : (b : Bool) → eqb o.version (suc t.version) ≡ b → ((drain (apply t o) os).passed ≤ length os) × ((drain (apply t o) os).noops ≤ (drain (apply t o) os).passed)
        → ((drain t (o ∷ os)).passed ≤ suc (length os)) × ((drain t (o ∷ os)).noops ≤ (drain t (o ∷ os)).passed)
    go true e ih = rw e (omega (arith, ih.0), omega (arith, ih.1, bit_small (is_noop t o)))
    go false e ih = rw e (omega arith, omega arith)

drain_some : (t : NameTable) (o : Operation) (os : List Operation) → eqb o.version (suc t.version) ≡ true → 1 ≤ (drain t (o ∷ os)).passed
unfolding drain
drain_some t o os e = rw e (omega arith)

pending_few : (l : List Operation) → length (pending_of l) ≤ length l
unfolding pending_of
pending_few [] = omega arith
pending_few (x ∷ xs) = go (used x) (pending_few xs)
  where
    go : (b : Bool) → length (pending_of xs) ≤ length xs → length (cond b (x ∷ pending_of xs) (pending_of xs)) ≤ suc (length xs)
    go true ih = omega arith
    go false ih = omega arith

enter_counts : (m : Model) (op : Operation) → length m.pending ≤ window_size → Counted (enter m op).answer
unfolding enter
enter_counts m op h = go (eqb op.version (suc m.table.version)) refl
  where
    d : Drained
    d = drain m.table (op ∷ m.pending)

    counts : (d.passed ≤ suc (length m.pending)) × (d.noops ≤ d.passed)
    counts = drain_counts m.table (op ∷ m.pending)

    go : (b : Bool) → eqb op.version (suc m.table.version) ≡ b → Counted (enter m op).answer
    go true e = rw e (λ p q f.
        let a : d.passed ≡ p = cc in
        let b : d.noops ≡ q = cc in
        record {
          some_passed = omega (arith, drain_some m.table op m.pending e);
          few_passed = omega (arith, counts.0);
          few_noops = omega (arith, counts.1);
        })
    go false e = rw e (λ p q f. absurd (let z : ◌≡◌ {A = ℕ} 0 1 = cc in omega arith))

accepted_counts : (s : List ℕ) → Valid s → (op : Operation) → Counted (accepted_by s op).answer
unfolding accepted_by refusal pack_outcome view
accepted_counts s p op = go (eqb (operation_no (view s) op) 0)
  where
    go : (b : Bool) → Counted (cond b (pack_outcome (enter (view s) op)) (refusal (operation_no (view s) op) s)).answer
    go true = enter_counts (view s) op (omega (arith, pending_few (window_in (drop window_at s)), window_long (drop window_at s)))
    go false = not_applied (operation_no (view s) op)

deliver_counts : (s m : List ℕ) (passed noops : ℕ) → (deliver_of s m).answer ≡ Ok (Applied passed noops) → CountsOf passed noops
unfolding deliver_of delivered_read refusal
deliver_counts s m = go (valid_of s) refl (eqb (operation_in m).number 0)
  where
    go : (b : Bool) → valid_of s ≡ b → (d : Bool)
        → Counted (cond b (cond d (accepted_by s (operation_in m).operation) (refusal (operation_in m).number s)) (refusal 28 s)).answer
    go true e true = accepted_counts s (valid_parts s e) (operation_in m).operation
    go true e false = not_applied (operation_in m).number
    go false e d = not_applied 28

-- ---- what counts of a message

-- two messages that read to operations with equal kept fields have the same outcome
kept_fields_decide : (s a b : List ℕ) → (operation_in a).number ≡ 0 → (operation_in b).number ≡ 0
    → same_operation (operation_in a).operation (operation_in b).operation ≡ true → deliver_of s a ≡ deliver_of s b
unfolding deliver_of
kept_fields_decide s a b ea eb h =
    let o : (operation_in a).operation ≡ (operation_in b).operation = same_eq (operation_in a).operation (operation_in b).operation h in
    let n : (operation_in a).number ≡ (operation_in b).number = ea ∙ sym eb in
    let r : operation_in a ≡ operation_in b = λ i. record { number = n i; operation = o i } in
    ap (λ (x : ReadOperation). cond (valid_of s) (delivered_read s x) (refusal 28 s)) r

-- ---- the last version

-- at version 4,294,967,295 every operation is 14: its version has 32 bits
last_version : (s m : List ℕ) → AllBytes m → valid_of s ≡ true → version_of s ≡ 4294967295 → (operation_in m).number ≡ 0 → deliver_of s m ≡ refusal 14 s
unfolding deliver_of delivered_read refusal
last_version s m b h e n = rw (h, n) (sym (too_late s (valid_parts s h) (operation_in m).operation (omega (arith, read_version m b))))

pub outcomes : Outcomes
outcomes = record { counts = deliver_counts; kept_decides = kept_fields_decide; last_version = last_version; fresh_valid = fresh_valid }
