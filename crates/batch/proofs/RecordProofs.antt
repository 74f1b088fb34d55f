-- A record tells its answer: a refusal has a number, which is its own, and an applied answer at least one version. A delivery with a number leaves the words.
use mathlib.Core.Path.{◌≡◌, refl, ap}
use Prim.Native.Nat.{ℕ, suc, ◌≤◌}
use native.Mathlib.Omega.{arith}
use mathlib.Core.Bool.{Bool, true, false, cond}
use mathlib.Core.List.{List, ◌∷◌}
use lib.Dec.{eqb}
use Rattle.std.specs.Prelude.{Ok, Err}
use Rattle.refusal.proofs.NumberLaws.{number_positive, number_same}
use Rattle.table_rules.specs.Operations.{Operation}
use Rattle.table_rules.specs.Operations.{insert}
use Rattle.operations.specs.Received.{operation_in}
use Rattle.replica.specs.declared.Delivery.TheVariants.{Pending, Applied}
use Rattle.replica.specs.Replica.{Model, view}
use Rattle.replica.specs.Valid.{valid_of}
use Rattle.replica.specs.Deliver.{Answer, Done, Outcome, drain, enter, operation_no, refusal, pack_outcome, accepted_by, delivered_read, deliver_of}
use Rattle.replica.proofs.OutcomeLaws.{outcomes}
use Rattle.batch.specs.declared.AnswerRecord.{AnswerRecord}
use Rattle.batch.specs.Batch.{record_of}

-- a refusal hands the words back
abbrev Plain : List ℕ → Answer → List ℕ → Type 0
Plain l (Err why) w = w ≡ l
Plain l (Ok done) w = Unit {0}

abbrev IsPlain : List ℕ → Done → Type 0
IsPlain l d = Plain l d.answer d.words

either : (l : List ℕ) (t : Bool) (d e : Done) → IsPlain l d → IsPlain l e → IsPlain l (cond t d e)
either l true d e p q = p
either l false d e p q = q

-- an operation that is taken is not refused
abbrev outcome : Answer → Model → Outcome
outcome a m = record { answer = a; model = m }

taken : (l : List ℕ) (t : Bool) (p n : ℕ) (a b : Model) → IsPlain l (pack_outcome (cond t (outcome (Ok (Applied p n)) a) (outcome (Ok Pending) b)))
unfolding pack_outcome
taken l true p n a b = tt
taken l false p n a b = tt

entered : (l : List ℕ) (op : Operation) → IsPlain l (pack_outcome (enter (view l) op))
unfolding enter
entered l op =
    let d = drain (view l).table (op ∷ (view l).pending) in
    taken l (eqb op.version (suc (view l).table.version)) d.passed d.noops
    (record { table = d.table; pending = d.pending })
    (record { table = (view l).table; pending = insert op (view l).pending })

refused_plain : (n : ℕ) (l : List ℕ) → IsPlain l (refusal n l)
unfolding refusal
refused_plain n l = refl

plain : (l m : List ℕ) → IsPlain l (deliver_of l m)
unfolding deliver_of delivered_read accepted_by
plain l m =
    let r = operation_in m in
    let n = operation_no (view l) r.operation in
    either l (valid_of l) (delivered_read l r) (refusal 28 l)
    (either l (eqb r.number 0) (accepted_by l r.operation) (refusal r.number l)
    (either l (eqb n 0) (pack_outcome (enter (view l) r.operation)) (refusal n l) (entered l r.operation) (refused_plain n l))
    (refused_plain r.number l))
    (refused_plain 28 l)

-- a delivery that has a number leaves the words
pub refused_delivery : (l m : List ℕ) → ¬ ((record_of (deliver_of l m).answer).number ≡ 0) → (deliver_of l m).words ≡ l
refused_delivery l m = go (deliver_of l m).answer (plain l m)
  where
    go : (a : Answer) → Plain l a (deliver_of l m).words → ¬ ((record_of a).number ≡ 0) → (deliver_of l m).words ≡ l
    go (Err why) p h = p
    go (Ok Pending) p h = absurd (h refl)
    go (Ok (Applied q n)) p h = absurd (h refl)

-- what tells answers apart
abbrev Told : Answer → Type 0
Told (Err why) = Unit {0}
Told (Ok Pending) = Unit {0}
Told (Ok (Applied p n)) = 1 ≤ p

told : (l m : List ℕ) → Told (deliver_of l m).answer
told l m = go (deliver_of l m).answer refl
  where
    go : (a : Answer) → (deliver_of l m).answer ≡ a → Told a
    go (Err why) e = tt
    go (Ok Pending) e = tt
    go (Ok (Applied p n)) e = (outcomes.counts l m p n e).some_passed

apart : (a b : Answer) → Told a → Told b → record_of a ≡ record_of b → a ≡ b
apart (Err x) (Err y) h g e = ap Err (number_same x y (ap (λ (r : AnswerRecord). r.number) e))
apart (Err x) (Ok Pending) h g e = absurd (omega (arith, number_positive x, ap (λ (r : AnswerRecord). r.number) e))
apart (Err x) (Ok (Applied p k)) h g e = absurd (omega (arith, number_positive x, ap (λ (r : AnswerRecord). r.number) e))
apart (Ok Pending) (Err y) h g e = absurd (omega (arith, number_positive y, ap (λ (r : AnswerRecord). r.number) e))
apart (Ok Pending) (Ok Pending) h g e = refl
apart (Ok Pending) (Ok (Applied p k)) h g e = let z : 0 ≡ p = ap (λ (r : AnswerRecord). r.passed) e in absurd (omega (arith, z, g))
apart (Ok (Applied p n)) (Err y) h g e = absurd (omega (arith, number_positive y, ap (λ (r : AnswerRecord). r.number) e))
apart (Ok (Applied p n)) (Ok Pending) h g e = let z : p ≡ 0 = ap (λ (r : AnswerRecord). r.passed) e in absurd (omega (arith, z, h))
apart (Ok (Applied p n)) (Ok (Applied q k)) h g e = ap (λ (r : AnswerRecord). Ok (Applied r.passed r.noops)) e

pub record_tells : (l m k n : List ℕ) → record_of (deliver_of l m).answer ≡ record_of (deliver_of k n).answer → (deliver_of l m).answer ≡ (deliver_of k n).answer
record_tells l m k n e = apart (deliver_of l m).answer (deliver_of k n).answer (told l m) (told k n) e
