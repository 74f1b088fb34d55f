-- Over whole lists of messages (paper 02, A11): what was accepted, or came at most 32 above the start, is accepted in the end, so that it is
-- not the version right above the watermark. A valid replica stands for its own pending operations, and its version is the watermark.
use mathlib.Core.Path.{◌≡◌, refl, ap, ◌∙◌}
use Prim.Native.Nat.{ℕ, zero, suc, ◌+◌, ◌≤◌, ◌<◌}
use native.Mathlib.Nat.{not-suc-le-zero, le_of_suc-le-suc}
use native.Mathlib.Omega.{arith}
use mathlib.Core.Bool.{Bool, true, false, ◌||◌}
use mathlib.Core.List.{List, [], ◌∷◌}
use mathlib.Core.Option.{Option, none, some}
use lib.ListN.{length, get_or}
use lib.Dec.{eqb, leb}
use borrow.Author.Tests.{eqb-true, leb-true, leb-false, lt-leb, lt-ltb}
use Rattle.lists.specs.Lists.{any}
use Rattle.lists.proofs.ListLaws.{and_l, and_r}
use Rattle.table_rules.specs.Operations.{Operation, find}
use Rattle.table_rules.specs.NameTable.{NameTable}
use Rattle.operations.specs.Received.{operation_in}
use Rattle.table_words.specs.Words.{table_of, version_of}
use Rattle.replica.specs.Replica.{Model, view}
use Rattle.refusal.specs.Numbers.{refused}
use Rattle.replica.specs.Valid.{valid_of}
use Rattle.replica.specs.Deliver.{Answer, operation_no, refusal, accepted_by, delivered_read, deliver_of}
use Rattle.replay.specs.Replay.{watermark, accepted_after, accepted_from}
use Rattle.replay.specs.Faithful.{Has}
use Rattle.replay.specs.Run.{replica_after, answers_given}
use Rattle.replay.specs.Progress.{is_operation_of}
use Rattle.replay.proofs.RunLaws.{watermark_le}
use Rattle.replay.proofs.WatermarkLaws.{next_missing}
use Rattle.replay.proofs.ArrivalLaws.{stays, comes}
use Rattle.replay.proofs.StepLaws.{model_version}
use Rattle.replay.proofs.AcceptedLaws.{Accepted, accept_accepted, all_accepted}
use Rattle.replay.proofs.DeliverLaws.{followed, own_table, own_follows, own_accepted}
use Rattle.replay.proofs.StatementProof.{stays_valid}

is_operation : (v : ℕ) (m : List ℕ) → is_operation_of v m ≡ true → ((operation_in m).number ≡ 0) × ((operation_in m).operation.version ≡ v)
unfolding is_operation_of
is_operation v m h =
    let read : Bool = eqb (operation_in m).number 0 in
    let same : Bool = eqb (operation_in m).operation.version v in
    (eqb-true (operation_in m).number 0 (and_l read same h), eqb-true (operation_in m).operation.version v (and_r read same h))

-- ---- the replay, from any accepted list

all_stay : (t : NameTable) (acc : List Operation) (v : ℕ) (ms : List (List ℕ)) → Has v acc → Has v (accepted_from t acc ms)
unfolding accepted_from
all_stay t acc v [] h = h
all_stay t acc v (m ∷ ms) h = all_stay t (accepted_after t acc m) v ms (stays t acc v m h)

all_come : (t : NameTable) (acc : List Operation) (v : ℕ) (ms : List (List ℕ)) → Accepted t acc → t.version < v → v ≤ t.version + 32
    → any (is_operation_of v) ms ≡ true → Has v (accepted_from t acc ms)
unfolding accepted_from any
all_come t acc v [] a lo hi h = absurd (let z : ◌≡◌ {A = ℕ} 0 1 = cc in omega arith)
all_come t acc v (m ∷ ms) a lo hi h = go (is_operation_of v m) refl (all_come t (accepted_after t acc m) v ms (accept_accepted t acc a m) lo hi) h
  where
    go : (b : Bool) → is_operation_of v m ≡ b → (any (is_operation_of v) ms ≡ true → Has v (accepted_from t (accepted_after t acc m) ms))
        → b || any (is_operation_of v) ms ≡ true → Has v (accepted_from t (accepted_after t acc m) ms)
    go true e ih k =
        let is = is_operation v m e in
        all_stay t (accepted_after t acc m) v ms (comes t acc v m is.0 is.1 a.rises lo hi)
    go false e ih k = ih k

-- ---- any valid replica

module _ (l : List ℕ) (ms : List (List ℕ)) (h : valid_of l ≡ true) where
  abbrev end : ℕ
  end = version_of (replica_after l ms)

  abbrev held : List Operation
  held = (view l).pending

  abbrev accepted : List Operation
  accepted = accepted_from (table_of l) held ms

  ends : end ≡ watermark (version_of l) accepted
  unfolding view table_of
  ends =
      ap (λ (m : Model). m.table.version) (followed (table_of l) held l ms (own_table l h) (own_accepted l h) (own_follows l h)).follows.shows
      ∙ model_version (table_of l) accepted

  -- the next version is not among the accepted
  not_accepted : Has (suc end) accepted → ⊥
  unfolding table_of
  not_accepted there =
      let missing : find (suc end) accepted ≡ none =
      rw ends (next_missing (version_of l) accepted (all_accepted (table_of l) held ms (own_accepted l h)).rises) in
      let z : ◌≡◌ {A = ℕ} 0 1 = cc there.1 in omega arith

  never_falls : version_of l ≤ end
  never_falls = rw ends (watermark_le (version_of l) accepted)

  pub next_not_pending : find (suc end) held ≡ none
  next_not_pending = go (find (suc end) held) refl
    where
      go : (f : Option Operation) → find (suc end) held ≡ f → f ≡ none
      go none e = refl
      go (some o) e = absurd (not_accepted (all_stay (table_of l) held (suc end) ms (o, e)))

  pub next_not_delivered : end < version_of l + 32 → any (is_operation_of (suc end)) ms ≡ false
  unfolding table_of
  next_not_delivered near = go (any (is_operation_of (suc end)) ms) refl
    where
      go : (b : Bool) → any (is_operation_of (suc end)) ms ≡ b → b ≡ false
      go false e = refl
      go true e = absurd (not_accepted (all_come (table_of l) held (suc end) ms (own_accepted l h) (omega (arith, never_falls)) (omega arith) e))

  pub reaches : (target : ℕ) → target ≤ version_of l + 32 → ((v : ℕ) → version_of l < v → v ≤ target → any (is_operation_of v) ms ≡ true) → target ≤ end
  reaches target near all = go (leb target end) refl
    where
      go : (b : Bool) → leb target end ≡ b → target ≤ end
      go true e = leb-true target end e
      go false e =
          let below : end < target = leb-false target end e in
          let came = all (suc end) (omega (arith, never_falls)) below in
          let lacking = next_not_delivered (omega arith) in
          absurd (let z : ◌≡◌ {A = ℕ} 0 1 = cc (came, lacking) in omega arith)

-- ---- what came of the next version was too early

-- an operation more than 32 above a valid replica is refused with 15
too_early : (l m : List ℕ) → valid_of l ≡ true → (operation_in m).number ≡ 0 → version_of l + 32 < (operation_in m).operation.version
    → (deliver_of l m).answer ≡ refused 15
unfolding deliver_of delivered_read accepted_by operation_no refusal view table_of
too_early l m h r far =
    let v : ℕ = (operation_in m).operation.version in
    let past : leb v (version_of l) ≡ false = lt-leb v (version_of l) (omega arith) in
    rw (h, r, past, lt-ltb (version_of l + 32) v far)

pub next_too_early : (l : List ℕ) (ms : List (List ℕ)) → valid_of l ≡ true → (k : ℕ) (d : Answer) → k < length ms
    → is_operation_of (suc (version_of (replica_after l ms))) (get_or ms k []) ≡ true → get_or (answers_given l ms) k d ≡ refused 15
unfolding replica_after answers_given any
next_too_early l [] h k d in_List is = absurd (not-suc-le-zero in_List)
next_too_early l (m ∷ ms) h (suc k) d in_List is = next_too_early (deliver_of l m).words ms (stays_valid l m h) k d (le_of_suc-le-suc in_List) is
next_too_early l (m ∷ ms) h zero d in_List is = go (leb next (version_of l + 32)) refl
  where
    next : ℕ
    next = suc (version_of (replica_after l (m ∷ ms)))

    go : (b : Bool) → leb next (version_of l + 32) ≡ b → (deliver_of l m).answer ≡ refused 15
    go true e =
        let lacking : is_operation_of next m || any (is_operation_of next) ms ≡ false = next_not_delivered l (m ∷ ms) h (leb-true next (version_of l + 32) e) in
        absurd (let z : ◌≡◌ {A = ℕ} 0 1 = cc (rw is at lacking) in omega arith)
    go false e =
        let i = is_operation next m is in
        too_early l m h i.0 (omega (arith, i.1, leb-false next (version_of l + 32) e))
