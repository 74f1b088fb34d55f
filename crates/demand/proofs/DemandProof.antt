-- Demand 3, whole: every start is a valid name table with nothing pending, so the theorem on name tables applies; snapshots and next host follow from equal tables.
use mathlib.Core.Path.{◌≡◌, refl, sym, ap, ◌∙◌}
use Prim.Native.Nat.{ℕ, ◌+◌, ◌≤◌}
use mathlib.Core.Bool.{Bool, true, false, cond}
use mathlib.Core.List.{List, [], ◌++◌}
use lib.ListN.{length, drop}
use lib.Dec.{eqb}
use Rattle.std.specs.Prelude.{Ok}
use native.Mathlib.Omega.{arith}
use borrow.Author.Tests.{eqb-true}
use Rattle.byte_words.specs.Bytes.{put}
use Rattle.byte_words.proofs.ByteLaws.{put_fits}
use Rattle.table_rules.specs.NameTable.{NameTable, empty_table, next_host_of}
use Rattle.table_rules.specs.Valid.{valid_table}
use Rattle.table_words.specs.Words.{table_of, fresh_words}
use Rattle.replica.specs.Replica.{pack, at_start}
use Rattle.replica.specs.Valid.{valid_of}
use Rattle.replica.specs.Deliver.{next_host_answer}
use Rattle.replay.specs.Replay.{table_after}
use Rattle.snapshot_bytes.specs.Snapshot.{snapshot_of, stated_table, snapshot_no}
use Rattle.snapshot_bytes.proofs.SnapshotProofs.{snapshots}
use Rattle.snapshot.specs.Saved.{Load, loaded_of}
use Rattle.snapshot.proofs.SaveLaws.{short_27, written}
use Rattle.replay.specs.Run.{replica_after, answers_given}
use Rattle.replay.proofs.TableDemand.{start_of, after, Replayed, ToldTheSame}
use Rattle.demand.specs.Calls.{Call, in_turn, all_answers}
use Rattle.demand.proofs.CallLaws.{left_is, all_is}
use Rattle.demand.specs.Demand.{Start, fresh, snapshot, start_words, start_table, reached, OneReplica, Alike, Saves, SameOutcome, WholeDemand}
use Rattle.replica.proofs.PackLaws.{empty_table_law, fresh_pack}
use Rattle.replay.proofs.StatementProof.{demand3}

-- ---- starts

start_by : (bytes : List ℕ) (b : Bool)
    → (cond {A = Load} b (record { number = 0; words = pack (at_start (stated_table bytes)) }) (record { number = snapshot_no bytes; words = fresh_words })).words
    ≡ start_of (cond b (stated_table bytes) empty_table)
unfolding start_of
start_by bytes true = refl
start_by bytes false = fresh_pack

pub start_is : (s : Start) → start_words s ≡ start_of (start_table s)
unfolding start_words start_table loaded_of start_of
start_is fresh = fresh_pack
start_is (snapshot bytes) = start_by bytes (eqb (snapshot_no bytes) 0)

stated_valid : (bytes : List ℕ) (b : Bool) → eqb (snapshot_no bytes) 0 ≡ b → valid_table (cond b (stated_table bytes) empty_table) ≡ true
stated_valid bytes true e = snapshots.accepted_valid bytes (eqb-true (snapshot_no bytes) 0 e)
stated_valid bytes false e = empty_table_law

start_valid : (s : Start) → valid_table (start_table s) ≡ true
unfolding start_table
start_valid fresh = empty_table_law
start_valid (snapshot bytes) = stated_valid bytes (eqb (snapshot_no bytes) 0) refl

-- ---- one replica

-- of messages delivered one by one
pub from_start : (s : Start) (ms : List (List ℕ)) → Replayed (start_table s) ms
from_start s ms = demand3.replays (start_table s) (start_valid s) ms

valid_start : (s : Start) → valid_of (start_words s) ≡ true
unfolding replica_after
valid_start s = rw (start_is s) (from_start s []).stays_valid

-- the calls are their messages in turn
left : (s : Start) (cs : List Call) → reached s cs ≡ after (start_table s) (in_turn cs)
left s cs = left_is (start_words s) cs (valid_start s) ∙ ap (λ (l : List ℕ). replica_after l (in_turn cs)) (start_is s)

given : (s : Start) (cs : List Call) → all_answers (start_words s) cs ≡ answers_given (start_of (start_table s)) (in_turn cs)
given s cs = all_is (start_words s) cs (valid_start s) ∙ ap (λ (l : List ℕ). answers_given l (in_turn cs)) (start_is s)

one : (s : Start) (cs : List Call) → OneReplica s cs
one s cs =
    let r = from_start s (in_turn cs) in
    let e = left s cs in
    record {
      table_is = rw e r.table_is;
      version_is = rw e r.version_is;
      answers_are = rw (given s cs) r.answers_are;
      pending_are = rw e r.pending_are;
      stays_valid = rw e r.stays_valid;
    }

-- ---- two replicas

filled : (d bs : List ℕ) → length bs ≤ length d → put d 0 bs ≡ bs ++ drop (length bs) d
filled d bs h = let z : 0 + length bs ≡ length bs = omega arith in rw (put_fits d 0 bs (omega arith), z)

module _ (r : List ℕ) (v : valid_of r ≡ true) (t : NameTable) (e : table_of r ≡ t) where
  next_host : next_host_answer r ≡ Ok (next_host_of t)
  unfolding next_host_answer
  next_host = rw (v, e)

  saves : Saves (snapshot_of t) r
  saves =
      let b : snapshot_of (table_of r) ≡ snapshot_of t = ap snapshot_of e in
      record {
        short_answer = λ d h. sym (short_27 r d v (rw b h)).0;
        short_buffer = λ d h. sym (short_27 r d v (rw b h)).1;
        answer = λ d h. sym (written r d v (rw b h)).0 ∙ ap (λ (l : List ℕ). Ok (length l)) b;
        buffer = λ d h. sym (written r d v (rw b h)).1 ∙ ap (put d 0) b ∙ filled d (snapshot_of t) h;
      }

told : (s u : Start) (cs ds : List Call) → Alike s u cs ds → ToldTheSame (start_table s) (start_table u) (in_turn cs) (in_turn ds)
told s u cs ds a =
    let e = left s cs in
    let f = left u ds in
    record {
      same_start = a.same_start;
      same_version = rw (← e, ← f) a.same_version;
      same_accepted = λ v l m. a.same_accepted v l (rw e m);
    }

two : (s u : Start) (cs ds : List Call) → Alike s u cs ds → SameOutcome (table_after (start_table s) (in_turn cs)) (reached s cs) (reached u ds)
two s u cs ds a =
    let g = demand3.agrees (start_table s) (start_table u) (start_valid s) (in_turn cs) (in_turn ds) (told s u cs ds a) in
    let t = table_after (start_table s) (in_turn cs) in
    let first : table_of (reached s cs) ≡ t = (one s cs).table_is in
    let same : table_of (reached s cs) ≡ table_of (reached u ds) = rw (left s cs, left u ds) g.same_table in
    let second : table_of (reached u ds) ≡ t = sym same ∙ first in
    record {
      first_next_host = next_host (reached s cs) (one s cs).stays_valid t first;
      second_next_host = next_host (reached u ds) (one u ds).stays_valid t second;
      long = snapshots.long t;
      first_saves = saves (reached s cs) (one s cs).stays_valid t first;
      second_saves = saves (reached u ds) (one u ds).stays_valid t second;
    }

pub whole_demand : WholeDemand
whole_demand = record { replays = one; agrees = two }
