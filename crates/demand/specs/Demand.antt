-- Demand 3, whole (paper 01, "The replay"; paper 02, A2): starts of every kind, deliveries and batches of any bytes in any mixture, lent
-- buffers of any length and content.
use Rattle.std.specs.Prelude.{◌≡◌, ℕ, ◌+◌, ◌≤◌, ◌<◌, true, cond, List, ◌++◌, Ok, map, length, drop, eqb}
use Rattle.refusal.specs.Numbers.{refused}
use Rattle.table_rules.specs.NameTable.{NameTable, empty_table, next_host_of}
use Rattle.table_rules.specs.Operations.{find}
use Rattle.table_words.specs.Words.{fresh_words, version_of, table_of}
use Rattle.replica.specs.Replica.{view}
use Rattle.replica.specs.Valid.{valid_of}
use Rattle.replica.specs.Deliver.{next_host_answer}
use Rattle.snapshot_bytes.specs.Snapshot.{table_size, snapshot_of, stated_table, snapshot_no}
use Rattle.snapshot.specs.Saved.{loaded_of, saved_of, saved_buffer}
use Rattle.replay.specs.Replay.{accepted_of, answers_of, watermark_of, table_after, unreached_of}
use Rattle.replay.specs.Run.{as_replayed}
use Rattle.demand.specs.Calls.{Call, in_turn, replica_left, all_answers}

-- where a replica starts: fresh, or from any bytes, read as a snapshot
pub data Start : Type 0 where
  fresh : Start
  snapshot : (bytes : List ℕ) → Start

-- the words that the calls leave there
unfoldable pub start_words : Start → List ℕ
start_words fresh = fresh_words
start_words (snapshot bytes) = (loaded_of bytes).words

-- the starting name table: the one that the snapshot states; for a fresh replica or a refused snapshot, version 0 and nothing in it
unfoldable pub start_table : Start → NameTable
start_table fresh = empty_table
start_table (snapshot bytes) = cond (eqb (snapshot_no bytes) 0) (stated_table bytes) empty_table

-- the words after the calls
abbrev pub reached : Start → List Call → List ℕ
reached s cs = replica_left (start_words s) cs

-- one replica is the replay of its messages
pub record OneReplica (s : Start) (cs : List Call) : Type 0 where
  pub table_is : table_of (reached s cs) ≡ table_after (start_table s) (in_turn cs)
  pub version_is : version_of (reached s cs) ≡ watermark_of (start_table s) (in_turn cs)
  pub answers_are : map as_replayed (all_answers (start_words s) cs) ≡ answers_of (start_table s) (in_turn cs)
  pub pending_are : (view (reached s cs)).pending ≡ unreached_of (start_table s) (in_turn cs)
  pub stays_valid : valid_of (reached s cs) ≡ true

-- two replicas from equal starting name tables, at the same version, with the same operations accepted up to it
pub record Alike (s u : Start) (cs ds : List Call) : Type 0 where
  pub same_start : start_table s ≡ start_table u
  pub same_version : version_of (reached s cs) ≡ version_of (reached u ds)
  pub same_accepted : (v : ℕ) → (start_table s).version < v → v ≤ version_of (reached s cs)
      → find v (accepted_of (start_table s) (in_turn cs)) ≡ find v (accepted_of (start_table u) (in_turn ds))

-- what writing the snapshot bs does to each buffer: too short, 27 and nothing touched; else the bytes at its front and the rest as it was
pub record Saves (bs : List ℕ) (l : List ℕ) : Type 0 where
  pub short_answer : (d : List ℕ) → length d < length bs → saved_of l (length d) ≡ refused 27
  pub short_buffer : (d : List ℕ) → length d < length bs → saved_buffer l d ≡ d
  pub answer : (d : List ℕ) → length bs ≤ length d → saved_of l (length d) ≡ Ok (length bs)
  pub buffer : (d : List ℕ) → length bs ≤ length d → saved_buffer l d ≡ bs ++ drop (length bs) d

-- such two name the same next host, that of the replay's name table t, and write the same bytes, its snapshot of N + 4 bytes
pub record SameOutcome (t : NameTable) (l k : List ℕ) : Type 0 where
  pub first_next_host : next_host_answer l ≡ Ok (next_host_of t)
  pub second_next_host : next_host_answer k ≡ Ok (next_host_of t)
  pub long : length (snapshot_of t) ≡ table_size t + 4
  pub first_saves : Saves (snapshot_of t) l
  pub second_saves : Saves (snapshot_of t) k

pub record WholeDemand : Type 0 where
  pub replays : (s : Start) (cs : List Call) → OneReplica s cs
  pub agrees : (s u : Start) (cs ds : List Call) → Alike s u cs ds
      → SameOutcome (table_after (start_table s) (in_turn cs)) (reached s cs) (reached u ds)
