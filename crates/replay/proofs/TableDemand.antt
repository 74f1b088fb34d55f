-- Demand 3 on name tables (paper 01, "The replay"): a replica is its replay, over the whole list of messages; and two replicas that
-- were told the same have the same name table.
use mathlib.Core.Path.{◌≡◌}
use Prim.Native.Nat.{ℕ, ◌≤◌, ◌<◌}
use mathlib.Core.Bool.{true}
use mathlib.Core.List.{List, map}
use Rattle.table_rules.specs.NameTable.{NameTable}
use Rattle.table_rules.specs.Operations.{find}
use Rattle.table_rules.specs.Valid.{valid_table}
use Rattle.table_words.specs.Words.{version_of, table_of}
use Rattle.replica.specs.Replica.{at_start, view, pack}
use Rattle.replica.specs.Valid.{valid_of}
use Rattle.replica.specs.Deliver.{next_host_answer}
use Rattle.replay.specs.Replay.{accepted_of, answers_of, watermark_of, table_after, unreached_of}
use Rattle.replay.specs.Run.{replica_after, answers_given, as_replayed}

-- a replica at its start: a name table, and nothing pending
unfoldable pub start_of : NameTable → List ℕ
start_of t = pack (at_start t)

-- the replica after the messages, from a starting name table
abbrev pub after : NameTable → List (List ℕ) → List ℕ
after t ms = replica_after (start_of t) ms

-- one replica: its name table, version, answers and pending operations are the replay's. It is valid in the end, so 28 never came
pub record Replayed (t : NameTable) (ms : List (List ℕ)) : Type 0 where
  pub table_is : table_of (after t ms) ≡ table_after t ms
  pub version_is : version_of (after t ms) ≡ watermark_of t ms
  pub answers_are : map as_replayed (answers_given (start_of t) ms) ≡ answers_of t ms
  pub pending_are : (view (after t ms)).pending ≡ unreached_of t ms
  pub stays_valid : valid_of (after t ms) ≡ true

-- two replicas with equal starting name tables and the same version, and the same accepted operations up to it
pub record ToldTheSame (t u : NameTable) (ms ns : List (List ℕ)) : Type 0 where
  pub same_start : t ≡ u
  pub same_version : version_of (after t ms) ≡ version_of (after u ns)
  pub same_accepted : (v : ℕ) → t.version < v → v ≤ version_of (after t ms) → find v (accepted_of t ms) ≡ find v (accepted_of u ns)

pub record Agreed (r s : List ℕ) : Type 0 where
  pub same_table : table_of r ≡ table_of s
  pub same_next_host : next_host_answer r ≡ next_host_answer s

-- for every valid starting name table and every list of messages, whatever their bytes
pub record Demand3 : Type 0 where
  pub replays : (t : NameTable) → valid_table t ≡ true → (ms : List (List ℕ)) → Replayed t ms
  pub agrees : (t u : NameTable) → valid_table t ≡ true → (ms ns : List (List ℕ)) → ToldTheSame t u ms ns → Agreed (after t ms) (after u ns)
