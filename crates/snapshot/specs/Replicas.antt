-- What holds of the snapshots of replicas (paper 01, "The sheet"). Statements only. The words of a replica have 32 bits.
use Rattle.std.specs.Prelude.{◌≡◌, ℕ, true, List}
use Rattle.byte_words.specs.Bytes.{AllWords}
use Rattle.table_words.specs.Words.{table_of}
use Rattle.replica.specs.Replica.{pack, at_start}
use Rattle.replica.specs.Valid.{valid_of}
use Rattle.snapshot_bytes.specs.Snapshot.{snapshot_of}
use Rattle.snapshot.specs.Saved.{loaded_of}

-- the snapshot of a replica, which writing puts into the buffer
abbrev pub snapshot_in : List ℕ → List ℕ
snapshot_in l = snapshot_of (table_of l)

pub record ReplicaSnapshots : Type 0 where
  -- two valid replicas have the same snapshot exactly when version, host, entries and memberships are equal
  pub same_table : (l k : List ℕ) → AllWords l → AllWords k → valid_of l ≡ true → valid_of k ≡ true
      → snapshot_in l ≡ snapshot_in k → table_of l ≡ table_of k
  pub same_bytes : (l k : List ℕ) → table_of l ≡ table_of k → snapshot_in l ≡ snapshot_in k
  -- reading what was written of a valid replica gives its name table with nothing pending
  pub read_back : (l : List ℕ) → AllWords l → valid_of l ≡ true
      → loaded_of (snapshot_in l) ≡ record { number = 0; words = pack (at_start (table_of l)) }
