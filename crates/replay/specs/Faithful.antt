-- What the words of the replay mean (paper 01, "The replay"), said of its definitions: the watermark, acceptance, and equal kept fields.
use Rattle.std.specs.Prelude.{◌≡◌, ℕ, ◌≤◌, ◌<◌, true, List, [], ◌∷◌}
use Rattle.std.proofs.Math.Option.{none, some}
use Rattle.table_rules.specs.Operations.{Operation}
use Rattle.table_rules.specs.NameTable.{NameTable}
use Rattle.table_rules.specs.Operations.{same_operation, find}
use Rattle.operations.specs.Received.{operation_in}
use Rattle.replay.specs.Replay.{message_no, accepted_after, accepted_of, watermark_of}

-- strictly rising by version, each above lo
abbrev pub Rising : ℕ → List Operation → Type 0
Rising lo [] = Unit {0}
Rising lo (o ∷ os) = (lo < o.version) × Rising o.version os

-- an operation of version v is among them
abbrev pub Has : ℕ → List Operation → Type 0
Has v os = (o : Operation) × (find v os ≡ some o)

-- from c up to n no version is missing, and n + 1 is missing; n is c where c + 1 is missing
pub record IsWatermark (c : ℕ) (os : List Operation) (n : ℕ) : Type 0 where
  pub from_start : c ≤ n
  pub none_missing : (v : ℕ) → c < v → v ≤ n → Has v os
  pub largest : (k : ℕ) → c ≤ k → ((v : ℕ) → c < v → v ≤ k → Has v os) → k ≤ n

-- acceptance adds one operation under its version, which was missing, and leaves every other version as it is
pub record IsAccepted (op : Operation) (before after : List Operation) : Type 0 where
  pub was_missing : find op.version before ≡ none
  pub is_there : find op.version after ≡ some op
  pub others_stay : (v : ℕ) → ¬ (op.version ≡ v) → find v after ≡ find v before

pub record Faithful : Type 0 where
  pub accepted_rise : (t : NameTable) (ms : List (List ℕ)) → Rising t.version (accepted_of t ms)
  pub watermark_is : (t : NameTable) (ms : List (List ℕ)) → IsWatermark t.version (accepted_of t ms) (watermark_of t ms)
  pub accepted_is : (t : NameTable) (accepted : List Operation) (m : List ℕ) → message_no t accepted m ≡ 0
      → IsAccepted (operation_in m).operation accepted (accepted_after t accepted m)
  -- operations with the same kept fields are equal, and equal ones have the same
  pub same_is_equal : (a b : Operation) → same_operation a b ≡ true → a ≡ b
  pub equal_is_same : (a b : Operation) → a ≡ b → same_operation a b ≡ true
