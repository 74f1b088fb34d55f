-- What holds of every delivery (paper 01, "The station", "Numbers a call may answer", "Cases on each side"). Statements only.
use Rattle.std.specs.Prelude.{◌≡◌, ℕ, ◌≤◌, true, List, Ok}
use Rattle.byte_words.specs.Bytes.{AllBytes}
use Rattle.table_rules.specs.Operations.{same_operation}
use Rattle.operations.specs.Received.{operation_in}
use Rattle.table_words.specs.Words.{fresh_words, version_of}
use Rattle.replica.specs.declared.Delivery.TheVariants.{Applied}
use Rattle.replica.specs.Valid.{valid_of}
use Rattle.replica.specs.Deliver.{refusal, deliver_of}

-- versions passed are 1 to 32, and no-ops at most as many
pub record CountsOf (passed noops : ℕ) : Type 0 where
  pub some_passed : 1 ≤ passed
  pub few_passed : passed ≤ 32
  pub few_noops : noops ≤ passed

pub record Outcomes : Type 0 where
  -- the counts of an applied answer
  pub counts : (l m : List ℕ) (passed noops : ℕ) → (deliver_of l m).answer ≡ Ok (Applied passed noops) → CountsOf passed noops
  -- two messages that read to operations with equal kept fields have the same outcome: nothing else of a message counts
  pub kept_decides : (l a b : List ℕ) → (operation_in a).number ≡ 0 → (operation_in b).number ≡ 0
      → same_operation (operation_in a).operation (operation_in b).operation ≡ true → deliver_of l a ≡ deliver_of l b
  -- at version 4,294,967,295 every operation is 14
  pub last_version : (l m : List ℕ) → AllBytes m → valid_of l ≡ true → version_of l ≡ 4294967295 → (operation_in m).number ≡ 0
      → deliver_of l m ≡ refusal 14 l
  -- the fresh replica is valid
  pub fresh_valid : valid_of fresh_words ≡ true
