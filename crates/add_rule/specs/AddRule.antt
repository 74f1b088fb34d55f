-- Paper 02, A6: that an added entry's version stands in an entry already never comes about, and without that condition nothing changes.
-- Statements only.
use Rattle.std.specs.Prelude.{◌≡◌, ℕ, ◌<◌, Bool, true, false, not, List, [], Ok, length}
use Rattle.lists.specs.Lists.{every, passing}
use Rattle.table_rules.specs.Operations.{Operation}
use Rattle.table_rules.specs.NameTable.{NameTable, is_noop}
use Rattle.table_rules.specs.Valid.{valid_table}
use Rattle.replica.specs.declared.Delivery.TheVariants.{Applied}
use Rattle.replica.specs.Valid.{valid_of}
use Rattle.replica.specs.Deliver.{deliver_of}
use Rattle.replay.specs.Replay.{accepted_of, answers_of, table_after}
use Rattle.demand.specs.Calls.{Call}
use Rattle.add_rule.specs.OldRule.{has_version, old_noop}
use Rattle.add_rule.specs.ByRule.{Rule, deliver_by, table_at_by, answers_by}
use Rattle.add_rule.specs.Steps.{Step, steps_of, all_steps}

-- ---- it never comes about

-- no entry has the operation's version, whatever the operation does: it may add a player or a group
abbrev pub is_new : Step → Bool
is_new s = not (has_version s.operation.version s.table.entries)

abbrev pub is_noop_step : Step → Bool
is_noop_step s = is_noop s.table s.operation

-- as many steps as versions passed, and as many no-ops among them
pub record StepsTold (steps : List Step) (passed noops : ℕ) : Type 0 where
  pub as_many : length steps ≡ passed
  pub noops_as_many : length (passing is_noop_step steps) ≡ noops

pub record VersionsNew : Type 0 where
  -- of a valid name table: every version above its own is new to its entries
  pub above_all : (t : NameTable) (v : ℕ) → valid_table t ≡ true → t.version < v → has_version v t.entries ≡ false
  -- from a valid replica: so is the version of every operation that calls apply, delivered or drained, by themselves and in batches
  pub all_new : (l : List ℕ) (cs : List Call) → valid_of l ≡ true → every is_new (all_steps l cs) ≡ true
  -- the steps of a delivery are all that it applies
  pub steps_told : (l m : List ℕ) (passed noops : ℕ) → (deliver_of l m).answer ≡ Ok (Applied passed noops) → StepsTold (steps_of l m) passed noops

-- ---- nothing changes

-- by this rule all is as by the rule in force. The deliveries are equal as functions, of any words and any message: so is all that is made
-- of them, a run, a batch, demand 3. The replay is equal from every valid starting name table
pub record SameAs (r : Rule) : Type 0 where
  pub deliveries : deliver_by r ≡ deliver_of
  pub replay_tables : (t : NameTable) (ms : List (List ℕ)) → valid_table t ≡ true → table_at_by r t (accepted_of t ms) ≡ table_after t ms
  pub replay_answers : (t : NameTable) (ms : List (List ℕ)) → valid_table t ≡ true → answers_by r t [] ms ≡ answers_of t ms

pub record RulesAgree : Type 0 where
  -- of an operation above the version of a valid name table both rules say the same
  pub same_noops : (t : NameTable) (op : Operation) → valid_table t ≡ true → t.version < op.version → old_noop t op ≡ is_noop t op
  -- the definitions by a rule are those in force, by the rule in force; and by the old rule
  pub in_force : SameAs is_noop
  pub as_before : SameAs old_noop
