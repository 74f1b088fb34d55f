-- Nothing waits for good (paper 02, A11): a replica that is given every version up to a target comes to it, whatever came early, twice or
-- in between; and one that is behind lacks the very next version. Beside demand 3, over the same calls. Statements only.
use Rattle.std.specs.Prelude.{◌≡◌, ℕ, suc, ◌+◌, ◌≤◌, ◌<◌, Bool, true, List, [], length, get_or}
use Rattle.std.proofs.Math.Option.{none}
use Rattle.refusal.specs.Numbers.{refused}
use Rattle.lists.specs.Lists.{any}
use Rattle.table_rules.specs.Operations.{find}
use Rattle.table_words.specs.Words.{version_of}
use Rattle.replica.specs.Replica.{view}
use Rattle.replica.specs.Valid.{valid_of}
use Rattle.replica.specs.Deliver.{Answer}
use Rattle.replay.specs.Progress.{is_operation_of}
use Rattle.demand.specs.Calls.{Call, in_turn, replica_left, all_answers}

-- an operation of version v, not refused by 1 to 10, is among the messages of the calls; a batch that is refused whole has none
abbrev pub delivers : ℕ → List Call → Bool
delivers v cs = any (is_operation_of v) (in_turn cs)

-- the statement, of any way to make calls: from the words before them to those that they leave
abbrev pub Reaches : (List ℕ → List Call → List ℕ) → Type 0
Reaches left =
    -- from a valid replica, whatever is pending in it, and for a target at most 32 above its version
    (l : List ℕ) (target : ℕ) (cs : List Call) → valid_of l ≡ true → target ≤ version_of l + 32
    -- where every version above its own and up to the target is delivered
    → ((v : ℕ) → version_of l < v → v ≤ target → delivers v cs ≡ true)
    -- the replica ends at the target or above
    → target ≤ version_of (left l cs)

-- version v was not pending in the replica, and each operation of it that came was refused with 15: it was more than 32 above the replica then
pub record Lacks (l : List ℕ) (cs : List Call) (v : ℕ) : Type 0 where
  pub not_pending : find v (view l).pending ≡ none
  pub too_early : (k : ℕ) (d : Answer) → k < length (in_turn cs) → is_operation_of v (get_or (in_turn cs) k []) ≡ true
      → get_or (all_answers l cs) k d ≡ refused 15

pub record NothingWaits : Type 0 where
  pub reaches : Reaches replica_left
  -- what a replica waits for: the version right above the one that it ends at, wherever that is
  pub lacks_the_next : (l : List ℕ) (cs : List Call) → valid_of l ≡ true → Lacks l cs (suc (version_of (replica_left l cs)))
