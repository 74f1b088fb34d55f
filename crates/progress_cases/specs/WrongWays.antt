-- Three wrong ways to deliver (paper 01, "Easy to get wrong"), and that the statement of paper 02, A11, rules each of them out.
use Rattle.std.specs.Prelude.{ℕ, suc, ◌+◌, cond, List, [], ◌∷◌, ◌++◌, take, drop, eqb, ltb}
use Rattle.table_words.specs.Words.{version_of, table_of}
use Rattle.operations.specs.Received.{operation_in}
use Rattle.replica.specs.Replica.{view, pack}
use Rattle.replica.specs.Deliver.{drain, deliver_of}
use Rattle.demand.specs.Calls.{Call, in_turn}
use Rattle.demand.specs.Progress.{Reaches}

-- the words that a message leaves
abbrev pub Way : Type 0
Way = List ℕ → List ℕ → List ℕ

abbrev pub in_force : Way
in_force l m = (deliver_of l m).words

-- the version of its operation; 0 where it has none
abbrev pub version_in : List ℕ → ℕ
version_in m = (operation_in m).operation.version

-- a window of 31: the version 32 above is refused
abbrev pub narrow : Way
narrow l m = cond (ltb (version_of l + 31) (version_in m)) l (deliver_of l m).words

-- an operation that comes early is dropped
abbrev pub drops_early : Way
drops_early l m = cond (ltb (suc (version_of l)) (version_in m)) l (deliver_of l m).words

-- after the operation of the next version at most one that is pending is applied
abbrev pub drains_one : Way
drains_one l m =
    let d = drain (table_of l) ((operation_in m).operation ∷ take 1 (view l).pending) in
    cond (eqb (version_in m) (suc (version_of l)))
    (pack (record { table = d.table; pending = d.pending ++ drop 1 (view l).pending }))
    (deliver_of l m).words

-- the messages of the calls, one after the other
unfoldable pub each_by : Way → List ℕ → List (List ℕ) → List ℕ
each_by way l [] = l
each_by way l (m ∷ ms) = each_by way (way l m) ms

abbrev pub left_by : Way → List ℕ → List Call → List ℕ
left_by way l cs = each_by way l (in_turn cs)

-- deliveries as they are meet the statement, and no wrong way does
pub record WrongWays : Type 0 where
  pub in_force_law : Reaches (left_by in_force)
  pub window_of_31 : ¬ Reaches (left_by narrow)
  pub early_dropped : ¬ Reaches (left_by drops_early)
  pub one_drained : ¬ Reaches (left_by drains_one)
