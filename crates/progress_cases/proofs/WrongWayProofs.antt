-- Deliveries as they are reach the target, by any calls; each wrong way ends short of one.
use mathlib.Core.Path.{◌≡◌, refl}
use Prim.Native.Nat.{ℕ}
use native.Mathlib.Omega.{arith}
use mathlib.Core.List.{List, [], ◌∷◌}
use Rattle.replica.specs.Deliver.{deliver_of}
use Rattle.replay.specs.Run.{replica_after}
use Rattle.demand.specs.Calls.{in_turn}
use Rattle.demand.specs.Progress.{Reaches}
use Rattle.demand.proofs.CallLaws.{left_is}
use Rattle.demand.proofs.ProgressProof.{nothing_waits}
use Rattle.progress_cases.specs.Cases.{falling}
use Rattle.progress_cases.specs.WrongWays.{in_force, narrow, drops_early, drains_one, each_by, left_by, WrongWays}
use Rattle.progress_cases.proofs.ShortRuns.{refuted}
use Rattle.progress_cases.proofs.CaseProofs.{computed}

each_is : (l : List ℕ) (ms : List (List ℕ)) → each_by in_force l ms ≡ replica_after l ms
unfolding each_by replica_after
each_is l [] = refl
each_is l (m ∷ ms) = each_is (deliver_of l m).words ms

in_force_law : Reaches (left_by in_force)
in_force_law l target cs h near all = rw (each_is l (in_turn cs), ← left_is l cs h) (nothing_waits.reaches l target cs h near all)

pub wrong_ways : WrongWays
wrong_ways = record {
  in_force_law = in_force_law;
  window_of_31 = refuted narrow 32 (falling 5 32) (omega arith) computed.window_of_31;
  early_dropped = refuted drops_early 2 (7 ∷ 6 ∷ []) (omega arith) computed.early_dropped;
  one_drained = refuted drains_one 3 (8 ∷ 7 ∷ 6 ∷ []) (omega arith) computed.one_drained;
}
