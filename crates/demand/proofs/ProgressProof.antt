-- Nothing waits for good: from a valid replica calls are their messages in turn, and of these it is a law of the replay.
use mathlib.Core.Path.{◌≡◌}
use Prim.Native.Nat.{ℕ, suc}
use mathlib.Core.Bool.{true}
use mathlib.Core.List.{List}
use Rattle.table_words.specs.Words.{version_of}
use Rattle.replica.specs.Valid.{valid_of}
use Rattle.replay.proofs.ProgressLaws as law
use Rattle.demand.specs.Calls.{Call, in_turn, replica_left}
use Rattle.demand.specs.Progress.{Reaches, Lacks, NothingWaits}
use Rattle.demand.proofs.CallLaws.{left_is, all_is}

reaches : Reaches replica_left
reaches l target cs h near all = rw (left_is l cs h) (law.reaches l (in_turn cs) h target near all)

lacks_the_next : (l : List ℕ) (cs : List Call) → valid_of l ≡ true → Lacks l cs (suc (version_of (replica_left l cs)))
lacks_the_next l cs h = record {
  not_pending = rw (left_is l cs h) (law.next_not_pending l (in_turn cs) h);
  too_early = rw (left_is l cs h, all_is l cs h) (law.next_too_early l (in_turn cs) h);
}

pub nothing_waits : NothingWaits
nothing_waits = record { reaches = reaches; lacks_the_next = lacks_the_next }
