-- the ids left repeat exactly if those of all entries do
use Rattle.std.proofs.Common.{◌≡◌, ◌+◌, ◌-◌, ◌*◌, ◌≤◌, not}
use Rattle.table_rules.specs.Valid.{ids_distinct}
use Rattle.snapshot_bytes.specs.Inner.{most_entry}
use Rattle.snapshot_bytes.specs.Snapshot.{head_size, entries_from}
use Rattle.snapshot_checks.specs.RepeatedIds.{repeats_id}
use Rattle.snapshot_checks.proofs.repeats_id.Given as goal

abbrev pub invariant-loop-i : goal.invariant-loop-i
invariant-loop-i l = (l.p ≤ head_size + 2 * most_entry * l.i) × (repeats_id l.s ≡ not (ids_distinct (entries_from l.s l.p (l.count - 2 * l.i))))
