-- the position is behind the entries so far
use Rattle.std.proofs.Common.{◌≡◌, ◌+◌, ◌*◌, ◌≤◌}
use Rattle.snapshot_bytes.specs.Items.{after}
use Rattle.snapshot_bytes.specs.Inner.{most_entry}
use Rattle.snapshot_bytes.specs.Snapshot.{head_size, next_entry}
use Rattle.snapshot_bytes.proofs.entries_end.Given as goal

abbrev pub invariant-loop : goal.invariant-loop
invariant-loop l = (l.p ≤ head_size + most_entry * l.counter) × (l.p ≡ after (next_entry l.s) head_size l.counter)
