-- what the test says of the entries left is what it says of all
use Rattle.std.proofs.Common.{◌≡◌, ◌+◌, ◌-◌, ◌*◌, ◌≤◌}
use Rattle.snapshot_bytes.specs.Inner.{most_entry}
use Rattle.snapshot_bytes.specs.Snapshot.{sizes_valid}
use Rattle.snapshot_bytes.proofs.sizes_valid.Given as goal

abbrev pub invariant-loop : goal.invariant-loop
invariant-loop l = (l.p ≤ l.at + most_entry * l.counter) × (sizes_valid l.s l.at l.count ≡ sizes_valid l.s l.p (l.count - l.counter))
