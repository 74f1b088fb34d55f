-- what the test says of the entries left is what it says of all
use Rattle.std.proofs.Common.{◌≡◌, ◌+◌, ◌-◌, ◌*◌, ◌≤◌, ◌||◌, eqb}
use Rattle.lists.specs.Lists.{any}
use Rattle.snapshot_bytes.specs.Inner.{most_entry}
use Rattle.snapshot_bytes.specs.Snapshot.{entries_from}
use Rattle.snapshot_checks.proofs.has_either.Given as goal

abbrev pub invariant-loop : goal.invariant-loop
invariant-loop l = (l.p ≤ l.at + most_entry * l.counter)
    × (any (λ e. eqb e.id l.a || eqb e.id l.b) (entries_from l.s l.at l.count)
    ≡ any (λ e. eqb e.id l.a || eqb e.id l.b) (entries_from l.s l.p (l.count - l.counter)))
