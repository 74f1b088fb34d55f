-- the rows of the memberships so far are stored
use Rattle.std.proofs.Common.{◌≡◌, length}
use Rattle.lists.specs.Lists.{flat_map}
use Rattle.table_words.specs.Words.{membership_words}
use Rattle.snapshot_bytes.specs.Inner.{onto}
use Rattle.snapshot_bytes.specs.Snapshot.{memberships_from}
use Rattle.snapshot_items.proofs.load_memberships.Given as goal

abbrev pub invariant-loop-i : goal.invariant-loop-i
invariant-loop-i l = (length l.w ≡ length l.initial.w) × (l.w ≡ onto l.initial.w (flat_map membership_words (memberships_from l.s l.at l.i)))
