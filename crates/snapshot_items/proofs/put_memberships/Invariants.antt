-- what is left to write, at the running position, is what there was to write
use Rattle.lists.specs.Lists.{flat_map}
use Rattle.table_words.specs.Layout.{membership_width}
use Rattle.table_words.specs.Words.{membership_of, memberships_in}
use Rattle.snapshot_bytes.specs.Snapshot.{membership_bytes}
use Rattle.snapshot_items.proofs.ItemLaws.{Writing}
use Rattle.snapshot_items.proofs.put_memberships.Given as goal

abbrev pub invariant-loop-row : goal.invariant-loop-row
invariant-loop-row l = Writing membership_of membership_bytes membership_width l.initial.buf l.at (flat_map membership_bytes (memberships_in l.rows.count l.rows.words.now)) l.row-iterator l.buf l.p
