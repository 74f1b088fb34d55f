-- `dp8_snapshot_read` meets its contract: reading asks of the words only how many they are.
use Rattle.std.proofs.Common.{rules}
use Rattle.snapshot.specs.Saved.{read_of}
use Rattle.c_api.proofs.snapshots.dp8_snapshot_read.Goals as goal

pub returns : goal.returns
unfolding read_of
returns c = search rules
