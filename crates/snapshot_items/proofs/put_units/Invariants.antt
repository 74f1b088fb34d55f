-- the units so far are written
use Rattle.std.proofs.Common.{◌≡◌, length, take}
use Rattle.byte_words.specs.Bytes.{put}
use Rattle.names.specs.Words.{name_of}
use Rattle.snapshot_items.proofs.ItemLaws.{unit_bytes}
use Rattle.snapshot_items.proofs.put_units.Given as goal

abbrev pub invariant-loop-j : goal.invariant-loop-j
invariant-loop-j l = (length l.buf ≡ length l.initial.buf) × (l.buf ≡ put l.initial.buf l.at (unit_bytes (take l.j (name_of l.row))))
