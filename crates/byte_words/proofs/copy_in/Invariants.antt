-- `copy_in` meets its contract: the loop has pasted the first i bytes; all of them are one put; without room nothing is stored.
use lib.ListN.{length}
use mathlib.Core.Path.{◌≡◌}
use lib.Seq.{paste}
use Rattle.byte_words.proofs.copy_in.Given as goal

abbrev pub invariant-loop-i : goal.invariant-loop-i
invariant-loop-i l = (length l.buf ≡ length l.initial.buf) × (l.buf ≡ paste l.initial.buf l.at l.src l.i)
