-- `put_pairs` meets its contract: after i turns the words are those of the first 2 * i units.
use mathlib.Core.Path.{◌≡◌}
use Prim.Native.Nat.{◌+◌, ◌*◌, ◌≤◌}
use lib.ListN.{length, take}
use Rattle.names.specs.Names.{units_of}
use Rattle.names.specs.Words.{unit_words, paired}
use Rattle.names.proofs.put_pairs.Given as goal

abbrev pub invariant-loop-i : goal.invariant-loop-i
invariant-loop-i l = (2 * l.i ≤ l.n + 1) × (length l.w ≡ unit_words) × (l.w ≡ paired unit_words (take (2 * l.i) (take l.n (units_of l.order l.s))))
