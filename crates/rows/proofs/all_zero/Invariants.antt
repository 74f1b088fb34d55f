-- `all_zero` meets its contract: the number is 0 if each word so far is.
use mathlib.Core.Path.{◌≡◌}
use lib.ListN.{take}
use Rattle.std.specs.List.{fold}
use lib.Bits.{bit_or}
use Rattle.rows.proofs.all_zero.Given as goal

abbrev pub invariant-loop-i : goal.invariant-loop-i
invariant-loop-i l = l.used ≡ fold bit_or 0 (take l.i l.s)
