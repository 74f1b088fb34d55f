-- `hex_digits` meets its contract: the last digits stand at their places, and those before are the digits of what is left.
use Rattle.std.proofs.Common.{◌≡◌, ◌++◌, length, drop}
use Rattle.show_escaped.specs.Escaped.{hex_digits}
use Rattle.show_escaped.proofs.hex_digits.Given as goal

abbrev pub invariant-loop-i : goal.invariant-loop-i
invariant-loop-i l = record { long : length l.ds ≡ 4; digits : hex_digits l.i l.rest ++ drop l.i l.ds ≡ hex_digits 4 l.fn.n }
