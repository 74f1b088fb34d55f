-- `digits` meets its contract: the last digits stand at their places, and those before are the digits of what is left.
use Rattle.std.proofs.Common.{◌≡◌, ◌++◌, length, drop}
use Rattle.show_text.specs.Text.{decimal_digits}
use Rattle.show_text.proofs.digits.Given as goal

abbrev pub invariant-loop-i : goal.invariant-loop-i
invariant-loop-i l = record { long : length l.ds ≡ 10; digits : decimal_digits l.i l.rest ++ drop l.i l.ds ≡ decimal_digits 10 l.fn.n }
