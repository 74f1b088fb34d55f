-- `first_digit` meets its contract: every digit passed is a zero in front.
use Rattle.std.proofs.Common.{◌≡◌, drop}
use Rattle.show_text.specs.Text.{trimmed}
use Rattle.show_text.proofs.first_digit.Given as goal

abbrev pub invariant-loop-i : goal.invariant-loop-i
invariant-loop-i l = trimmed (drop l.i l.ds) ≡ trimmed l.ds
