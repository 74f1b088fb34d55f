-- what the check says of the rest, with the count so far and the unit before, is what it says of the whole
use Rattle.std.proofs.Common.{◌≡◌, ◌+◌, ◌≤◌, length}
use Rattle.wire_text.specs.Text.{text_check}
use Rattle.wire_text.proofs.TextLaws.{check_from}
use Rattle.wire_text.proofs.check_text.Given as goal

abbrev pub invariant-loop-low : goal.invariant-loop-low
invariant-loop-low l = (l.count + length l.rest ≤ length l.s) × (check_from l.count l.before l.rest ≡ text_check l.s)

abbrev pub decreases-loop-low : goal.decreases-loop-low
decreases-loop-low l = length l.rest
