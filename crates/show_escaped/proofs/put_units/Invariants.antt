-- `put_units` meets its contract: the units so far are put.
use Rattle.std.proofs.Common.{◌≡◌, take}
use Rattle.lists.specs.Lists.{flat_map}
use Rattle.wire_text.specs.Text.{units}
use Rattle.show_text.specs.Page.{with_text}
use Rattle.show_escaped.specs.Escaped.{escaped_unit}
use Rattle.show_escaped.proofs.put_units.Given as goal

abbrev pub invariant-loop-i : goal.invariant-loop-i
invariant-loop-i l = l.page ≡ with_text l.initial.page (flat_map escaped_unit (take l.i (units l.s)))
