-- `put_hex` meets its contract: the bytes so far are put.
use Rattle.std.proofs.Common.{◌≡◌, take}
use Rattle.lists.specs.Lists.{flat_map}
use Rattle.show_text.specs.Page.{with_text}
use Rattle.show_escaped.specs.Escaped.{hex_digits}
use Rattle.show_escaped.proofs.put_hex.Given as goal

abbrev pub invariant-loop-b : goal.invariant-loop-b
invariant-loop-b l = l.page ≡ with_text l.initial.page (flat_map (hex_digits 2) (take l.b-index l.s))
