-- `put_fields` meets its contract: the fields so far are put.
use Rattle.std.proofs.Common.{◌≡◌, take}
use Rattle.lists.specs.Lists.{flat_map}
use Rattle.wire_read.specs.Read.{reading_of}
use Rattle.wire_fields.specs.FieldList.{field_list}
use Rattle.show_text.specs.Page.{with_text}
use Rattle.show_parts.specs.Parts.{listed_text}
use Rattle.show_parts.proofs.put_fields.Given as goal

abbrev pub invariant-loop-place : goal.invariant-loop-place
invariant-loop-place l = l.page ≡ with_text l.initial.page (flat_map (listed_text l.m) (take l.place (field_list (reading_of l.m))))
