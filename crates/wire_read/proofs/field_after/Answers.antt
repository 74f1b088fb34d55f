-- `field_after` meets its contract: what reading shows lies in the message, so its part may be taken.
use Rattle.wire_field.specs.Words.{whole}
use Rattle.wire_field.proofs.WholeLaws.{length_whole}
use Rattle.wire_read.proofs.ShownLaws.{reading_lies}
use Rattle.wire_read.proofs.field_after.Goals as goal

pub part_of-requires : goal.part_of-requires
part_of-requires c =
    let a = c.args in
    rw (c.named.ensures, c.fields_of-fields.ensures, c.read_after.ensures, ← length_whole a.kind a.rest.now)
    (reading_lies (whole a.kind a.rest.now) a.name)

pub returns : goal.returns
returns c =
    rw (← c.read_after.ensures, ← c.fields_of-fields.ensures, ← c.named.ensures) (record { result_value = c.part_of.ensures.by_index c.args.kind; place = c.part_of.ensures.place })
