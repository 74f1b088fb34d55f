-- `part_at` meets its contract: what is shown at a place is what is shown under the name there.
use mathlib.Core.Path.{refl, sym, ◌∙◌}
use native.Mathlib.Nat.{zero-add}
use Rattle.wire_fields.specs.FieldList.{part_at, part_place}
use Rattle.wire_fields.proofs.ReaderProofs.{shown_as_named}
use Rattle.wire_fields.proofs.part_at.Goals as goal

pub returns-in-None : goal.returns-in-None
unfolding part_at part_place
returns-in-None c = rw (← c.field_at.ensures, c.in-None.is, zero-add) (refl, refl)

pub returns-in-Some : goal.returns-in-Some
unfolding part_place
returns-in-Some c =
    let e = c.field_at.ensures in let f = c.in-Some.is in
    (c.field.ensures.result_value ∙ sym (shown_as_named _ _ _ _ (sym e ∙ f)), rw (← e, f) c.field.ensures.place)
