-- `read_row` meets its contract: what reading refuses is refused, and of what it accepts the operation is written.
use mathlib.Core.Path.{refl}
use Rattle.refusal.proofs.AnswerLaws.{not_accepted, passed_on}
use Rattle.wire_field.specs.declared.FieldName.TheVariants.{Name}
use Rattle.wire_read.proofs.ShownLaws.{reading_lies}
use Rattle.operations.specs.Received.{operation_of, operation_in}
use Rattle.operations.specs.Inner.{row_after}
use Rattle.operations.proofs.read_row.Goals as goal

pub returns-in_err-read : goal.returns-in_err-read
unfolding operation_in operation_of row_after
returns-in_err-read c = rw (← c.in_err-read.ensures, not_accepted c.in_err-read.field-0.0 refl) record {
  number = passed_on _ _ c.from_residual.ensures.1 refl;
  row = refl;
}

pub part_in-name-requires : goal.part_in-name-requires
part_in-name-requires c = rw (← c.in_ok-read.ensures) at (reading_lies c.args.m.now Name)

pub returns : goal.returns
unfolding operation_in operation_of
returns c = rw (← c.in_ok-read.ensures, ← c.part_in-name.ensures) c.put_operation.ensures
