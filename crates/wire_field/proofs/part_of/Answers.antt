-- `part_of` meets its contract: by cases on the field.
use Rattle.wire_field.proofs.WholeLaws.{drop_after}
use mathlib.Core.Path.{refl}
use native.Mathlib.Nat.{zero-add}
use Rattle.wire_field.proofs.part_of.Goals as goal

pub part-requires : goal.part-requires
part-requires c = let h = rw c.in-Some.is at c.requires in record { type_word_le_start = h.0; size_bound = h.1 }

pub returns-in-None : goal.returns-in-None
returns-in-None c = rw (c.in-None.is, zero-add) (record { by_index = λ kind. refl; place = refl })

pub returns-in-Some : goal.returns-in-Some
returns-in-Some c =
    let h = rw c.in-Some.is at c.requires in
    rw c.in-Some.is
    (record {
      by_index = λ kind. rw (drop_after kind c.args.rest.now c.in-Some.span.start.0 h.0) c.part.ensures.result_value;
      place = c.part.ensures.place;
    })
