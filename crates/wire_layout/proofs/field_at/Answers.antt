-- `field_at` meets its contract: what its calls promise.
use Rattle.wire_layout.specs.Inner.{field_of}
use Rattle.wire_layout.proofs.field_at.Goals as goal

pub returns : goal.returns
unfolding field_of
returns c =
    λ kind. rw (← c.word_within-offset.ensures kind, ← c.word_within-size.ensures kind) c.stated_field.ensures
