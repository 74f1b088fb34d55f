-- `connect_values` meets its contract: every word and GUID is what its call promises.
use Rattle.wire_connect.specs.Connect.{connect_values}
use Rattle.wire_connect.proofs.connect_values.Goals as goal

pub returns : goal.returns
unfolding connect_values
returns c =
    λ kind.
    rw (
      ← c.word_within.ensures kind,
      ← c.word_within-2.ensures kind,
      ← c.guid_at.ensures kind,
      ← c.guid_at-2.ensures kind,
    )
