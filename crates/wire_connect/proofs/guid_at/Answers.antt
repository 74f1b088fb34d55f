-- `guid_at` meets its contract: every word is what its call promises.
use Rattle.wire_connect.specs.Connect.{guid_at}
use Rattle.wire_connect.proofs.guid_at.Goals as goal

pub returns : goal.returns
unfolding guid_at
returns c =
    λ kind.
    rw (
      ← c.word_within.ensures kind,
      ← c.word_within-2.ensures kind,
      ← c.word_within-3.ensures kind,
      ← c.word_within-4.ensures kind,
    )
