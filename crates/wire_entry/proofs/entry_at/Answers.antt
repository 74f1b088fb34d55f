-- `entry_at` meets its contract: every word is what its call promises.
use Rattle.wire_entry.specs.Entry.{entry_at}
use Rattle.wire_entry.proofs.entry_at.Goals as goal

pub returns : goal.returns
unfolding entry_at
returns c =
    λ kind.
    rw (
      ← c.word_within.ensures kind,
      ← c.word_within-2.ensures kind,
      ← c.word_within-3.ensures kind,
      ← c.word_within-4.ensures kind,
      ← c.word_within-5.ensures kind,
    )
