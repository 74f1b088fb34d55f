-- `exact_words` meets its contract: every word is what its call promises.
use Rattle.wire_read.specs.Inner.{six_words}
use Rattle.wire_read.proofs.exact_words.Goals as goal

pub returns-clause-words : goal.returns-clause-words
unfolding six_words
returns-clause-words c =
    λ kind.
    rw (
      ← c.word_at.ensures kind,
      ← c.word_at-2.ensures kind,
      ← c.word_at-3.ensures kind,
      ← c.word_at-4.ensures kind,
      ← c.word_at-5.ensures kind,
      ← c.word_at-6.ensures kind,
    )
