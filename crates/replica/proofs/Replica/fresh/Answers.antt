-- `fresh` meets its contract: as many zeros as there are words.
use mathlib.Core.Path.{refl}
use Rattle.table_words.specs.Words.{fresh_words}
use Rattle.replica.proofs.Replica.fresh.Goals as goal

pub returns : goal.returns
unfolding fresh_words
returns c = refl
