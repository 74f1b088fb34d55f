-- `read` meets its contract: the words are those of a replica in number.
use mathlib.Core.Path.{◌∙◌}
use Rattle.table_words.specs.Words.{fresh_words}
use Rattle.snapshot.proofs.LoadLaws.{fresh_long, same_load}
use Rattle.snapshot.proofs.read.Goals as goal

pub returns : goal.returns
unfolding fresh_words
returns c = c.read_told-number.ensures ∙ same_load fresh_words c.args.s.now fresh_long
