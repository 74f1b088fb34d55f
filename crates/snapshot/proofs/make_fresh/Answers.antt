-- `make_fresh` meets its contract: there are as many words as a replica has.
use mathlib.Core.Path.{ap, ◌∙◌}
use Prim.Native.Nat.{ℕ}
use lib.ListN.{replicate}
use Rattle.table_words.specs.Words.{fresh_words}
use Rattle.snapshot.proofs.make_fresh.Goals as goal

pub returns : goal.returns
unfolding fresh_words
returns c = c.clear.ensures ∙ ap (λ (n : ℕ). replicate n 0) c.requires
