-- `first_host` meets its contract: the first of the rows that are left is the first of all.
use mathlib.Core.List.{map}
use Rattle.table_words.specs.Layout.{entry_width}
use Rattle.table_words.specs.Words.{entry_of, entries_in}
use Rattle.rows.proofs.EachLaws.{Left}
use Rattle.replica.specs.Inner.{first_host}
use Rattle.replica.proofs.first_host.Given as goal

abbrev pub invariant-loop-row : goal.invariant-loop-row
invariant-loop-row l = Left l.row-iterator entry_width (λ ys. first_host l.host (map entry_of ys)) (first_host l.host (entries_in l.rows.count l.rows.words.now))
