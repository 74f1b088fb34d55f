-- `put_entries` meets its contract: what puts the lines of the rows that are left puts them all.
use mathlib.Core.List.{map}
use Rattle.lists.specs.Lists.{flat_map}
use Rattle.rows.proofs.EachLaws.{Left}
use Rattle.table_words.specs.Layout.{entry_width}
use Rattle.table_words.specs.Words.{entry_of, entries_in}
use Rattle.show_text.specs.Page.{with_text}
use Rattle.show_trace.specs.Trace.{entry_start}
use Rattle.show_trace.proofs.put_entries.Given as goal

abbrev pub invariant-loop-row : goal.invariant-loop-row
invariant-loop-row l =
    Left l.row-iterator entry_width (λ ys. with_text l.page (flat_map entry_start (map entry_of ys))) (with_text l.initial.page (flat_map entry_start (entries_in l.rows.count l.rows.words.now)))
