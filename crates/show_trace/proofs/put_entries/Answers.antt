-- `put_entries` meets its contract: what puts the lines of the rows that are left puts them all.
use mathlib.Core.Path.{sym, ◌∙◌}
use Rattle.rows.proofs.EachLaws.{left_next, left_none}
use Rattle.table_words.specs.Layout.{entry_width}
use Rattle.table_words.specs.Words.{entry_of}
use Rattle.show_text.proofs.PageLaws.{text_none}
use Rattle.show_listing.proofs.RowTextLaws.{row_put, entry_cut}
use Rattle.show_trace.specs.Trace.{entry_start}
use Rattle.show_trace.proofs.put_entries.Goals as goal

pub loop-row-preserved : goal.loop-row-preserved
loop-row-preserved c =
    left_next c.loop-row.invariant c.next.new.self c.in-Some.row c.in-Some.ensures.steps _
    (row_put entry_width entry_of entry_start entry_cut c.loop-row.page c.put_entry.new.page c.in-Some.row.now c.put_entry.ensures)

pub returns : goal.returns
returns c = sym (text_none c.loop-row.page) ∙ left_none c.loop-row.invariant c.next.new.self c.in-None.ensures.steps
