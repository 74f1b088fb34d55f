-- `put_delivery` meets its contract: its parts are put one after another.
use Rattle.show_text.specs.Text.{ascii}
use Rattle.show_text.proofs.PageLaws.{put_then}
use Rattle.show_trace.specs.Trace.{delivery_line}
use Rattle.show_trace.proofs.put_delivery.Goals as goal

pub returns : goal.returns
unfolding ascii delivery_line
returns c =
    put_then _ _ _ c.decimal.ensures (put_then _ _ _ c.text.ensures (put_then _ _ _ c.put_said_part.ensures (put_then _ _ _ c.put_answer.ensures
    (put_then _ _ _ c.text-2.ensures (put_then _ _ _ c.put_state.ensures c.text-3.ensures)))))
