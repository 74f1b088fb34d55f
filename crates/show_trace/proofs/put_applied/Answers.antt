-- `put_applied` meets its contract: its parts are put one after another.
use Rattle.show_text.specs.Text.{ascii}
use Rattle.show_text.proofs.PageLaws.{put_then}
use Rattle.show_trace.specs.Trace.{applied_answer}
use Rattle.show_trace.proofs.put_applied.Goals as goal

pub returns : goal.returns
unfolding ascii applied_answer
returns c =
    put_then _ _ _ c.text.ensures (put_then _ _ _ c.decimal.ensures (put_then _ _ _ c.text-2.ensures (put_then _ _ _ c.decimal-2.ensures c.text-3.ensures)))
