-- `next_shown` meets its contract: by cases on the answer, which is by whether the words are valid.
use mathlib.Core.Path.{sym, ◌∙◌}
use Rattle.show_trace.proofs.LineLaws.{next_id, next_none}
use Rattle.show_trace.proofs.next_shown.Goals as goal

pub returns-in-Ok : goal.returns-in-Ok
returns-in-Ok c = next_id c.args.w.now _ (sym c.in-Ok.is ∙ c.next_host.ensures)

pub returns-in-Err : goal.returns-in-Err
returns-in-Err c = next_none c.args.w.now _ (sym c.in-Err.is ∙ c.next_host.ensures)
