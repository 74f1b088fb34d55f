-- `put_state` meets its contract: the text of version, host and next host.
use mathlib.Core.Path.{ap, ◌∙◌}
use Rattle.show_text.specs.Page.{with_text}
use Rattle.show_trace.proofs.LineLaws.{state_parts}
use Rattle.show_trace.proofs.put_state.Goals as goal

pub returns : goal.returns
returns c =
    c.state.ensures
    ∙ ap (with_text c.args.page.now)
    (state_parts c.args.w.now c.version-version.result c.host-host.result c.next_shown-next.result c.version-version.ensures c.host-host.ensures c.next_shown-next.ensures)
