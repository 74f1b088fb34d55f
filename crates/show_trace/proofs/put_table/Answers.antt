-- `put_table` meets its contract: the first line, the entries, then the memberships.
use mathlib.Core.Path.{ap, ◌∙◌}
use Rattle.show_text.specs.Text.{ascii}
use Rattle.show_text.specs.Page.{with_text}
use Rattle.show_text.proofs.PageLaws.{put_then}
use Rattle.replica.proofs.ValidLaws.{valid_parts, valid_packed}
use Rattle.show_trace.proofs.LineLaws.{table_lines_law}
use Rattle.show_trace.proofs.put_table.Goals as goal

pub entries-requires : goal.entries-requires
entries-requires c =
    let l = c.args.w.now in let p = valid_parts l c.requires in
    (p.long, (valid_packed l p).entries_fit)

pub memberships-requires : goal.memberships-requires
memberships-requires c =
    let l = c.args.w.now in let p = valid_parts l c.requires in
    (p.long, (valid_packed l p).memberships_fit)

pub returns : goal.returns
unfolding ascii
returns c =
    let e = rw (c.entries.ensures.0, c.entries.ensures.1) at c.put_entries.ensures in
    let m = rw (c.memberships.ensures.0, c.memberships.ensures.1) at c.put_members.ensures in
    put_then _ _ _ c.put_state.ensures (put_then _ _ _ c.text.ensures (put_then _ _ _ e m))
    ∙ ap (with_text c.args.page.now)
    (table_lines_law c.args.w.now)
