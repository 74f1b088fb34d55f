-- `put_table` meets its contract: the first line, then the entries; of a valid replica the next host is known.
use mathlib.Core.Path.{ap, ◌∙◌}
use Rattle.show_text.specs.Page.{with_text}
use Rattle.show_text.proofs.PageLaws.{put_then}
use Rattle.replica.proofs.ValidLaws.{valid_parts, valid_packed}
use Rattle.show_listing.specs.Inner.{id_in}
use Rattle.show_listing.proofs.FollowLaws.{table_lines_law}
use Rattle.show_listing.proofs.put_table.Goals as goal

pub entries-requires : goal.entries-requires
entries-requires c =
    let l = c.args.w.now in let p = valid_parts l c.requires in
    (p.long, (valid_packed l p).entries_fit)

pub returns : goal.returns
returns c =
    let v = c.version-version in let o = c.host-host in let n = c.id_in-next in
    let e = rw (c.entries.ensures.0, c.entries.ensures.1) at c.put_entries.ensures in
    put_then _ _ _ c.put_head.ensures e
    ∙ ap (with_text c.args.page.now)
    (table_lines_law c.args.w.now v.result o.result n.result c.requires v.ensures o.ensures (n.ensures ∙ ap id_in c.next_host.ensures))
