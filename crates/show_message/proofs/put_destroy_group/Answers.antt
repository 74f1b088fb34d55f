-- `put_destroy_group` meets its contract: its parts are put one after another.
use Rattle.show_text.specs.Text.{ascii}
use Rattle.show_text.proofs.PageLaws.{put_then}
use Rattle.show_message.specs.Line.{destroy_group_text}
use Rattle.show_message.proofs.put_destroy_group.Goals as goal

pub returns : goal.returns
unfolding ascii destroy_group_text
returns c = put_then _ _ _ c.named.ensures (put_then _ _ _ c.named-2.ensures (put_then _ _ _ c.named-3.ensures (put_then _ _ _ c.named-4.ensures c.named-5.ensures)))
