-- `put_connect_info` meets its contract: its parts are put one after another.
use Rattle.show_text.specs.Text.{ascii}
use Rattle.show_text.proofs.PageLaws.{put_then}
use Rattle.show_message.specs.Line.{connect_info_text}
use Rattle.show_message.proofs.put_connect_info.Goals as goal

pub returns : goal.returns
unfolding ascii connect_info_text
returns c = put_then _ _ _ c.named.ensures (put_then _ _ _ c.named-2.ensures (put_then _ _ _ c.put_named_guid.ensures (put_then _ _ _ c.put_named_guid-2.ensures c.put_fields.ensures)))
