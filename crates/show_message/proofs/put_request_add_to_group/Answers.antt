-- `put_request_add_to_group` meets its contract: its parts are put one after another.
use Rattle.show_text.specs.Text.{ascii}
use Rattle.show_text.proofs.PageLaws.{put_then}
use Rattle.show_message.specs.Line.{request_add_to_group_text}
use Rattle.show_message.proofs.put_request_add_to_group.Goals as goal

pub returns : goal.returns
unfolding ascii request_add_to_group_text
returns c = put_then _ _ _ c.named.ensures (put_then _ _ _ c.named-2.ensures c.named-3.ensures)
