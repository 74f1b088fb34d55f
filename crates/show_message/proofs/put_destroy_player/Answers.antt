-- `put_destroy_player` meets its contract: its parts are put one after another.
use Rattle.show_text.specs.Text.{ascii}
use Rattle.show_text.proofs.PageLaws.{put_then}
use Rattle.show_message.specs.Line.{destroy_player_text}
use Rattle.show_message.proofs.put_destroy_player.Goals as goal

pub returns : goal.returns
unfolding ascii destroy_player_text
returns c = put_then _ _ _ c.named.ensures (put_then _ _ _ c.named-2.ensures (put_then _ _ _ c.named-3.ensures c.named-4.ensures))
