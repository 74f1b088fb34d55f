-- `put_membership_change` meets its contract: its parts are put one after another.
use Rattle.show_text.specs.Text.{ascii}
use Rattle.show_text.proofs.PageLaws.{put_then}
use Rattle.show_message.specs.Line.{membership_change_text}
use Rattle.show_message.proofs.put_membership_change.Goals as goal

pub returns : goal.returns
unfolding ascii membership_change_text
returns c = put_then _ _ _ c.named.ensures (put_then _ _ _ c.named-2.ensures (put_then _ _ _ c.named-3.ensures (put_then _ _ _ c.named-4.ensures (put_then _ _ _ c.named-5.ensures c.named-6.ensures))))
