-- `put_delete_from_group` meets its contract: by what stands before.
use Rattle.show_text.specs.Text.{ascii}
use Rattle.show_message.specs.Line.{delete_from_group_text}
use Rattle.show_message.proofs.put_delete_from_group.Goals as goal

pub returns : goal.returns
unfolding ascii delete_from_group_text
returns c = c.put_membership_change.ensures
