-- `put_add_to_group` meets its contract: by what stands before.
use Rattle.show_text.specs.Text.{ascii}
use Rattle.show_message.specs.Line.{add_to_group_text}
use Rattle.show_message.proofs.put_add_to_group.Goals as goal

pub returns : goal.returns
unfolding ascii add_to_group_text
returns c = c.put_membership_change.ensures
