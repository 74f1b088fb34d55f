-- `put_add_player` meets its contract: by what stands before.
use Rattle.show_text.specs.Text.{ascii}
use Rattle.show_message.specs.Line.{add_player_text}
use Rattle.show_message.proofs.put_add_player.Goals as goal

pub returns : goal.returns
unfolding ascii add_player_text
returns c = c.put_entry.ensures
