-- `word_at` meets its contract: the word that stands four bytes earlier in the part after the type word.
use Rattle.wire_field.proofs.WholeLaws.{word_after}
use Rattle.wire_layout.proofs.word_at.Goals as goal

pub returns : goal.returns
returns c = λ kind. rw (word_after kind c.args.rest.now c.args.at.0 c.requires) c.le32.ensures
