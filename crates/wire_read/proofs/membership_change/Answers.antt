-- `membership_change` meets its contract: the words are what their call promises.
use Rattle.wire_read.specs.Inner.{six_words}
use Rattle.wire_read.proofs.membership_change.Goals as goal

pub returns-clause-said : goal.returns-clause-said
unfolding six_words
returns-clause-said c = λ kind. rw (c.in_ok-w.ensures.words kind)

pub returns-clause-not_used : goal.returns-clause-not_used
unfolding six_words
returns-clause-not_used c = λ kind. rw (c.in_ok-w.ensures.words kind)
