-- `read_destroy_group` meets its contract: the check refuses, or the words are what their call promises.
use Rattle.wire_layout.specs.Layout.{destroy_group_word}
use Rattle.wire_read.specs.Inner.{six_words}
use Rattle.wire_read.proofs.ReadLaws.{refused_by, no_pairs, accepted}
use Rattle.wire_read.proofs.read_destroy_group.Goals as goal

pub returns-in_err-w : goal.returns-in_err-w
returns-in_err-w c = refused_by _ _ _ _ _ c.from_residual.ensures.1 (c.in_err-w.ensures.number _)

pub returns : goal.returns
unfolding six_words
returns c =
    rw c.without_fields.ensures
    (accepted _ _ _ (c.in_ok-w.ensures.number _) (rw (c.in_ok-w.ensures.words destroy_group_word)) (no_pairs _ _ _ _))
