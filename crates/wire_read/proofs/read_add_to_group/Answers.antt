-- `read_add_to_group` meets its contract: the check refuses, or the words are what their call promises.
use Rattle.wire_layout.specs.Layout.{add_to_group_word}
use Rattle.wire_read.proofs.ReadLaws.{refused_by, no_pairs, accepted}
use Rattle.wire_read.proofs.read_add_to_group.Goals as goal

pub returns-in_err-values : goal.returns-in_err-values
returns-in_err-values c = refused_by _ _ _ _ _ c.from_residual.ensures.1 (c.in_err-values.ensures.number _)

pub returns : goal.returns
returns c =
    let w = c.in_ok-values.ensures in
    rw c.without_fields.ensures (accepted _ _ _ (w.number _) (rw (w.said add_to_group_word, w.not_used add_to_group_word)) (no_pairs _ _ _ _))
