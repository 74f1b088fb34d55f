-- `ids_check` meets its contract: by the id at hand.
use mathlib.Core.Path.{◌∙◌}
use native.Mathlib.Omega.{arith}
use Rattle.wire_exact.proofs.IdLaws.{after_at, id_passes, id_fails, none_left}
use Rattle.wire_exact.proofs.ids_check.Goals as goal

pub word_at-requires : goal.word_at-requires
word_at-requires c = after_at _ _ _ c.requires (omega arith)

pub returns-then-word_at-eq0 : goal.returns-then-word_at-eq0
returns-then-word_at-eq0 c =
    λ kind. id_fails _ _ c.loop-id.id-index _ c.loop-id-test.true (c.word_at.ensures kind) c.if-word_at-eq0.true ∙ c.loop-id.invariant kind

pub loop-id-preserved : goal.loop-id-preserved
loop-id-preserved c =
    λ kind. id_passes _ _ c.loop-id.id-index _ c.loop-id-test.true (c.word_at.ensures kind) c.if-word_at-eq0.false ∙ c.loop-id.invariant kind

pub returns : goal.returns
returns c = λ kind. none_left _ _ c.loop-id.id-index (record { 0 = 0 }) c.loop-id-test.false ∙ c.loop-id.invariant kind
