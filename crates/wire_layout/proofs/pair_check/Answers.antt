-- `pair_check` meets its contract: what its calls promise.
use Rattle.wire_layout.specs.Checks.{pair_no, field_at}
use Rattle.wire_layout.proofs.pair_check.Goals as goal

pub returns : goal.returns
unfolding pair_no field_at
returns c = record {
  number = λ kind.
      rw (← c.form_of.ensures, ← c.word_within-offset.ensures kind, ← c.word_within-size.ensures kind) (c.stated_check.ensures.number kind);
  characters = λ kind.
      rw (← c.form_of.ensures, ← c.word_within-offset.ensures kind, ← c.word_within-size.ensures kind) (c.stated_check.ensures.characters kind);
}
