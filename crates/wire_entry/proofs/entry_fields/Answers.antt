-- `entry_fields` meets its contract: every field is what its call promises, of the characters that the checks answered.
use Rattle.wire_layout.specs.Layout.{entry_pairs}
use Rattle.wire_layout.specs.Checks.{pair_fields}
use Rattle.wire_layout.proofs.PairLaws.{field_again, free_again}
use Rattle.wire_entry.proofs.entry_fields.Goals as goal

pub returns : goal.returns
unfolding pair_fields entry_pairs
returns c =
    λ kind counted.
    rw (
      c.field_at.ensures kind,
      c.field_at-2.ensures kind,
      c.field_at-3.ensures kind,
      field_again _ _ _ _ counted.name,
      free_again,
      field_again _ _ _ _ counted.url,
    )
