-- `no_fields` meets its contract: by definition.
use mathlib.Core.Path.{refl}
use Rattle.wire_layout.specs.Checks.{pair_fields}
use Rattle.wire_read.specs.Read.{no_fields}
use Rattle.wire_read.proofs.no_fields.Goals as goal

pub returns : goal.returns
unfolding no_fields pair_fields
returns c = refl
