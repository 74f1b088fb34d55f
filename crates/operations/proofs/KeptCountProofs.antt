-- The characters of a name that is kept.
use mathlib.Core.Path.{refl, ap}
use lib.Seq.{take_all}
use Rattle.lists.specs.Lists.{every, without_last}
use Rattle.characters.specs.Characters.{characters}
use Rattle.wire_text.specs.Text.{units}
use Rattle.names.specs.Names.{max_name}
use Rattle.operations.specs.Received.{kept_name}
use Rattle.operations.specs.KeptCounts.{cases, KeptCounts}

pub kept_counts : KeptCounts
unfolding kept_name every cases
kept_counts = record { uncut = λ part h. ap characters (take_all max_name (without_last (units part)) h); worked = refl }
