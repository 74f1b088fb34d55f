-- The worked cases hold.
use mathlib.Core.Path.{refl}
use Rattle.lists.specs.Lists.{every}
use Rattle.characters.specs.Cases.{cases, CasesHold}

pub cases_hold : CasesHold
unfolding every cases
cases_hold = refl
