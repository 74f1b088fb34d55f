-- `name_characters` meets its contract: what is counted, with what the units that are left begin, is the whole count.
use mathlib.Core.Path.{◌≡◌}
use Prim.Native.Nat.{◌+◌}
use lib.ListN.{drop}
use Rattle.characters.specs.Characters.{characters}
use Rattle.characters.specs.Inner.{begun_by}
use Rattle.names.specs.Words.{name_of}
use Rattle.names.proofs.name_characters.Given as goal

abbrev pub invariant-loop-j : goal.invariant-loop-j
invariant-loop-j l = (l.n + begun_by l.before (drop l.j (name_of l.row)) ≡ characters (name_of l.row))
