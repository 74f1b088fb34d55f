-- A word says a kind where it is one of the kinds' numbers.
use mathlib.Core.Path.{◌≡◌}
use Prim.Native.Nat.{ℕ}
use Rattle.std.specs.Prelude.{Result, Ok, Err, is_ok}
use borrow.Author.Tests.{ne_eqb}
use Rattle.table_rules.specs.Operations.{is_kind}
use Rattle.table_rules.specs.WordsSaid.{KindSaid}
use Rattle.table_rules.specs.declared.EntryKind.{EntryKind}
use Rattle.table_rules.specs.declared.EntryKind.TheVariants.{Player, Group}
use Rattle.table_rules.specs.declared.UnknownWord.{UnknownWord}

pub kind_tested : (k : ℕ) (r : Result EntryKind UnknownWord) → KindSaid k r → is_ok r ≡ is_kind k
kind_tested k (Ok Player) h = rw h
kind_tested k (Ok Group) h = rw h
kind_tested k (Err e) h = rw (ne_eqb k 1 (h.1 Player), ne_eqb k 2 (h.1 Group))
