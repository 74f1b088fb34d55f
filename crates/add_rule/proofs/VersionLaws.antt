-- A version above that of a valid name table is none of its entries': they rise up to the table's. So nothing goes by the old rule's
-- condition.
use mathlib.Core.Path.{◌≡◌, refl, ap, ◌∙◌}
use Prim.Native.Nat.{ℕ, suc, ◌<◌}
use native.Mathlib.Omega.{arith}
use mathlib.Core.Bool.{Bool, true, false, ◌&&◌, ◌||◌, and-false, or-false}
use mathlib.Core.List.{List, [], ◌∷◌}
use borrow.Author.Tests.{ne_eqb}
use Rattle.lists.specs.Lists.{any, rising}
use Rattle.lists.proofs.ListLaws.{rising_hi, rising_tail}
use Rattle.table_rules.specs.Operations.{Operation}
use Rattle.table_rules.specs.NameTable.{Entry, NameTable, is_noop}
use Rattle.table_rules.proofs.KeepsLaws.{ValidTable}
use Rattle.add_rule.specs.OldRule.{has_version, adds_entry, old_noop}

abbrev version : Entry → ℕ
version e = e.version

rising_new : (lo hi v : ℕ) (es : List Entry) → hi < v → rising version lo hi es ≡ true → has_version v es ≡ false
unfolding has_version any
rising_new lo hi v [] h r = refl
rising_new lo hi v (e ∷ es) h r =
    rw (ne_eqb e.version v (omega (arith, rising_hi version lo hi e es r))) (rising_new (suc e.version) hi v es h (rising_tail version lo hi e es r))

pub above_new : (t : NameTable) (v : ℕ) → ValidTable t → t.version < v → has_version v t.entries ≡ false
above_new t v p h = rising_new 0 t.version v t.entries h p.versions_rise

pub old_same : (t : NameTable) (op : Operation) → ValidTable t → t.version < op.version → old_noop t op ≡ is_noop t op
unfolding old_noop
old_same t op p h =
    ap (λ (b : Bool). is_noop t op || (adds_entry op.act && b)) (above_new t op.version p h)
    ∙ ap (λ (b : Bool). is_noop t op || b) (and-false (adds_entry op.act))
    ∙ or-false (is_noop t op)
