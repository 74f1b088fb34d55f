-- A delivery by the one number that refuses its message, and what a valid replica has to apply where there is none.
use mathlib.Core.Path.{◌≡◌, refl}
use Prim.Native.Nat.{ℕ, suc, ◌<◌}
use native.Mathlib.Omega.{arith}
use mathlib.Core.Bool.{Bool, true, false, cond}
use mathlib.Core.List.{List, ◌∷◌}
use lib.Dec.{eqb}
use borrow.Author.Tests.{eqb-true}
use Rattle.lists.specs.Lists.{every}
use Rattle.lists.proofs.ListLaws.{every_head, every_cons}
use Rattle.table_rules.specs.Operations.{Operation, valid_operation}
use Rattle.table_rules.specs.NameTable.{NameTable, apply}
use Rattle.table_rules.proofs.KeepsLaws.{ValidTable, table_parts, apply_valid}
use Rattle.table_words.specs.Words.{table_of}
use Rattle.operations.specs.Received.{operation_in}
use Rattle.operations.proofs.ReceivedLaws.{read_valid}
use Rattle.replica.specs.Replica.{view}
use Rattle.replica.specs.Valid.{valid_of}
use Rattle.replica.specs.Deliver.{enter, operation_no, refusal, pack_outcome, accepted_by, delivered_read, deliver_of}
use Rattle.replica.proofs.ValidLaws.{valid_parts}
use Rattle.add_rule.specs.ByRule.{refused_no}

pub table_valid : (l : List ℕ) → valid_of l ≡ true → ValidTable (table_of l)
table_valid l v = table_parts (table_of l) (valid_parts l v).table

module _ (l m : List ℕ) where
  abbrev pub delivered : Operation
  delivered = (operation_in m).operation

  -- what is due: the delivered operation, and behind it those that are pending
  abbrev pub due : List Operation
  due = delivered ∷ (view l).pending

  pub delivery_is : deliver_of l m ≡ cond (valid_of l) (cond (eqb (refused_no l m) 0) (pack_outcome (enter (view l) delivered)) (refusal (refused_no l m) l)) (refusal 28 l)
  unfolding deliver_of delivered_read accepted_by refused_no
  delivery_is = go (eqb k 0) refl
    where
      k : ℕ
      k = (operation_in m).number

      n : ℕ
      n = operation_no (view l) delivered

      go : (d : Bool) → eqb k 0 ≡ d → cond (valid_of l) (cond d (cond (eqb n 0) (pack_outcome (enter (view l) delivered)) (refusal n l)) (refusal k l)) (refusal 28 l)
          ≡ cond (valid_of l) (cond (eqb (cond d n k) 0) (pack_outcome (enter (view l) delivered)) (refusal (cond d n k) l)) (refusal 28 l)
      go true e = refl
      go false e = rw e

  is_read : refused_no l m ≡ 0 → (operation_in m).number ≡ 0
  unfolding refused_no
  is_read = go (eqb (operation_in m).number 0) refl
    where
      go : (d : Bool) → eqb (operation_in m).number 0 ≡ d → cond d (operation_no (view l) delivered) (operation_in m).number ≡ 0 → (operation_in m).number ≡ 0
      go true e h = eqb-true (operation_in m).number 0 e
      go false e h = h

  pub due_valid : valid_of l ≡ true → eqb (refused_no l m) 0 ≡ true → every valid_operation due ≡ true
  due_valid v e =
      every_cons valid_operation delivered (view l).pending (read_valid m (is_read (eqb-true (refused_no l m) 0 e))) (valid_parts l v).pending_valid

-- an operation of the next version is above the name table's, which stays valid
module _ (t : NameTable) (o : Operation) (e : eqb o.version (suc t.version) ≡ true) where
  pub next_past : t.version < o.version
  next_past = omega (arith, eqb-true o.version (suc t.version) e)

  pub next_valid : (os : List Operation) → ValidTable t → every valid_operation (o ∷ os) ≡ true → ValidTable (apply t o)
  next_valid os p h = apply_valid t o p next_past (every_head valid_operation o os h)
