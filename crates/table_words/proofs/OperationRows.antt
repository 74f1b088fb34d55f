-- A row and its operation determine each other.
use mathlib.Core.Path.{◌≡◌, sym, ap, ◌∙◌}
use Prim.Native.Nat.{ℕ, ◌+◌}
use mathlib.Core.Bool.{Bool, true, false, cond}
use mathlib.Core.List.{List, [], ◌∷◌, ◌++◌, append_assoc, append-nil}
use lib.ListN.{length, take, drop, get_or, length-append}
use lib.Seq.{get_or-drop}
use lib.Dec.{eqb}
use borrow.Author.Tests.{eq-eqb, ne_eqb}
use native.Mathlib.Omega.{arith}
use Rattle.names.specs.Words.{name_words, name_of}
use Rattle.names.specs.Inner.{NameFits}
use Rattle.names.proofs.NameLaws.{name_wide, name_back, name_fits, valid_fits}
use Rattle.names.specs.Names.{valid_name}
use Rattle.lists.specs.Lists.{eqbs}
use Rattle.lists.proofs.ListLaws.{and_r, both_ways, eqbs_eq, eqbs_refl}
use Rattle.table_rules.specs.Operations.{Act, Empty, AddEntry, RemoveEntry, Join, Leave, Operation, no_operation, names_entry, valid_act, valid_operation, number_count, act_numbers, act_name, same_operation, act_said}
use Rattle.table_rules.proofs.OperationLaws.{numbers_wide, said_back, version_back, numbers_behind, same_eq, eq_same}
use Rattle.table_words.specs.Layout.{entry_numbers, operation_width}
use Rattle.table_words.specs.Words.{entry_of, entry_words, of_row, row_of}
use Rattle.table_words.specs.Inner.{OperationFits, adding}

pub row_wide : (o : Operation) → length (row_of o) ≡ operation_width
unfolding row_of
row_wide o =
    length-append (act_numbers o.version o.act) (name_words (act_name o.act))
    ∙ omega (arith, numbers_wide o.version o.act, name_wide (act_name o.act))

-- an operation read off its row, whatever stands behind it
pub row_back : (o : Operation) (r : List ℕ) → OperationFits o → of_row (row_of o ++ r) ≡ o
unfolding row_of of_row
row_back o r f =
    let v : ℕ = o.version in
    let a : Act = o.act in
    let ns : List ℕ = act_numbers v a in
    let s : List ℕ = name_words (act_name a) ++ r in
    let e : (ns ++ name_words (act_name a)) ++ r ≡ ns ++ s = append_assoc ns (name_words (act_name a)) r in
    let n : name_of (drop number_count (ns ++ s)) ≡ act_name a = ap name_of (numbers_behind v a s) ∙ name_back (act_name a) r f in
    let act : act_said (ns ++ s) (name_of (drop number_count (ns ++ s))) ≡ a = ap (act_said (ns ++ s)) n ∙ said_back v a s in
    ap of_row e ∙ (λ i. record { version = version_back v a s i; act = act i })

-- the name of an act that a row says is the row's, or none
said_fits : (r n : List ℕ) → NameFits n → NameFits [] → NameFits (act_name (act_said r n))
unfolding act_said act_name
said_fits r n f z = go (eqb (get_or r 0 0) 1) (eqb (get_or r 0 0) 2) (eqb (get_or r 0 0) 3) (eqb (get_or r 0 0) 4)
  where
    go : (a b c d : Bool) → NameFits (act_name (cond a (AddEntry (get_or r 1 0) (get_or r 2 0) (get_or r 3 0) (get_or r 4 0) (get_or r 6 0) n)
        (cond b (RemoveEntry (get_or r 1 0) (get_or r 2 0)) (cond c (Join (get_or r 2 0) (get_or r 3 0)) (cond d (Leave (get_or r 2 0) (get_or r 3 0)) Empty)))))
    go true b c d = f
    go false true c d = z
    go false false true d = z
    go false false false true = z
    go false false false false = z

none_fits : NameFits []
none_fits = record { short = omega arith; units = tt }

pub row_fits : (r : List ℕ) → OperationFits (of_row r)
unfolding of_row
row_fits r = said_fits r (name_of (drop number_count r)) (name_fits (drop number_count r)) none_fits

-- ---- the row of an operation that adds an entry

module _ (r : List ℕ) (add : get_or r 0 0 ≡ 1) (exact : r ≡ row_of (of_row r)) where
  abbrev name : List ℕ
  name = name_of (drop number_count r)

  whole : r ≡ 1 ∷ get_or r 1 0 ∷ get_or r 2 0 ∷ get_or r 3 0 ∷ get_or r 4 0 ∷ get_or r 5 0 ∷ get_or r 6 0 ∷ name_words name
  unfolding row_of of_row act_said act_numbers act_name
  whole = exact ∙ rw (eq-eqb (get_or r 0 0) 1 add)

  name_same : name_of (drop entry_numbers (drop 1 r)) ≡ name
  name_same =
      ap (λ (y : List ℕ). name_of (drop entry_numbers (drop 1 y))) whole
      ∙ ap name_of (sym (append-nil (name_words name))) ∙ name_back name [] (name_fits (drop number_count r))

  -- but for its first word it is the row of the entry
  pub entry_behind : drop 1 r ≡ entry_words (entry_of (drop 1 r))
  entry_behind =
      ap (drop 1) whole
      ∙ ap (λ (y : List ℕ). get_or r 1 0 ∷ get_or r 2 0 ∷ get_or r 3 0 ∷ get_or r 4 0 ∷ get_or r 5 0 ∷ get_or r 6 0 ∷ name_words y) (sym name_same)
      ∙ front (λ i. get_or-drop 1 r i 0)
    where
      front : ((i : ℕ) → get_or (drop 1 r) i 0 ≡ get_or r (1 + i) 0)
          → get_or r 1 0 ∷ get_or r 2 0 ∷ get_or r 3 0 ∷ get_or r 4 0 ∷ get_or r 5 0 ∷ get_or r 6 0 ∷ name_words (name_of (drop entry_numbers (drop 1 r))) ≡ entry_words (entry_of (drop 1 r))
      front e = rw (e 0, e 1, e 2, e 3, e 4, e 5)

  pub adds_entry_law : of_row r ≡ adding (entry_of (drop 1 r))
  unfolding of_row act_said
  adds_entry_law = rw (eq-eqb (get_or r 0 0) 1 add, get_or-drop 1 r 0 0, get_or-drop 1 r 1 0, get_or-drop 1 r 2 0, get_or-drop 1 r 3 0, get_or-drop 1 r 4 0, get_or-drop 1 r 5 0, name_same)

-- ---- what the other rows say

pub removes_entry : (r : List ℕ) → get_or r 0 0 ≡ 2 → of_row r ≡ record { version = get_or r 5 0; act = RemoveEntry (get_or r 1 0) (get_or r 2 0) }
unfolding of_row act_said
removes_entry r e = rw e

pub joins_pair : (r : List ℕ) → get_or r 0 0 ≡ 3 → of_row r ≡ record { version = get_or r 5 0; act = Join (get_or r 2 0) (get_or r 3 0) }
unfolding of_row act_said
joins_pair r e = rw e

pub leaves_pair : (r : List ℕ) → get_or r 0 0 ≡ 4 → of_row r ≡ record { version = get_or r 5 0; act = Leave (get_or r 2 0) (get_or r 3 0) }
unfolding of_row act_said
leaves_pair r e = rw e

pub does_nothing : (r : List ℕ) → (get_or r 0 0 ≡ 1 → ⊥) → (get_or r 0 0 ≡ 2 → ⊥) → (get_or r 0 0 ≡ 3 → ⊥) → (get_or r 0 0 ≡ 4 → ⊥)
    → of_row r ≡ record { version = get_or r 5 0; act = Empty }
unfolding of_row act_said
does_nothing r a b c d = rw (ne_eqb (get_or r 0 0) 1 a, ne_eqb (get_or r 0 0) 2 b, ne_eqb (get_or r 0 0) 3 c, ne_eqb (get_or r 0 0) 4 d)

-- ---- rows that are exact

-- the first words of a place say what the place says, and are the row of it
pub taken_same : (r : List ℕ) → take operation_width r ≡ row_of (of_row r) → of_row (take operation_width r) ≡ of_row r
taken_same r e = ap of_row (e ∙ sym (append-nil (row_of (of_row r)))) ∙ row_back (of_row r) [] (row_fits r)

pub taken_exact : (r : List ℕ) → take operation_width r ≡ row_of (of_row r) → take operation_width r ≡ row_of (of_row (take operation_width r))
taken_exact r e = e ∙ ap row_of (sym (taken_same r e))

-- rows are equal exactly where the operations are the same
pub same_rows : (a b : Operation) → OperationFits a → OperationFits b → eqbs (row_of a) (row_of b) ≡ same_operation a b
same_rows a b f g =
    both_ways (eqbs (row_of a) (row_of b)) (same_operation a b)
    (λ e. eq_same a b (sym (alone a f) ∙ ap of_row (eqbs_eq (row_of a) (row_of b) e) ∙ alone b g))
    (λ e. rw (same_eq a b e) (eqbs_refl (row_of b)))
  where
    alone : (o : Operation) → OperationFits o → of_row (row_of o) ≡ o
    alone o f = ap of_row (sym (append-nil (row_of o))) ∙ row_back o [] f

valid_name_law : (a : Act) → valid_act a ≡ true → NameFits (act_name a)
unfolding valid_act act_name
valid_name_law Empty h = none_fits
valid_name_law (AddEntry k i o f d n) h = valid_fits n (and_r (names_entry k i) (valid_name n) h)
valid_name_law (RemoveEntry k i) h = none_fits
valid_name_law (Join g p) h = none_fits
valid_name_law (Leave g p) h = none_fits

pub operation_fits : (o : Operation) → valid_operation o ≡ true → OperationFits o
unfolding valid_operation
operation_fits o h = valid_name_law o.act h

pub unused_fits : OperationFits no_operation
unfolding no_operation act_name
unused_fits = none_fits
