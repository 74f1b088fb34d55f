-- A row says the same when it is cut to its width.
use mathlib.Core.Path.{◌≡◌, refl, ap, sym, ◌∙◌}
use Prim.Native.Nat.{ℕ, zero, suc, ◌+◌, ◌≤◌}
use native.Mathlib.Omega.{arith}
use mathlib.Core.List.{List, [], ◌∷◌}
use lib.ListN.{take, drop, get_or}
use lib.Seq.{get_or-take, take-take}
use Rattle.names.specs.Words.{unit_words, name_width, halves, name_of}
use Rattle.names.specs.Inner.{holds_name}
use Rattle.table_rules.specs.Operations.{number_count, act_said}
use Rattle.table_words.specs.Layout.{entry_numbers, entry_width, membership_width, operation_width}
use Rattle.table_words.specs.Words.{entry_of, membership_of, of_row}
use Rattle.table_words.specs.Inner.{row_named}

-- words of a part are words of the whole
pub part_before : (q k a : ℕ) (m : List ℕ) → q + k ≤ a → take k (drop q (take a m)) ≡ take k (drop q m)
part_before zero k a m h = take-take k a m (omega arith)
part_before (suc q) k zero m h = absurd (omega arith)
part_before (suc q) k (suc a) [] h = refl
part_before (suc q) k (suc a) (x ∷ m) h = part_before q k a m (omega arith)

-- what is read of a name's words alone
module _ {A : Type 0} (of : List ℕ → A) (taken : (r : List ℕ) → of (take name_width r) ≡ of r) where
  behind : (q w : ℕ) (r : List ℕ) → q + name_width ≤ w → of (drop q (take w r)) ≡ of (drop q r)
  behind q w r h = sym (taken (drop q (take w r))) ∙ ap of (part_before q name_width w r h) ∙ taken (drop q r)

pub name_taken : (r : List ℕ) → name_of (take name_width r) ≡ name_of r
unfolding name_of
name_taken [] = refl
name_taken (n ∷ r) = ap (λ (y : List ℕ). take n (halves y)) (take-take unit_words unit_words r (omega arith))

holds_taken : (r : List ℕ) → holds_name (take name_width r) ≡ holds_name r
unfolding holds_name
holds_taken r = rw (take-take name_width name_width r (omega arith), name_taken r)

pub entry_cut : (r : List ℕ) → entry_of (take entry_width r) ≡ entry_of r
entry_cut r = λ j. record {
  kind = get_or-take entry_width r 0 0 (omega arith) j;
  id = get_or-take entry_width r 1 0 (omega arith) j;
  owner = get_or-take entry_width r 2 0 (omega arith) j;
  flags = get_or-take entry_width r 3 0 (omega arith) j;
  version = get_or-take entry_width r 4 0 (omega arith) j;
  dnet = get_or-take entry_width r 5 0 (omega arith) j;
  name = behind name_of name_taken entry_numbers entry_width r (omega arith) j;
}

pub named_cut : (r : List ℕ) → row_named (take entry_width r) ≡ row_named r
named_cut r = behind holds_name holds_taken entry_numbers entry_width r (omega arith)

pub membership_cut : (r : List ℕ) → membership_of (take membership_width r) ≡ membership_of r
membership_cut r = λ j. record {
  group = get_or-take membership_width r 0 0 (omega arith) j;
  player = get_or-take membership_width r 1 0 (omega arith) j;
}

pub operation_cut : (r : List ℕ) → of_row (take operation_width r) ≡ of_row r
unfolding of_row act_said
operation_cut r =
    let at : (c : ℕ) → suc c ≤ operation_width → get_or (take operation_width r) c 0 ≡ get_or r c 0 = λ c h. get_or-take operation_width r c 0 h in
    rw (
      at 0 (omega arith),
      at 1 (omega arith),
      at 2 (omega arith),
      at 3 (omega arith),
      at 4 (omega arith),
      at 5 (omega arith),
      at 6 (omega arith),
      behind name_of name_taken number_count operation_width r (omega arith),
    )
