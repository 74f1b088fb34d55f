-- The rows of entries: a row is the very row of its entry exactly where its name is.
use mathlib.Core.Path.{◌≡◌, refl, ap}
use Prim.Native.Nat.{ℕ, zero, suc, ◌*◌, ◌≤◌}
use native.Mathlib.Omega.{arith}
use mathlib.Core.Bool.{Bool, true}
use mathlib.Core.List.{List, [], ◌∷◌}
use lib.ListN.{length, take, drop, length-drop}
use Rattle.lists.specs.Lists.{All, every, eqbs}
use Rattle.lists.proofs.ListLaws.{and_l, and_r, and_i, eqbs_refl}
use Rattle.names.specs.Names.{valid_name}
use Rattle.names.specs.Words.{name_width, name_words, name_of}
use Rattle.names.specs.Inner.{holds_name}
use Rattle.names.proofs.NameLaws.{holds_words, holds_valid, valid_fits}
use Rattle.table_rules.specs.NameTable.{Entry}
use Rattle.table_rules.specs.Valid.{has_a_name}
use Rattle.rows.specs.Rows.{places}
use Rattle.rows.proofs.RowLaws.{Exact}
use Rattle.table_words.specs.Layout.{entry_numbers, entry_width}
use Rattle.table_words.specs.Words.{entry_of, entry_words, entries_in}
use Rattle.table_words.specs.Inner.{EntryFits, row_named}
use Rattle.table_words.proofs.PartLaws.{entry_wide}

exact_row : (r : List ℕ) → entry_width ≤ length r → take name_width (drop entry_numbers r) ≡ name_words (name_of (drop entry_numbers r))
    → take entry_width r ≡ entry_words (entry_of r)
exact_row (a ∷ b ∷ c ∷ d ∷ e ∷ f ∷ t) h n = ap (λ (y : List ℕ). a ∷ b ∷ c ∷ d ∷ e ∷ f ∷ y) n
exact_row [] h n = absurd (omega arith)
exact_row (a ∷ []) h n = absurd (omega arith)
exact_row (a ∷ b ∷ []) h n = absurd (omega arith)
exact_row (a ∷ b ∷ c ∷ []) h n = absurd (omega arith)
exact_row (a ∷ b ∷ c ∷ d ∷ []) h n = absurd (omega arith)
exact_row (a ∷ b ∷ c ∷ d ∷ e ∷ []) h n = absurd (omega arith)

name_words_law : (r : List ℕ) → entry_width ≤ length r → take entry_width r ≡ entry_words (entry_of r)
    → take name_width (drop entry_numbers r) ≡ name_words (name_of (drop entry_numbers r))
name_words_law (a ∷ b ∷ c ∷ d ∷ e ∷ f ∷ t) h n = ap (drop entry_numbers) n
name_words_law [] h n = absurd (omega arith)
name_words_law (a ∷ []) h n = absurd (omega arith)
name_words_law (a ∷ b ∷ []) h n = absurd (omega arith)
name_words_law (a ∷ b ∷ c ∷ []) h n = absurd (omega arith)
name_words_law (a ∷ b ∷ c ∷ d ∷ []) h n = absurd (omega arith)
name_words_law (a ∷ b ∷ c ∷ d ∷ e ∷ []) h n = absurd (omega arith)

row_named_law : (r : List ℕ) → entry_width ≤ length r → take entry_width r ≡ entry_words (entry_of r) → has_a_name (entry_of r) ≡ true → row_named r ≡ true
unfolding holds_name has_a_name
row_named_law r h e v =
    let n : List ℕ = drop entry_numbers r in
    and_i (eqbs (take name_width n) (name_words (name_of n))) (valid_name (name_of n)) (rw (name_words_law r h e) (eqbs_refl (name_words (name_of n)))) v

-- ---- so many rows

module _ (t : List ℕ → Bool) (k : ℕ) (l : List ℕ) (h : every t (places entry_width (suc k) l) ≡ true) where
  first : t l ≡ true
  unfolding every places
  first = and_l (t l) (every t (places entry_width k (drop entry_width l))) h

  others : every t (places entry_width k (drop entry_width l)) ≡ true
  unfolding every places
  others = and_r (t l) (every t (places entry_width k (drop entry_width l))) h

pub named_exact : (k : ℕ) (l : List ℕ) → entry_width * k ≤ length l → every row_named (places entry_width k l) ≡ true
    → Exact entry_width entry_words entry_wide entry_of k l
unfolding places
named_exact zero l b h = tt
named_exact (suc k) l b h = (
  exact_row l (omega arith) (holds_words (drop entry_numbers l) (first row_named k l h)),
  named_exact k (drop entry_width l) (rw (length-drop entry_width l) (omega arith)) (others row_named k l h),
)

pub named_valid : (k : ℕ) (l : List ℕ) → every row_named (places entry_width k l) ≡ true → every has_a_name (entries_in k l) ≡ true
unfolding places every has_a_name
named_valid zero l h = refl
named_valid (suc k) l h =
    and_i (valid_name (name_of (drop entry_numbers l))) (every has_a_name (entries_in k (drop entry_width l)))
    (holds_valid (drop entry_numbers l) (first row_named k l h)) (named_valid k (drop entry_width l) (others row_named k l h))

pub exact_named : (k : ℕ) (l : List ℕ) → entry_width * k ≤ length l → Exact entry_width entry_words entry_wide entry_of k l
    → every has_a_name (entries_in k l) ≡ true → every row_named (places entry_width k l) ≡ true
unfolding places every
exact_named zero l b x h = refl
exact_named (suc k) l b x h =
    and_i (row_named l) (every row_named (places entry_width k (drop entry_width l)))
    (row_named_law l (omega arith) x.0 (and_l (has_a_name (entry_of l)) (every has_a_name (entries_in k (drop entry_width l))) h))
    (exact_named k (drop entry_width l) (rw (length-drop entry_width l) (omega arith)) x.1 (and_r (has_a_name (entry_of l)) (every has_a_name (entries_in k (drop entry_width l))) h))

-- valid names can be held
pub names_fit : (es : List Entry) → every has_a_name es ≡ true → All EntryFits es
unfolding every has_a_name
names_fit [] h = tt
names_fit (e ∷ es) h =
    (valid_fits e.name (and_l (valid_name e.name) (every has_a_name es) h), names_fit es (and_r (valid_name e.name) (every has_a_name es) h))
