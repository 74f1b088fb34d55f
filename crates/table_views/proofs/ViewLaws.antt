-- Laws of the rows that callers see.
use mathlib.Core.Path.{◌≡◌, refl, ap, sym, ◌∙◌}
use Prim.Native.Nat.{ℕ, ◌+◌, ◌*◌, ◌≤◌, ◌<◌}
use native.Mathlib.Omega.{arith}
use mathlib.Core.List.{List, [], ◌++◌, append_assoc}
use lib.ListN.{length, get_or, take, drop, take-append-drop, length-drop}
use lib.Seq.{drop-drop, drop-nil, take_all}
use borrow.Author.Tests.{lt-ltb, le-ltb, eq-eqb, ne_eqb}
use Rattle.names.specs.Words.{name_words, name_of}
use Rattle.names.proofs.NameLaws.{name_back}
use Rattle.rows.proofs.RowLaws.{place_of, place_all, exact_words}
use Rattle.table_rules.specs.Operations.{Act, Empty, AddEntry, RemoveEntry, Join, Leave, Operation, no_operation, number_count, act_numbers, act_name}
use Rattle.table_rules.specs.NameTable.{Entry, max_entries, max_memberships}
use Rattle.table_rules.proofs.OperationLaws.{numbers_behind}
use Rattle.table_words.specs.Layout.{entry_width, membership_width, operation_width, window_size, entry_room, membership_room}
use Rattle.table_words.specs.Layout.{entries_at, memberships_at, window_at, word_count}
use Rattle.table_words.specs.Words.{entry_count, membership_count, entry_of, membership_of, entry_part, membership_part, of_row, row_of, table_of}
use Rattle.table_words.proofs.OperationRows.{row_wide, row_fits}
use Rattle.table_words.proofs.CutRows.{part_before, entry_cut, membership_cut}
use Rattle.table_views.specs.Views.{name_at, numbers_shown, nth_entry, nth_name, nth_membership, numbers_at, pending_name, pending_at}
use Rattle.table_views.specs.Views.{ExactWindow, ViewsAgree}

-- ---- where there is no name

module _ (first width numbers n : ℕ) (l : List ℕ) (i : ℕ) where
  pub name_past : length l ≡ word_count → n ≤ i → [] ≡ name_at first width numbers n l i
  unfolding name_of
  name_past g h = rw (eq-eqb (length l) word_count g, le-ltb i n h, drop-nil {A = ℕ} numbers)

  pub name_none : (length l ≡ word_count → ⊥) → [] ≡ name_at first width numbers n l i
  name_none g = rw (ne_eqb (length l) word_count g)

-- ---- what a row says is in its own words

part_same : {A : Type 0} (of : List ℕ → A) (w : ℕ) → ((r : List ℕ) → of (take w r) ≡ of r) → (at room k : ℕ) (l : List ℕ) → k + w ≤ room
    → of (drop (at + k) l) ≡ of (drop k (take room (drop at l)))
part_same of w taken at room k l h =
    sym (taken (drop (at + k) l))
    ∙ ap of (ap (take w) (sym (drop-drop k at l)) ∙ sym (part_before k w room (drop at l) h))
    ∙ taken (drop k (take room (drop at l)))

-- ---- the row of an operation

numbers_front : (v : ℕ) (a : Act) (r : List ℕ) → numbers_shown (act_numbers v a ++ r) ≡ numbers_shown (act_numbers v a)
unfolding act_numbers
numbers_front v Empty r = refl
numbers_front v (AddEntry k i o f d n) r = refl
numbers_front v (RemoveEntry k i) r = refl
numbers_front v (Join g p) r = refl
numbers_front v (Leave g p) r = refl

module _ (r : List ℕ) (exact : take operation_width r ≡ row_of (of_row r)) where
  abbrev v : ℕ
  v = (of_row r).version

  abbrev a : Act
  a = (of_row r).act

  abbrev behind : List ℕ
  behind = name_words (act_name a) ++ drop operation_width r

  whole : r ≡ act_numbers v a ++ behind
  unfolding row_of
  whole =
      sym (take-append-drop operation_width r) ∙ ap (λ (y : List ℕ). y ++ drop operation_width r) exact
      ∙ append_assoc (act_numbers v a) (name_words (act_name a)) (drop operation_width r)

  row_numbers : numbers_shown r ≡ numbers_shown (act_numbers v a)
  row_numbers = ap numbers_shown whole ∙ numbers_front v a behind

  row_name : name_of (drop number_count r) ≡ act_name a
  row_name =
      ap (λ (y : List ℕ). name_of (drop number_count y)) whole ∙ ap name_of (numbers_behind v a behind)
      ∙ name_back (act_name a) (drop operation_width r) (row_fits r)

-- ---- what is shown of a place in use is what the words hold there

module _ (l : List ℕ) (i : ℕ) (h : i < window_size) where
  abbrev place : List ℕ
  place = drop (operation_width * i) (drop window_at l)

  place_exact : ExactWindow l → take operation_width place ≡ row_of (of_row place)
  place_exact x =
      let n : length (drop window_at l) ≡ operation_width * window_size = length-drop window_at l ∙ omega (arith, x.long) in
      place_all (λ r. take operation_width r ≡ row_of (of_row r)) operation_width window_size i (drop window_at l) h
      (exact_words operation_width row_of row_wide of_row window_size (drop window_at l) (omega arith)
      (take_all (operation_width * window_size) (drop window_at l) (omega arith) ∙ x.rows))

  said : of_row place ≡ pending_at l i
  said = sym (place_of of_row no_operation operation_width window_size i (drop window_at l) h)

pub views_agree : (l : List ℕ) (i : ℕ) → ViewsAgree l i
unfolding nth_entry nth_name nth_membership numbers_at pending_name table_of
views_agree l i = record {
  entries = entry;
  names = λ e h f. rw (eq-eqb (length l) word_count e) (ap (λ (x : Entry). x.name) (entry h f));
  memberships = λ h f.
      let b : i < max_memberships = omega arith in
      rw (lt-ltb i max_memberships b)
      (part_same membership_of membership_width membership_cut memberships_at membership_room (membership_width * i) l (omega arith)
      ∙ sym (place_of membership_of (membership_of []) membership_width (membership_count l) i (membership_part l) h));
  pending = λ h x.
      rw (lt-ltb i window_size h)
      (ap numbers_shown (sym (drop-drop (operation_width * i) window_at l)) ∙ row_numbers (place l i h) (place_exact l i h x)
      ∙ ap (λ (o : Operation). numbers_shown (act_numbers o.version o.act)) (said l i h));
  pending_names = λ h x.
      rw (eq-eqb (length l) word_count x.long, lt-ltb i window_size h)
      (ap (λ (y : List ℕ). name_of (drop number_count y)) (sym (drop-drop (operation_width * i) window_at l)) ∙ row_name (place l i h) (place_exact l i h x)
      ∙ ap (λ (o : Operation). act_name o.act) (said l i h));
}
  where
    entry : i < entry_count l → entry_count l ≤ max_entries → nth_entry l i ≡ get_or (table_of l).entries i (entry_of [])
    entry h f =
        let b : i < max_entries = omega arith in
        rw (lt-ltb i max_entries b)
        (part_same entry_of entry_width entry_cut entries_at entry_room (entry_width * i) l (omega arith)
        ∙ sym (place_of entry_of (entry_of []) entry_width (entry_count l) i (entry_part l) h))
