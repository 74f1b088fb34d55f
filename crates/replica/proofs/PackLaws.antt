-- A valid replica stands for a valid model, and the words of a valid model are valid and stand for it.
use mathlib.Core.Path.{◌≡◌, refl, sym, ap, ◌∙◌}
use Prim.Native.Nat.{ℕ, suc, ◌+◌, ◌*◌}
use native.Mathlib.Omega.{arith}
use mathlib.Core.Bool.{Bool, true, false, cond, ◌&&◌}
use mathlib.Core.List.{List, [], ◌∷◌, ◌++◌, map, append-nil}
use lib.ListN.{length, drop, replicate, length-append, length-replicate}
use lib.Seq.{drop_at}
use lib.Dec.{eqb}
use Rattle.lists.specs.Lists.{All, every, rising, distinct, eqbs, flat_map}
use Rattle.lists.proofs.ListLaws.{and_r, every_head, every_tail, eqbs_refl}
use Rattle.table_rules.specs.declared.Membership.{Membership}
use Rattle.table_rules.specs.Operations.{Operation, no_operation, valid_operation, act_numbers, act_name}
use Rattle.names.specs.Words.{name_words}
use Rattle.table_rules.specs.NameTable.{NameTable, empty_table}
use Rattle.table_rules.specs.Valid.{memberships_rise, host_present, table_conditions, valid_table}
use Rattle.table_rules.proofs.KeepsLaws.{ValidTable, table_parts, table_whole}
use Rattle.table_words.proofs.OperationRows.{row_wide, row_back, operation_fits, unused_fits}
use Rattle.table_words.proofs.EntryRows.{names_fit}
use Rattle.rows.specs.Rows.{places, packed, is_zero}
use Rattle.rows.proofs.RowLaws.{read_back, zeros_behind}
use Rattle.table_words.specs.Layout.{membership_width, operation_width, window_size, entry_room, membership_room, window_at, word_count}
use Rattle.table_words.specs.Words.{fresh_words, version_of, membership_count, entry_words, membership_words, join, entry_part, membership_part, memberships_in, table_of, window_in, of_row, row_of}
use Rattle.table_words.specs.Inner.{with_table, Packed, OperationFits}
use Rattle.table_words.proofs.PartLaws.{Fits, memberships_words, membership_count_law, window_at_law, table_with, with_packed}
use Rattle.table_window.specs.Window.{pending_of, in_place, window_of}
use Rattle.table_window.proofs.PendingLaws.{IsWindow, pending_window, places_split}
use Rattle.replica.specs.Replica.{Model, view, words_of, pack, at_start}
use Rattle.replica.specs.Valid.{operations_rise, valid_of}
use Rattle.replica.proofs.ValidLaws.{valid_parts, valid_whole}
use Rattle.lists.proofs.FlatLaws.{length_flat}

abbrev version : Operation → ℕ
version o = o.version

-- ---- a valid model

pub record ValidModel (m : Model) : Type 0 where
  pub table_valid : ValidTable m.table
  pub pending_rise : operations_rise (m.table.version + 2) (m.table.version + 32) m.pending ≡ true
  pub pending_valid : every valid_operation m.pending ≡ true

pub view_valid : (l : List ℕ) → valid_of l ≡ true → ValidModel (view l)
unfolding view table_of
view_valid l h = let p = valid_parts l h in record { table_valid = table_parts (table_of l) p.table; pending_rise = p.pending_rise; pending_valid = p.pending_valid }

-- ---- the words of a valid model are valid

-- the words of a table and a window, as a table put before that window
unfoldable under_window : List Operation → List ℕ
under_window os = replicate window_at 0 ++ flat_map row_of os

under_rest : (os : List Operation) → drop window_at (under_window os) ≡ flat_map row_of os
unfolding under_window
under_rest os = drop_at (replicate window_at 0) (flat_map row_of os) window_at (length-replicate {A = ℕ} window_at 0)

words_with : (t : NameTable) (os : List Operation) → words_of t os ≡ with_table t (under_window os)
unfolding words_of with_table
words_with t os =
    ap (join t.version t.host (length t.entries) (length t.memberships) (packed entry_words entry_room t.entries) (packed membership_words membership_room t.memberships))
    (sym (under_rest os))

module _ (t : NameTable) (os : List Operation) (f : Fits t) (n : length os ≡ window_size) where
  under_long : length (under_window os) ≡ word_count
  unfolding under_window
  under_long = length-append (replicate window_at 0) (flat_map row_of os) ∙ omega (arith, length-replicate {A = ℕ} window_at 0, length_flat operation_width row_of row_wide os)

  pub words_packed : Packed (words_of t os)
  words_packed = rw (words_with t os) (with_packed t (under_window os) f under_long)

  pub words_table : table_of (words_of t os) ≡ t
  words_table = ap table_of (words_with t os) ∙ table_with t (under_window os) f

  pub words_rest : drop window_at (words_of t os) ≡ flat_map row_of os
  words_rest = ap (drop window_at) (words_with t os) ∙ window_at_law t (under_window os) f ∙ under_rest os

  pub words_window : All OperationFits os → window_in (drop window_at (words_of t os)) ≡ os
  words_window g =
      ap window_in (words_rest ∙ sym (append-nil (flat_map row_of os)))
      ∙ ap (λ (k : ℕ). map of_row (places operation_width k (flat_map row_of os ++ []))) (sym n)
      ∙ read_back operation_width row_of row_wide of_row OperationFits row_back os [] g

packed_memberships : (l : List ℕ) → Packed l → every is_zero (drop (membership_width * membership_count l) (membership_part l)) ≡ true
unfolding table_of
packed_memberships l p =
    let ms : List Membership = memberships_in (membership_count l) (membership_part l) in
    zeros_behind membership_words membership_room (membership_width * membership_count l) (membership_part l) ms p.memberships_same
    (memberships_words ms ∙ ap (λ (k : ℕ). membership_width * k) (membership_count_law l)) (omega (arith, p.memberships_fit))

is_window : (m : Model) → ValidModel m → IsWindow (m.table.version + 2) window_size m.pending
is_window m v = pending_window (m.table.version + 2) window_size (m.table.version + 32) m.pending (omega arith) v.pending_rise v.pending_valid

window_length : (v n : ℕ) (os : List Operation) → length (window_of v n os) ≡ n
unfolding window_of
window_length v ℕ.zero os = refl
window_length v (suc n) [] = ap suc (window_length (suc v) n [])
window_length v (suc n) (o ∷ os) = go (eqb o.version v) (window_length (suc v) n os) (window_length (suc v) n (o ∷ os))
  where
    go : (b : Bool) → length (window_of (suc v) n os) ≡ n → length (window_of (suc v) n (o ∷ os)) ≡ n
        → length (cond b (o ∷ window_of (suc v) n os) (no_operation ∷ window_of (suc v) n (o ∷ os))) ≡ suc n
    go true a b = ap suc a
    go false a b = ap suc b

-- valid operations in their places can be held
window_fits : (v n : ℕ) (os : List Operation) → every valid_operation os ≡ true → All OperationFits (window_of v n os)
unfolding window_of
window_fits v ℕ.zero os h = tt
window_fits v (suc n) [] h = (unused_fits, window_fits (suc v) n [] h)
window_fits v (suc n) (o ∷ os) h =
    go (eqb o.version v) (window_fits (suc v) n os (every_tail valid_operation o os h)) (window_fits (suc v) n (o ∷ os) h)
  where
    go : (b : Bool) → All OperationFits (window_of (suc v) n os) → All OperationFits (window_of (suc v) n (o ∷ os))
        → All OperationFits (cond b (o ∷ window_of (suc v) n os) (no_operation ∷ window_of (suc v) n (o ∷ os)))
    go true a b = (operation_fits o (every_head valid_operation o os h), a)
    go false a b = (unused_fits, b)

module _ (m : Model) (v : ValidModel m) where
  abbrev os : List Operation
  os = window_of (m.table.version + 2) window_size m.pending

  fits : Fits m.table
  fits = record {
    entries_fit = v.table_valid.few;
    memberships_fit = v.table_valid.few_pairs;
    names_fit = names_fit m.table.entries v.table_valid.names_valid;
  }

  long : length os ≡ window_size
  long = window_length (m.table.version + 2) window_size m.pending

  pub pack_table : table_of (pack m) ≡ m.table
  unfolding pack
  pack_table = words_table m.table os fits long

  pub pack_window : window_in (drop window_at (pack m)) ≡ os
  unfolding pack
  pack_window = words_window m.table os fits long (window_fits (m.table.version + 2) window_size m.pending v.pending_valid)

  pub pack_pending : pending_of (window_in (drop window_at (pack m))) ≡ m.pending
  pack_pending = ap pending_of pack_window ∙ (is_window m v).pends

  pack_rows : eqbs (drop window_at (pack m)) (flat_map row_of (window_in (drop window_at (pack m)))) ≡ true
  unfolding pack
  pack_rows = rw (pack_window, words_rest m.table os fits long) (eqbs_refl (flat_map row_of os))

  pack_packed : Packed (pack m)
  unfolding pack
  pack_packed = words_packed m.table os fits long

  pack_entries : eqbs (entry_part (pack m)) (packed entry_words entry_room (table_of (pack m)).entries) ≡ true
  unfolding table_of
  pack_entries = let es = pack_packed.entries_same in ap (λ (y : List ℕ). eqbs y (packed entry_words entry_room (table_of (pack m)).entries)) es ∙ eqbs_refl (packed entry_words entry_room (table_of (pack m)).entries)

  pack_version : version_of (pack m) ≡ m.table.version
  unfolding pack words_of
  pack_version = refl

  pub pack_valid : valid_of (pack m) ≡ true
  unfolding view
  pack_valid =
      let p : Packed (pack m) = pack_packed in
      let q : every valid_operation (pending_of os) && in_place (m.table.version + 2) os ≡ true =
      sym (places_split (m.table.version + 2) os) ∙ (is_window m v).valid in
      valid_whole (pack m) (record {
        long = p.long;
        table = ap valid_table pack_table ∙ table_whole m.table v.table_valid;
        pending_rise = rw (pack_version, pack_pending) v.pending_rise;
        pending_valid = rw pack_pending v.pending_valid;
        entries_same = pack_entries;
        memberships_zero = packed_memberships (pack m) p;
        rows_same = pack_rows;
        in_place = rw (pack_version, pack_window) (and_r (every valid_operation (pending_of os)) (in_place (m.table.version + 2) os) q);
      })

  pub view_pack : view (pack m) ≡ m
  unfolding view
  view_pack = λ i. record { table = pack_table i; pending = pack_pending i }

-- ---- the fresh replica

pub empty_table_law : valid_table empty_table ≡ true
unfolding valid_table table_conditions every rising distinct memberships_rise host_present
empty_table_law = refl

empty_valid : ValidModel (at_start empty_table)
unfolding every rising
empty_valid = record { table_valid = table_parts empty_table empty_table_law; pending_rise = refl; pending_valid = refl }

-- it is the words of the empty name table
pub fresh_pack : fresh_words ≡ pack (at_start empty_table)
unfolding fresh_words pack words_of window_of row_of act_numbers act_name name_words no_operation
fresh_pack = refl

pub fresh_valid : valid_of fresh_words ≡ true
fresh_valid = rw fresh_pack (pack_valid (at_start empty_table) empty_valid)
