-- What delivery makes of a message is a valid operation: check 7 has seen to its ids, and check 10 to its name. Its version has 32 bits.
use mathlib.Core.Path.{◌≡◌, refl, sym, ap, ◌∙◌}
use Prim.Native.Nat.{ℕ, ◌+◌, ◌<◌, ◌^◌}
use native.Mathlib.Omega.{arith}
use mathlib.Core.Bool.{true, not}
use mathlib.Core.List.{List, [], ◌∷◌, map}
use lib.ListN.{get_or, length}
use lib.Dec.{eqb, ltb, lit<}
use borrow.Author.Tests.{eqb-true}
use Rattle.std.specs.Prelude.{Ok, Err}
use Rattle.refusal.specs.declared.Refusal.{Refusal}
use Rattle.refusal.specs.Numbers.{refusal_of}
use Rattle.refusal.proofs.CheckLaws.{each_passed, passed}
use Rattle.refusal.proofs.NumberLaws.{number_positive}
use Rattle.byte_words.specs.Bytes.{little, AllBytes}
use Rattle.byte_words.proofs.ByteLaws.{word_bound}
use Rattle.wire_field.specs.declared.Fields.{Fields}
use Rattle.wire_field.specs.Words.{type_word, word}
use Rattle.wire_field.specs.Fields.{part_of}
use Rattle.wire_layout.specs.Layout.{Layout, first, third, entry_size, add_player_word, create_group_word, entry_layout, exact_layout}
use Rattle.wire_layout.specs.Layout.{add_player, destroy_player, create_group, destroy_group, add_to_group, delete_from_group}
use Rattle.wire_layout.specs.Checks.{id_no, ids_no, layout_checks, layout_no}
use Rattle.wire_layout.proofs.LieLaws.{by_test}
use Rattle.wire_entry.specs.Entry.{entry_at}
use Rattle.wire_read.specs.Values.{add_player_of, destroy_player_of, create_group_of, destroy_group_of, add_to_group_of, delete_from_group_of}
use Rattle.wire_read.specs.Read.{Reading, answer, by_rows, reading_of}
use Rattle.wire_read.specs.Values.{Row, rows}
use Rattle.wire_read.specs.declared.Message.{Message}
use Rattle.wire_layout.specs.Checks.{layout_fields}
use Rattle.table_rules.specs.Operations.{player, group, is_kind, no_operation, valid_act, valid_operation}
use Rattle.operations.specs.Received.{added_read, operation_said, operation_of, operation_in}
use Rattle.operations.proofs.NameLaws.{name_valid}

-- what holds of every refusal, and of what each type says where its checks pass, holds of what reading answers
module _ (P : Reading → Type 0) (m : List ℕ) (refused : (why : Refusal) → P (Err why)) where
  abbrev pub RowMeets : Row → Type 0
  RowMeets r = layout_no (r.layout m) m ≡ 0 → P (Ok (record { message = r.said m; fields = layout_fields (r.layout m) m }))

  abbrev pub RowsMeet : List Row → Type 0
  RowsMeet [] = Unit {0}
  RowsMeet (r ∷ rs) = RowMeets r × RowsMeet rs

  by_rows_law : (rs : List Row) → RowsMeet rs → (type : ℕ) → P (by_rows rs type m)
  unfolding answer
  by_rows_law [] f type = refused (refusal_of 3)
  by_rows_law (r ∷ rs) f type =
      by_test P (eqb type r.kind)
      (λ _. by_test P (eqb (layout_no (r.layout m) m) 0)
      (λ e. f.0 (eqb-true (layout_no (r.layout m) m) 0 e))
      (λ _. refused (refusal_of (layout_no (r.layout m) m))))
      (λ _. by_rows_law rs f.1 type)

  pub by_reading : RowsMeet rows → P (reading_of m)
  unfolding reading_of
  by_reading f =
      by_test P (ltb 16384 (length m)) (λ _. refused (refusal_of 1))
      (λ _. by_test P (ltb (length m) 4) (λ _. refused (refusal_of 2)) (λ _. by_rows_law rows f (word m 0)))

-- a reading that is no operation, or one that is valid
abbrev Valid : List ℕ → Reading → Type 0
Valid m r = (operation_of m r).number ≡ 0 → valid_operation (operation_of m r).operation ≡ true

abbrev read_as : Message → Fields → Reading
read_as said fs = Ok (record { message = said; fields = fs })

module _ (m : List ℕ) where
  id_set : (l : Layout) (i : ℕ) → layout_no l m ≡ 0 → get_or (map (id_no m) l.ids) i 0 ≡ 0
  unfolding layout_no layout_checks ids_no
  id_set l i e = each_passed (map (id_no m) l.ids) i (each_passed (layout_checks l m) 3 e)

  not_zero : (p : ℕ) → id_no m p ≡ 0 → not (eqb (word m p) 0) ≡ true
  not_zero p e = ap not (passed (eqb (word m p) 0) 7 (omega arith) e)

  -- what is refused is no operation
  number : (why : Refusal) → Valid m (Err why)
  unfolding operation_of
  number why e = absurd (omega (arith, number_positive why, e))

  -- 0xC1 and 0xD3 are no operations
  none : (message : Message) (fs : Fields) → ((name : List ℕ) → (operation_said name message).number ≡ 13) → Valid m (read_as message fs)
  unfolding operation_of
  none message fs e h = absurd (let z : ◌≡◌ {A = ℕ} 0 13 = sym h ∙ e _ in omega arith)

  -- an entry block of a known kind
  adds : (k kind p fixed : ℕ) → is_kind k ≡ true → layout_no (entry_layout kind p fixed) m ≡ 0
      → valid_act (added_read k (entry_at m p) (part_of m (layout_fields (entry_layout kind p fixed) m).name)).operation.act ≡ true
  unfolding valid_act entry_layout entry_at
  adds k kind p fixed known e = rw (known, not_zero p (id_set (entry_layout kind p fixed) 0 e)) (name_valid kind p fixed m e)

  adds_player : layout_no add_player m ≡ 0 → Valid m (read_as (add_player_of m) (layout_fields add_player m))
  unfolding operation_of operation_said valid_operation
  adds_player e h = adds player add_player_word first (type_word + entry_size) refl e

  creates : layout_no create_group m ≡ 0 → Valid m (read_as (create_group_of m) (layout_fields create_group m))
  unfolding operation_of operation_said valid_operation
  creates e h = adds group create_group_word third (third + entry_size) refl e

  destroys : layout_no destroy_player m ≡ 0 → Valid m (read_as (destroy_player_of m) (layout_fields destroy_player m))
  unfolding operation_of operation_said valid_operation valid_act exact_layout
  destroys e h = not_zero 4 (id_set destroy_player 0 e)

  destroys_group : layout_no destroy_group m ≡ 0 → Valid m (read_as (destroy_group_of m) (layout_fields destroy_group m))
  unfolding operation_of operation_said valid_operation valid_act exact_layout
  destroys_group e h = not_zero 4 (id_set destroy_group 0 e)

  joins : layout_no add_to_group m ≡ 0 → Valid m (read_as (add_to_group_of m) (layout_fields add_to_group m))
  unfolding operation_of operation_said valid_operation valid_act exact_layout
  joins e h = rw (not_zero 4 (id_set add_to_group 0 e)) (not_zero 8 (id_set add_to_group 1 e))

  leaves : layout_no delete_from_group m ≡ 0 → Valid m (read_as (delete_from_group_of m) (layout_fields delete_from_group m))
  unfolding operation_of operation_said valid_operation valid_act exact_layout
  leaves e h = rw (not_zero 4 (id_set delete_from_group 0 e)) (not_zero 8 (id_set delete_from_group 1 e))

  pub read_valid : (operation_in m).number ≡ 0 → valid_operation (operation_in m).operation ≡ true
  unfolding operation_in operation_said
  read_valid =
      by_reading (Valid m) m number (λ e. none _ _ (λ name. refl), (adds_player, (destroys, (λ e. none _ _ (λ name. refl), (creates, (destroys_group, (joins, (leaves, tt))))))))

-- the version of an operation that is read is one of the message's words
abbrev Small : List ℕ → Reading → Type 0
Small m r = (operation_of m r).operation.version < 256 ^ 4

pub read_version : (m : List ℕ) → AllBytes m → (operation_in m).operation.version < 256 ^ 4
unfolding operation_in operation_of operation_said no_operation entry_at
read_version m b =
    let fits : (p : ℕ) → word m p < 256 ^ 4 = word_bound little m b in
    by_reading (Small m) m (λ why. lit< tt) (λ e. lit< tt, (λ e. fits 16, (λ e. fits 8, (λ e. lit< tt, (λ e. fits 24, (λ e. fits 8, (λ e. fits 12, (λ e. fits 12, tt))))))))
