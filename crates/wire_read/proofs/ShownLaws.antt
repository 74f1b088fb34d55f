-- Every field that reading shows lies in the message: of every listed type at once.
use mathlib.Core.Path.{◌≡◌, refl}
use Prim.Native.Nat.{ℕ}
use mathlib.Core.List.{List, [], ◌∷◌}
use lib.ListN.{length, drop, length-drop}
use lib.Seq.{length-take-le}
use native.Mathlib.Omega.{arith}
use lib.Dec.{ltb, eqb}
use borrow.Author.Tests.{eqb-true}
use Rattle.std.specs.Prelude.{Some, None}
use Rattle.wire_field.specs.declared.FieldName.{FieldName}
use Rattle.wire_field.specs.declared.Absence.TheVariants.{Both}
use Rattle.wire_field.specs.Words.{word}
use Rattle.wire_layout.specs.Layout.{Layout, most_bytes}
use Rattle.wire_field.specs.Fields.{Field, field_named, part_of, Lies}
use Rattle.wire_layout.specs.Checks.{layout_no}
use Rattle.wire_layout.proofs.LieLaws.{by_test, none_lie, layout_lies}
use Rattle.wire_read.specs.Read.{Reading, answer, by_rows, reading_of, no_fields, fields_of, size_of, FieldsWhole}
use Rattle.wire_read.specs.Values.{Row, rows}
use Rattle.wire_read.specs.declared.Message.{Message}

module _ (m : List ℕ) (n : FieldName) where
  abbrev Shown : Reading → Type 0
  Shown r = Lies (length m) (field_named n (fields_of r))

  none : Lies (length m) (field_named n no_fields)
  unfolding no_fields
  none = none_lie m Both n

  answer_lies : (l : Layout) (said : List ℕ → Message) → Shown (answer l said m)
  unfolding answer
  answer_lies l said =
      by_test Shown (eqb (layout_no l m) 0) (λ e. layout_lies m l (eqb-true (layout_no l m) 0 e) n) (λ _. none)

  rows_lie : (rs : List Row) (type : ℕ) → Shown (by_rows rs type m)
  rows_lie [] type = none
  rows_lie (r ∷ rs) type = by_test Shown (eqb type r.kind) (λ _. answer_lies (r.layout m) r.said) (λ _. rows_lie rs type)

  pub reading_lies : Shown (reading_of m)
  unfolding reading_of
  reading_lies =
      by_test Shown (ltb most_bytes (length m)) (λ _. none) (λ _. by_test Shown (ltb (length m) 4) (λ _. none) (λ _. rows_lie rows (word m 0)))

all_bytes : (m : List ℕ) (f : Field) → Lies (length m) f → length (part_of m f) ≡ size_of f
all_bytes m None h = refl
all_bytes m (Some s) h =
    length-take-le s.size (drop s.start.0 m) (rw (length-drop s.start.0 m) (let e = h.1 in omega arith))

pub fields_whole : FieldsWhole
fields_whole = record {
  lies = reading_lies;
  all_shown = λ m n. all_bytes m (field_named n (fields_of (reading_of m))) (reading_lies m n);
}
