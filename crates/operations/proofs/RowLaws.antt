-- Laws of the rows that messages give.
use mathlib.Core.Path.{◌≡◌, refl, ap, sym, ◌∙◌}
use Prim.Native.Nat.{ℕ, ◌+◌, ◌<◌}
use native.Mathlib.Omega.{arith}
use mathlib.Core.List.{List, [], ◌++◌, append-nil}
use lib.ListN.{length, take, drop, replicate, length-drop, drop_of_length-le}
use lib.Seq.{take_at, drop_at}
use Rattle.rows.specs.Rows.{put_words}
use Rattle.rows.proofs.MoveLaws.{lent}
use Rattle.rows.proofs.RowLaws.{drop_zeros}
use Rattle.std.specs.Prelude.{Some, None}
use Rattle.wire_field.specs.Words.{type_word}
use Rattle.wire_field.specs.Fields.{Field, part_of, Lies}
use Rattle.names.specs.Words.{name_width, name_words}
use Rattle.names.proofs.NameLaws.{no_words}
use Rattle.table_rules.specs.Operations.{number_count}
use Rattle.table_words.specs.Layout.{operation_width}

-- a message without a whole type word has no present field
pub short_part : (m : List ℕ) (f : Field) → Lies (length m) f → length m < type_word → ◌≡◌ {A = List ℕ} [] (part_of m f)
short_part m None h k = refl
short_part m (Some s) h k = absurd (omega (arith, h.0, h.1))

pub plain_row : (row ns : List ℕ) → length row ≡ operation_width → length ns ≡ number_count
    → put_words (replicate (length row) 0) 0 ns ≡ ns ++ name_words []
plain_row row ns h k =
    ap (λ (n : ℕ). ns ++ drop (0 + length ns) (replicate n 0)) h
    ∙ ap (λ (n : ℕ). ns ++ drop n (replicate operation_width 0)) (let e : 0 + length ns ≡ number_count = omega arith in e)
    ∙ ap (λ (y : List ℕ). ns ++ y) (drop_zeros number_count operation_width (omega arith) ∙ sym no_words)

-- numbers put at the front of a row, and a name behind them
pub named_row : (row ns z : List ℕ) → length row ≡ operation_width → length ns ≡ number_count → length z ≡ name_width
    → lent number_count name_width (put_words row 0 ns) z ≡ ns ++ z
named_row row ns z h k l =
    let w : List ℕ = ns ++ drop (0 + length ns) row in
    let ld : length (drop (0 + length ns) row) ≡ name_width = length-drop (0 + length ns) row ∙ omega arith in
    let front : take number_count w ≡ ns = take_at ns (drop (0 + length ns) row) number_count k in
    let back : drop number_count w ≡ drop (0 + length ns) row = drop_at ns (drop (0 + length ns) row) number_count k in
    let none : drop name_width (drop number_count w) ≡ [] = ap (drop name_width) back ∙ drop_of_length-le (drop (0 + length ns) row) {i = name_width} (omega arith) in
    ap (λ (y : List ℕ). y ++ (z ++ drop name_width (drop number_count w))) front
    ∙ ap (λ (y : List ℕ). ns ++ (z ++ y)) none
    ∙ ap (λ (y : List ℕ). ns ++ y) (append-nil z)
