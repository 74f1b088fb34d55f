-- `keep` meets its contract: the place is looked at, and taken where it is unused.
-- what the part says that is lent of a place, and when it is the row of an operation
use mathlib.Core.Path.{◌≡◌, refl, ap, sym, ◌∙◌}
use mathlib.Core.List.{List}
use Prim.Native.Nat.{ℕ, ◌+◌, ◌-◌, ◌<◌}
use native.Mathlib.Omega.{arith}
use lib.ListN.{length, take, drop}
use Rattle.lists.specs.Lists.{eqbs}
use Rattle.table_rules.specs.Operations.{same_operation}
use Rattle.table_words.specs.Layout.{operation_width, window_size}
use Rattle.table_words.specs.Words.{of_row, row_of}
use Rattle.table_words.proofs.OperationRows.{row_fits, taken_same, same_rows}
use Rattle.table_window.specs.Window.{used}
use Rattle.std.specs.Prelude.{Ok}
use Rattle.replica.specs.declared.Delivery.TheVariants.{Pending}
use Rattle.replica.specs.Inner.{place_at, held_at}
use Rattle.replica.proofs.ValidLaws.{Valid, valid_parts, valid_window}
use Rattle.replica.proofs.HoldLaws.{place_row, place_long, place_part}
use Rattle.replica.proofs.DeliverLaws.{already_pending, pending_differs, held}
use Rattle.replica.proofs.keep.Goals as goal

module _ (l row : List ℕ) (k : ℕ) (p : Valid l) (h : k < window_size) (exact : row ≡ row_of (of_row row)) where
  abbrev part : List ℕ
  part = take (place_at k + operation_width - place_at k) (drop (place_at k) l)

  says : used (of_row part) ≡ used (of_row (drop (place_at k) l))
  says =
      let r = place_row l k p.long h (valid_window l p) in
      ap (λ (y : List ℕ). used (of_row y)) (place_part l k p.long h (valid_window l p)) ∙ ap used (taken_same (drop (place_at k) l) r)

  same_row : eqbs row part ≡ same_operation (of_row row) (of_row (drop (place_at k) l))
  same_row =
      let r = place_row l k p.long h (valid_window l p) in
      ap (λ (y : List ℕ). eqbs y part) exact
      ∙ ap (eqbs (row_of (of_row row))) (place_part l k p.long h (valid_window l p) ∙ r)
      ∙ same_rows (of_row row) (of_row (drop (place_at k) l)) (row_fits row) (row_fits (drop (place_at k) l))

pub slice_bounds-is_used-end : goal.slice_bounds-is_used-end
slice_bounds-is_used-end c = let l = c.args.w.now in omega (arith, (valid_parts l c.requires.w_value.0).long)

pub is_used-requires : goal.is_used-requires
is_used-requires c =
    let l = c.args.w.now in let k = c.args.k in let p = valid_parts l c.requires.w_value.0 in
    let e = ap length (place_part l k p.long c.requires.row_value.1 (valid_window l p)) ∙ place_long l k p.long c.requires.row_value.1 (valid_window l p) in
    omega (arith, e)

pub slice_bounds-same-end : goal.slice_bounds-same-end
slice_bounds-same-end c = let l = c.args.w.now in omega (arith, (valid_parts l c.requires.w_value.0).long)

pub returns-then-same : goal.returns-then-same
returns-then-same c =
    let l = c.args.w.now in let k = c.args.k in let row = c.args.row.now in let p = valid_parts l c.requires.w_value.0 in
    already_pending l p (of_row row) k (omega (arith, c.requires.row_value.2)) (omega (arith, c.requires.row_value.2)) (omega (arith, c.requires.row_value.2)) (of_row (drop (place_at k) l)) refl
    (sym (says l row k p c.requires.row_value.1 c.requires.w_value.1) ∙ sym c.is_used.ensures ∙ c.if-is_used.true)
    (sym (same_row l row k p c.requires.row_value.1 c.requires.w_value.1) ∙ sym c.same.ensures ∙ c.if-same.true)

pub returns-then-is_used : goal.returns-then-is_used
returns-then-is_used c =
    let l = c.args.w.now in let k = c.args.k in let row = c.args.row.now in let p = valid_parts l c.requires.w_value.0 in
    pending_differs l p (of_row row) k (omega (arith, c.requires.row_value.2)) (omega (arith, c.requires.row_value.2)) (omega (arith, c.requires.row_value.2)) (of_row (drop (place_at k) l)) refl
    (sym (says l row k p c.requires.row_value.1 c.requires.w_value.1) ∙ sym c.is_used.ensures ∙ c.if-is_used.true)
    (sym (same_row l row k p c.requires.row_value.1 c.requires.w_value.1) ∙ sym c.same.ensures ∙ c.if-same.false)

pub hold-requires : goal.hold-requires
hold-requires c = ((valid_parts c.args.w.now c.requires.w_value.0).long, c.requires.row_value.1)

pub returns : goal.returns
returns c =
    let l = c.args.w.now in let k = c.args.k in let row = c.args.row.now in let p = valid_parts l c.requires.w_value.0 in
    let e = c.hold.ensures ∙ ap (λ (y : List ℕ). held_at k y l) c.requires.w_value.1 in
    (λ i. record { answer = Ok Pending; words = e i })
    ∙ held l p (of_row row) k (omega (arith, c.requires.row_value.2)) (omega (arith, c.requires.row_value.2)) (omega (arith, c.requires.row_value.2)) (of_row (drop (place_at k) l)) refl
    (sym (says l row k p c.requires.row_value.1 c.requires.w_value.1) ∙ sym c.is_used.ensures ∙ c.if-is_used.false) c.requires.row_value.0
