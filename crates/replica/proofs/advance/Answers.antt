-- `advance` meets its contract: the operation applied, then the run at the front of the window, and the window moved once.
use mathlib.Core.Path.{◌≡◌, ap, ◌∙◌}
use Prim.Native.Nat.{◌≤◌, ℕ}
use native.Mathlib.Omega.{arith}
use mathlib.Core.List.{List}
use lib.ListN.{length, take, drop}
use Rattle.table_words.specs.Layout.{window_size, window_room, window_at, word_count}
use Rattle.table_words.specs.Words.{window_in, of_row}
use Rattle.table_words.proofs.OperationRows.{row_fits}
use Rattle.table_window.specs.Inner.{run_of}
use Rattle.replica.proofs.ValidLaws.{Valid, valid_parts, valid_packed, valid_window, window_part_law, rest_long}
use Rattle.replica.proofs.RunLaws.{bit_small}
use Rattle.replica.proofs.WordRun.{after_packed, after_window}
use Rattle.replica.proofs.DeliverLaws.{run_few, noops_few_run, tidy_2, advanced}
use Rattle.replica.proofs.advance.Goals as goal

pub slice_bounds-run_length-end : goal.slice_bounds-run_length-end
slice_bounds-run_length-end c = omega (arith, (valid_parts c.args.w.now c.requires.w_value.0).long)

pub run_length-n-requires : goal.run_length-n-requires
run_length-n-requires c =
    let l = c.args.w.now in
    let p : Valid l = valid_parts l c.requires.w_value.0 in
    ap length (window_part_law l p.long) ∙ rest_long l p.long

pub apply-requires : goal.apply-requires
apply-requires c =
    let l = c.args.w.now in
    (valid_packed l (valid_parts l c.requires.w_value.0), c.requires.w_value.1)

pub apply_run-more-requires : goal.apply_run-more-requires
apply_run-more-requires c =
    let l = c.args.w.now in let row = c.args.row.now in
    let p : Valid l = valid_parts l c.requires.w_value.0 in
    let n : c.run_length-n.result ≤ window_size = rw c.run_length-n.ensures (run_few (take window_room (drop window_at l))) in (
      after_packed l (of_row row) c.apply.result c.apply.new.w (valid_packed l p) c.apply.ensures (row_fits row),
      omega (arith, n),
      rw (after_window l (of_row row) c.apply.result c.apply.new.w (valid_packed l p) c.apply.ensures (row_fits row)) (valid_window l p),
    )

pub slice_bounds-shift-end : goal.slice_bounds-shift-end
slice_bounds-shift-end c =
    omega (arith, c.apply_run-more.auto.w, c.apply.auto.w, (valid_parts c.args.w.now c.requires.w_value.0).long)

pub overflow_add-n : goal.overflow_add-n
overflow_add-n c =
    let n : c.run_length-n.result ≤ window_size = rw c.run_length-n.ensures (run_few (take window_room (drop window_at c.args.w.now))) in
    omega (arith, n)

pub shift-requires : goal.shift-requires
shift-requires c =
    let l = c.args.w.now in let row = c.args.row.now in let r = c.apply_run-more in
    let p : Valid l = valid_parts l c.requires.w_value.0 in
    let e : length r.new.w ≡ word_count = r.auto.w ∙ c.apply.auto.w ∙ p.long in
    let n : c.run_length-n.result ≡ run_of (window_in (drop window_at l)) = c.run_length-n.ensures ∙ ap (λ (y : List ℕ). run_of (window_in y)) (window_part_law l p.long) in (
      ap length (window_part_law r.new.w e) ∙ rest_long r.new.w e,
      tidy_2 l p (of_row row) c.requires.row_value (row_fits row) c.apply.result c.apply.new.w c.apply.ensures c.run_length-n.result n
          r.result r.new.w r.ensures,
    )

pub short-requires : goal.short-requires
short-requires c = rw c.run_length-n.ensures (run_few (take window_room (drop window_at c.args.w.now)))

pub overflow_add-result : goal.overflow_add-result
overflow_add-result c =
    let n : c.run_length-n.result ≤ window_size = rw c.run_length-n.ensures (run_few (take window_room (drop window_at c.args.w.now))) in
    omega (arith, n, c.short.ensures)

pub overflow_add-result-2 : goal.overflow_add-result-2
overflow_add-result-2 c =
    let a = c.apply in
    let r = c.apply_run-more in
    omega (arith, c.one_if-first.ensures, bit_small a.result, noops_few_run a.new.w c.run_length-n.result r.result r.new.w r.ensures)

pub returns : goal.returns
returns c =
    let l = c.args.w.now in let row = c.args.row.now in
    let p : Valid l = valid_parts l c.requires.w_value.0 in
    let a = c.apply in
    let r = c.apply_run-more in
    let n : c.run_length-n.result ≡ run_of (window_in (drop window_at l)) = c.run_length-n.ensures ∙ ap (λ (y : List ℕ). run_of (window_in y)) (window_part_law l p.long) in
    rw (c.short.ensures, c.one_if-first.ensures)
    (advanced l p (of_row row) c.requires.row_value (row_fits row) a.result a.new.w a.ensures c.run_length-n.result n r.result r.new.w r.ensures c.shift.new.s c.shift.ensures)
