-- `accept` meets its contract: too late, too far, next, or early.
use mathlib.Core.Path.{◌∙◌}
use native.Mathlib.Omega.{arith}
use Rattle.table_words.specs.Words.{of_row}
use Rattle.replica.proofs.ValidLaws.{valid_parts}
use Rattle.replica.proofs.DeliverLaws.{too_late, too_far, next_version}
use Rattle.replica.proofs.accept.Goals as goal

pub bounds-w-0 : goal.bounds-w-0
bounds-w-0 c = omega (arith, (valid_parts c.args.w.now c.requires.w_value.0).long)

pub returns-then-v-c : goal.returns-then-v-c
unfolding of_row
returns-then-v-c c =
    let l = c.args.w.now in
    too_late l (valid_parts l c.requires.w_value.0) (of_row c.args.row.now) (omega (arith, c.wide-c.ensures, c.wide-v.ensures))

pub overflow_add-c : goal.overflow_add-c
overflow_add-c c = omega (arith, c.wide-c.ensures, c.slice_known-2-1.given 0)

pub returns-then-c-v : goal.returns-then-c-v
unfolding of_row
returns-then-c-v c =
    let l = c.args.w.now in
    too_far l (valid_parts l c.requires.w_value.0) (of_row c.args.row.now) (omega (arith, c.wide-c.ensures, c.wide-v.ensures))

pub overflow_add-c-2 : goal.overflow_add-c-2
overflow_add-c-2 c = omega (arith, c.wide-c.ensures, c.slice_known-2-1.given 0)

pub advance-requires : goal.advance-requires
unfolding of_row
advance-requires c =
    record {
      w_value = c.requires.w_value;
      row_value = omega (arith, c.wide-c.ensures, c.wide-v.ensures);
    }

pub returns-then-v-c-2 : goal.returns-then-v-c-2
unfolding of_row
returns-then-v-c-2 c =
    let l = c.args.w.now in
    c.advance.ensures ∙ next_version l (valid_parts l c.requires.w_value.0) (of_row c.args.row.now) (omega (arith, c.wide-c.ensures, c.wide-v.ensures))

pub keep-requires : goal.keep-requires
unfolding of_row
keep-requires c =
    record {
      w_value = c.requires.w_value;
      row_value = (c.requires.row_value, omega (arith, c.wide-c.ensures, c.wide-v.ensures), omega (arith, c.wide-c.ensures, c.wide-v.ensures));
    }

pub returns : goal.returns
returns c = c.keep.ensures
