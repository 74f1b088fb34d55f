-- `deliver_valid` meets its contract: reading, then the operation.
-- the row after a message that has an operation is the row of that operation
use mathlib.Core.Path.{◌≡◌, ap, sym, ◌∙◌}
use mathlib.Core.Bool.{true}
use Prim.Native.Nat.{ℕ}
use mathlib.Core.List.{List, [], append-nil}
use lib.ListN.{replicate}
use borrow.Author.Tests.{eq-eqb}
use Rattle.refusal.specs.Numbers.{number, refused}
use Rattle.refusal.proofs.AnswerLaws.{not_accepted, passed_why}
use Rattle.refusal.proofs.NumberLaws.{as_refused, no_of_ok, no_of_err}
use Rattle.table_rules.specs.Operations.{Operation, valid_operation}
use Rattle.table_words.specs.Layout.{operation_width}
use Rattle.table_words.specs.Words.{of_row, row_of}
use Rattle.table_words.proofs.OperationRows.{row_back, operation_fits}
use Rattle.operations.specs.Received.{operation_in}
use Rattle.operations.specs.Inner.{row_after}
use Rattle.operations.proofs.ReceivedLaws.{read_valid}
use Rattle.replica.specs.Deliver.{refusal, delivered_read, deliver_of}
use Rattle.replica.proofs.deliver_valid.Goals as goal

module _ (m row : List ℕ) (e : row ≡ row_after (replicate operation_width 0) (operation_in m)) (n : (operation_in m).number ≡ 0) where
  op : Operation
  op = (operation_in m).operation

  is_row : row ≡ row_of op
  unfolding row_after op
  is_row = e ∙ rw (eq-eqb (operation_in m).number 0 n)

  op_valid : valid_operation op ≡ true
  unfolding op
  op_valid = read_valid m n

  says : of_row row ≡ op
  says = ap of_row (is_row ∙ sym (append-nil (row_of op))) ∙ row_back op [] (operation_fits op op_valid)

  exact : row ≡ row_of (of_row row)
  exact = is_row ∙ ap row_of (sym says)

  says_in : of_row row ≡ (operation_in m).operation
  unfolding op
  says_in = says

  row_valid_law : valid_operation (of_row row) ≡ true
  row_valid_law = ap valid_operation says ∙ op_valid

pub returns-in_err-read_row : goal.returns-in_err-read_row
unfolding deliver_of delivered_read refusal
returns-in_err-read_row c =
    let l = c.args.w.now in
    let r = c.read_row in
    let n : ℕ = (operation_in c.args.m.now).number in
    let why = c.in_err-read_row.field-0.0 in
    let e : number why ≡ n = sym (no_of_err r.result why c.in_err-read_row.was) ∙ r.ensures.number in
    let a : c.from_residual.result ≡ refused n = passed_why c.from_residual.result why c.from_residual.ensures.1 ∙ sym (as_refused why n e) in
    rw (c.requires, not_accepted why e) (λ i. record { answer = a i; words = l })

pub accept-requires : goal.accept-requires
accept-requires c =
    let m = c.args.m.now in
    let n = sym c.read_row.ensures.number ∙ no_of_ok c.read_row.result _ c.in_ok-read_row.was in
    let r = c.read_row.new.row in record {
      w_value = (c.requires, exact m r c.read_row.ensures.row n);
      row_value = row_valid_law m r c.read_row.ensures.row n;
    }

pub returns : goal.returns
unfolding deliver_of delivered_read refusal
returns c =
    let m = c.args.m.now in
    let n : (operation_in m).number ≡ 0 = sym c.read_row.ensures.number ∙ no_of_ok c.read_row.result _ c.in_ok-read_row.was in
    c.accept.ensures ∙ rw (c.requires, says_in m c.read_row.new.row c.read_row.ensures.row n, eq-eqb _ _ n)
