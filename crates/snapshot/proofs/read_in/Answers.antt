-- `read_in` meets its contract: each way out is one of the laws of reading.
use mathlib.Core.Path.{◌≡◌, ap, sym, ◌∙◌}
use Prim.Native.Nat.{ℕ}
use native.Mathlib.Omega.{arith}
use mathlib.Core.List.{List}
use Rattle.refusal.specs.Numbers.{number, no_of}
use Rattle.refusal.proofs.AnswerLaws.{passed_why}
use Rattle.refusal.proofs.NumberLaws.{number_positive, no_of_ok, no_of_err, no_of_err_some}
use Rattle.snapshot_bytes.proofs.StatedLaws.{all_bytes}
use Rattle.snapshot_checks.proofs.BytesLaws.{bytes_no, head_passed, sizes_passed, ids_passed}
use Rattle.snapshot.proofs.LoadLaws.{loaded_no, loaded_ids, loaded_packed, no_replica, bytes_told, table_refused, accepted}
use borrow.Author.Rules.{rules}
use Rattle.snapshot.proofs.read_in.Goals as goal

pub returns-then-w-ne-WORDS : goal.returns-then-w-ne-WORDS
returns-then-w-ne-WORDS c = let a = c.args in no_replica a.w.now a.s.now c.if-w-ne-WORDS.true

pub returns-in_err-bytes_check : goal.returns-in_err-bytes_check
returns-in_err-bytes_check c =
    let n = c.bytes_check in
    let a = c.args in
    let r = c.from_residual.result in
    let p = passed_why r _ c.from_residual.ensures.1 in
    ap (λ (x : List ℕ). record { number = no_of r; words = x }) c.make_fresh.ensures
    ∙ bytes_told a.w.now a.s.now c.if-w-ne-WORDS.false (no_of r) (ap no_of (p ∙ sym c.in_err-bytes_check.was) ∙ n.ensures) (no_of_err_some r _ p)

pub load-requires : goal.load-requires
load-requires c =
    let s = c.args.s.now in
    let e : bytes_no s ≡ 0 = sym c.bytes_check.ensures ∙ no_of_ok c.bytes_check.result _ c.in_ok-bytes_check.was in
    (search rules, c.make_fresh.ensures, head_passed s e, sizes_passed s e)

pub stated_check-requires : goal.stated_check-requires
stated_check-requires c =
    let d = c.load in
    let s = c.args.s.now in
    let e : bytes_no s ≡ 0 = sym c.bytes_check.ensures ∙ no_of_ok c.bytes_check.result _ c.in_ok-bytes_check.was in
    let b = all_bytes s (λ i. omega (arith, c.shared_slice_known-1.given i)) in
    let z = head_passed s e in let y = sizes_passed s e in
    (loaded_packed s d.new.w z b y d.ensures, loaded_ids s d.new.w z b y d.ensures (ids_passed s e))

pub returns-in-Err : goal.returns-in-Err
returns-in-Err c =
    let n = c.stated_check in
    let d = c.load in
    let a = c.args in let s = a.s.now in
    let e : bytes_no s ≡ 0 = sym c.bytes_check.ensures ∙ no_of_ok c.bytes_check.result _ c.in_ok-bytes_check.was in
    let z = head_passed s e in let y = sizes_passed s e in
    let b = all_bytes s (λ i. omega (arith, c.shared_slice_known-1.given i)) in
    let r = c.in-Err.refusal in
    ap (λ (x : List ℕ). record { number = number r; words = x }) c.make_fresh-in-Err.ensures
    ∙ table_refused a.w.now s c.if-w-ne-WORDS.false z y (number r) (sym (no_of_err n.result r c.in-Err.is) ∙ n.ensures ∙ loaded_no s d.new.w z b y d.ensures)
    (λ k. omega (arith, number_positive r, k))

pub returns : goal.returns
returns c =
    let n = c.stated_check in
    let d = c.load in
    let a = c.args in let s = a.s.now in
    let e : bytes_no s ≡ 0 = sym c.bytes_check.ensures ∙ no_of_ok c.bytes_check.result _ c.in_ok-bytes_check.was in
    let z = head_passed s e in let y = sizes_passed s e in
    let b = all_bytes s (λ i. omega (arith, c.shared_slice_known-1.given i)) in
    ap (λ (x : List ℕ). record { number = 0; words = x }) d.ensures
    ∙ accepted a.w.now s c.if-w-ne-WORDS.false z y (sym (n.ensures ∙ loaded_no s d.new.w z b y d.ensures) ∙ no_of_ok n.result _ c.in_default.is)
