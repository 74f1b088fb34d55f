-- `write_from` meets its contract: each way out is one of the laws of writing.
use mathlib.Core.Path.{◌≡◌, ap, sym, ◌∙◌}
use native.Mathlib.Omega.{arith}
use Prim.Native.Nat.{ℕ, ◌+◌}
use mathlib.Core.Bool.{true}
use Rattle.replica.specs.Valid.{valid_of}
use Rattle.std.specs.Prelude.{Ok}
use Rattle.snapshot.proofs.SaveLaws.{ready, saved_length, invalid_28, short_27, written}
use Rattle.snapshot.proofs.write_from.Goals as goal

pub returns-then-not-is_valid : goal.returns-then-not-is_valid
returns-then-not-is_valid c =
    let o = invalid_28 c.args.w.now c.args.buf.now (sym c.is_valid.ensures ∙ c.if-not-is_valid.true) in
    record { answer = o.0; buffer = o.1 }

pub size_of-size-requires : goal.size_of-size-requires
size_of-size-requires c = ready c.args.w.now (sym c.is_valid.ensures ∙ c.if-not-is_valid.false)

pub returns-then-buf-size : goal.returns-then-buf-size
returns-then-buf-size c =
    let l = c.args.w.now in
    let v : valid_of l ≡ true = sym c.is_valid.ensures ∙ c.if-not-is_valid.false in
    let o = short_27 l c.args.buf.now v (omega (arith, c.size_of-size.ensures.0, saved_length l, c.if-buf-size.true)) in
    record { answer = o.0; buffer = o.1 }

pub put_table-requires : goal.put_table-requires
put_table-requires c =
    let l = c.args.w.now in
    let v : valid_of l ≡ true = sym c.is_valid.ensures ∙ c.if-not-is_valid.false in
    (ready l v, c.size_of-size.ensures.0, c.size_of-size.ensures.1, omega (arith, c.if-buf-size.false))

pub returns : goal.returns
returns c =
    let l = c.args.w.now in
    let v : valid_of l ≡ true = sym c.is_valid.ensures ∙ c.if-not-is_valid.false in
    let o = written l c.args.buf.now v (omega (arith, c.size_of-size.ensures.0, saved_length l, c.if-buf-size.false)) in record {
      answer = ap (λ (n : ℕ). Ok (n + 4)) c.size_of-size.ensures.0 ∙ ap Ok (sym (saved_length l)) ∙ o.0;
      buffer = c.put_table.ensures ∙ o.1;
    }
