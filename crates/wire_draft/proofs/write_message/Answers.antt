-- `write_message` meets its contract: each way out is one of the laws of writing, and what is put piece by piece is one put.
use Rattle.std.proofs.Common.{◌≡◌, ◌||◌, ltb, true, false, refl, ◌∙◌}
use Rattle.std.proofs.lemmas.Bool.Decides.{nat_tests}
use native.Mathlib.Omega.{arith}
use Rattle.wire_draft.specs.Inner.{bytes_in}
use Rattle.wire_draft.proofs.WriteLaws.{message_length, message_11, same_total, message_12, message_sent, put_message}
use Rattle.wire_draft.proofs.write_message.Goals as goal

pub total-total-requires : goal.total-total-requires
total-total-requires c = omega (arith, c.requires.tail_len_bound)

pub returns-then-refused-total : goal.returns-then-refused-total
returns-then-refused-total c =
    let x = c.args in
    let over : (x.refused || ltb 16384 c.total-total.result) ≡ true = grind (arith, nat_tests) in
    let h = message_11 x.head.now x.tail.now (bytes_in x.given.now) x.sizes c.total-total.result c.total-total.ensures c.requires.sizes_value x.buf.now x.refused over in
    record { answer = h.0; buffer = h.1 }

pub returns-then-buf-total : goal.returns-then-buf-total
returns-then-buf-total c =
    let x = c.args in
    let within : (x.refused || ltb 16384 c.total-total.result) ≡ false = grind (arith, nat_tests) in
    let h = message_12 x.head.now x.tail.now (bytes_in x.given.now) x.sizes c.total-total.result c.total-total.ensures c.requires.sizes_value x.buf.now x.refused within c.if-buf-total.true in
    record { answer = h.0; buffer = h.1 }

pub copy_fields-requires : goal.copy_fields-requires
copy_fields-requires c =
    let x = c.args in
    let within : (x.refused || ltb 16384 c.total-total.result) ≡ false = grind (arith, nat_tests) in
    omega (arith, message_length x.head.now x.tail.now (bytes_in x.given.now), same_total x.head.now x.tail.now (bytes_in x.given.now) x.sizes c.total-total.result c.total-total.ensures c.requires.sizes_value x.buf.now x.refused within, c.if-buf-total.false)

pub returns : goal.returns
returns c =
    let x = c.args in
    let within : (x.refused || ltb 16384 c.total-total.result) ≡ false = grind (arith, nat_tests) in
    let t = same_total x.head.now x.tail.now (bytes_in x.given.now) x.sizes c.total-total.result c.total-total.ensures c.requires.sizes_value x.buf.now x.refused within in
    let w = message_sent x.head.now x.tail.now (bytes_in x.given.now) x.sizes c.total-total.result c.total-total.ensures c.requires.sizes_value x.buf.now x.refused within c.if-buf-total.false in record {
      answer = w.0;
      buffer = rw (c.copy_fields.ensures, c.put_le_words-2.ensures, c.put_le_words.ensures) (put_message x.head.now x.tail.now (bytes_in x.given.now) x.buf.now _ _ refl refl (omega (arith, t, c.if-buf-total.false))) ∙ w.1;
    }
