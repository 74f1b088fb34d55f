-- `write_exact` meets its contract: each way out is one of the laws of writing.
use mathlib.Core.Path.{◌∙◌}
use native.Mathlib.Omega.{arith}
use Rattle.byte_words.specs.Bytes.{little, words}
use Rattle.byte_words.proofs.RunLaws.{length_words}
use Rattle.wire_draft.proofs.WriteLaws.{refused_11, short_12, sent}
use Rattle.wire_draft.proofs.write_exact.Goals as goal

pub returns-then-refused : goal.returns-then-refused
returns-then-refused c =
    let h = refused_11 c.args.buf.now (words little c.args.ws.now) c.args.refused c.if-refused.true in
    record { answer = h.0; buffer = h.1 }

pub returns-then-buf-ws : goal.returns-then-buf-ws
returns-then-buf-ws c =
    let h = short_12 c.args.buf.now (words little c.args.ws.now) c.args.refused c.if-refused.false (omega (arith, length_words little c.args.ws.now)) in
    record { answer = h.0; buffer = h.1 }

pub returns : goal.returns
returns c =
    let x = c.args in
    let l = length_words little x.ws.now in
    let w = sent x.buf.now (words little x.ws.now) x.refused c.if-refused.false (omega arith) in record {
      answer = (rw l at w.0);
      buffer = c.put_le_words.ensures ∙ w.1;
    }
