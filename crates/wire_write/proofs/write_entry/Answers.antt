-- `write_entry` meets its contract: sizes, refusals and words are what their calls promise.
use Rattle.wire_write.proofs.FieldLaws.{entry_left}
use Rattle.wire_write.proofs.write_entry.Goals as goal

pub returns : goal.returns
returns c =
    let x = c.args in
    let h = entry_left x.entry x.head.now x.first.0 x.given.now x.buf.now
    c.any_bad.ensures c.sizes-sizes.ensures (c.block_words-block.ensures 0) (c.write_message.ensures.answer, c.write_message.ensures.buffer) in
    record { answer = h.0; buffer = h.1 }
