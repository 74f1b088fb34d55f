-- `write_connect_info` meets its contract: form, sizes, refusals and words are what their calls promise, so the outcome is the draft's.
use mathlib.Core.List.{[]}
use mathlib.Core.Path.{refl, ap, ◌∙◌}
use Rattle.wire_read.specs.declared.Message.TheVariants as said
use Rattle.wire_draft.specs.Draft.{fixed_words}
use Rattle.wire_draft.specs.Given.{connect_info_draft}
use Rattle.byte_words.specs.Bytes.{AllWords}
use Rattle.wire_write.proofs.FieldLaws.{err_refuses, connect_outcome}
use Rattle.wire_draft.proofs.LaidLaws.{refuses}
use borrow.Author.Rules.{rules}
use Rattle.wire_write.proofs.write_connect_info.Goals as goal

pub returns : goal.returns
unfolding connect_info_draft
returns c =
    let x = c.args in
    let words : AllWords (fixed_words (said.ConnectInfo c.args.values) []) = search rules in
    let h = connect_outcome x.values x.has x.name x.«data» x.password x.connect_data x.url x.alternate_address x.buf.now words (c.is_err-flags.ensures.value ∙ err_refuses c.flags_check.result ∙ ap refuses c.flags_check.ensures) c.fields-given.ensures c.any_bad.ensures c.sizes-sizes.ensures c.form_of-form.ensures.form c.connect_head-head.ensures c.connect_tail-tail.ensures refl (c.write_message.ensures.answer, c.write_message.ensures.buffer) in
    record { answer = h.0; buffer = h.1 }
