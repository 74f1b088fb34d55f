-- `write_create_group` meets its contract: its words are the draft's, so the outcome is.
use mathlib.Core.Path.{refl}
use mathlib.Core.List.{[], ◌∷◌}
use Rattle.byte_words.specs.Bytes.{AllWords}
use Rattle.wire_layout.specs.Layout.{third, create_group_word, entry_layout}
use Rattle.wire_read.specs.declared.Message.TheVariants as said
use Rattle.wire_draft.specs.Draft.{fixed_words}
use Rattle.wire_draft.specs.Given.{entry_draft}
use Rattle.wire_write.proofs.FieldLaws.{entry_outcome}
use borrow.Author.Rules.{rules}
use Rattle.wire_write.proofs.write_create_group.Goals as goal

pub returns : goal.returns
unfolding entry_layout
returns c =
    let x = c.args in
    let words : AllWords (fixed_words (said.CreateGroup c.args.values 0) []) = search rules in
    let h = entry_outcome (said.CreateGroup x.values 0) x.values.entry (create_group_word ∷ x.values.requesting ∷ x.values.context ∷ []) third
    x.has x.name x.«data» x.url x.buf.now
    (unfold entry_draft in words) refl refl refl (λ ps. refl) c.fields-given.ensures (c.write_entry.ensures.answer, c.write_entry.ensures.buffer) in
    record { answer = h.0; buffer = h.1 }
