-- `write_destroy_player` meets its contract: its words are the draft's, and reading refuses them where the id is 0.
use mathlib.Core.Path.{refl}
use lib.Dec.{lit≤}
use Rattle.wire_layout.specs.Layout.{exact_layout}
use Rattle.wire_read.specs.declared.Message.TheVariants as said
use Rattle.wire_draft.proofs.WriteLaws.{exact_outcome}
use borrow.Author.Rules.{rules}
use Rattle.wire_write.proofs.write_destroy_player.Goals as goal

pub returns : goal.returns
unfolding exact_layout
returns c =
    let h = exact_outcome (said.DestroyPlayer c.args.values 0) c.args.buf.now _ refl (lit≤ tt) (search rules) refl (c.write_exact.ensures.answer, c.write_exact.ensures.buffer) in
    record { answer = h.0; buffer = h.1 }
