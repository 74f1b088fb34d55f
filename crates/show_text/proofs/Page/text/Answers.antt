-- `text` meets its contract: what is copied is the front that there is room for.
use native.Mathlib.Omega.{arith}
use Rattle.show_text.proofs.TextLaws.{front_put}
use Rattle.show_text.proofs.PageLaws.{text_put}
use Rattle.show_text.proofs.Page.text.Goals as goal

pub returns : goal.returns
returns c =
    let p = c.args.self.now in let s = c.args.s.now in
    text_put p s _ _ (rw c.copy_in.ensures (front_put p.buf.now p.at s c.min-n.result (omega arith)))
