-- `read` meets its contract: the message is its type word and the part after it.
use Rattle.wire_read.specs.Read.{reading_of}
use Rattle.wire_read.proofs.ReadLaws.{whole_again, reading_short}
use mathlib.Core.Path.{ap, sym, ◌∙◌}
use native.Mathlib.Omega.{arith}
use Rattle.wire_read.proofs.read.Goals as goal

pub returns-then-m-lt-TYPE_WORD : goal.returns-then-m-lt-TYPE_WORD
returns-then-m-lt-TYPE_WORD c = sym (reading_short c.args.m.now c.if-m-lt-TYPE_WORD.true)

pub returns : goal.returns
returns c =
    c.read_after.ensures
    ∙ ap reading_of (rw c.le32-kind.ensures (whole_again c.args.m.now (omega arith) (λ i. omega (arith, c.type_inv.m i))))
