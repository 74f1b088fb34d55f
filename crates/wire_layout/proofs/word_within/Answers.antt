-- `word_within` meets its contract: the word that stands four bytes earlier in the part after the type word, and whole there.
use Rattle.wire_field.proofs.WholeLaws.{word_after, word_alone}
use Prim.Native.Nat.{◌-◌}
use native.Mathlib.Omega.{arith}
use Rattle.wire_layout.proofs.word_within.Goals as goal

pub returns : goal.returns
returns c =
    let s = c.args.rest.now in let p = c.args.at.0 in
    λ kind. rw (word_after kind s p c.requires.type_word_le_at, ← word_alone s (p - 4) (omega arith)) c.le32.ensures
