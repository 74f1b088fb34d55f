-- `word` meets its contract: where the word is whole, its four bytes one by one are joined; elsewhere the word is 0.
use native.Mathlib.Omega.{arith}
use Prim.Native.Nat.{◌+◌, ◌≤◌}
use lib.ListN.{length}
use native.Mathlib.Nat.{add-zero}
use Rattle.byte_words.proofs.ByteLaws.{word_there, value_at}
use Rattle.byte_words.proofs.word.Goals as goal

pub returns : goal.returns
returns c =
    let a = c.args in
    let h : a.at + 4 ≤ length a.s.now = omega arith in
    rw (word_there a.order a.s.now a.at h, value_at a.order 4 a.s.now a.at h, add-zero a.at) c.join.ensures
