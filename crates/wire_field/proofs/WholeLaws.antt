-- A message and the part after its type word: what stands in the one by position stands in the other by offset.
use mathlib.Core.Path.{◌≡◌, ap, ◌∙◌}
use Prim.Native.Nat.{ℕ, suc, ◌+◌, ◌-◌, ◌≤◌, ◌<◌, ◌^◌}
use mathlib.Core.List.{List}
use lib.ListN.{length, take, drop, length-drop}
use lib.Seq.{length-take-le, take-take}
use native.Mathlib.Nat.{add-sub_cancel_left}
use lib.Dec.{leb, leb-suc-suc}
use native.Mathlib.Omega.{arith}
use borrow.Author.Tests.{le-leb}
use Rattle.byte_words.specs.Bytes.{little, word_at}
use Rattle.byte_words.proofs.ByteLaws.{width_law}
use Rattle.wire_field.specs.Words.{whole, word}

four_more : (n : ℕ) → n + 4 ≡ suc (suc (suc (suc n)))
four_more n = omega arith

-- a word that a list has, as a list of its own
pub word_alone : (s : List ℕ) (i : ℕ) → i + 4 ≤ length s → word_at little (take (i + 4 - i) (drop i s)) 0 ≡ word_at little s i
unfolding word_at
word_alone s i h =
    let k : 4 ≤ length (drop i s) = rw (length-drop i s) (omega arith) in
    rw (add-sub_cancel_left i 4, length-take-le 4 (drop i s) k, take-take 4 4 (drop i s) (omega arith), le-leb (i + 4) (length s) h)

module _ (kind : ℕ) (rest : List ℕ) where
  pub length_whole : length (whole kind rest) ≡ 4 + length rest
  unfolding whole
  length_whole = omega arith

  pub drop_whole : (n : ℕ) → drop (n + 4) (whole kind rest) ≡ drop n rest
  unfolding whole
  drop_whole n = rw (four_more n)

  -- what stands from a position on
  pub drop_after : (p : ℕ) → 4 ≤ p → drop p (whole kind rest) ≡ drop (p - 4) rest
  drop_after p h = let e : p ≡ p - 4 + 4 = omega arith in ap (λ (q : ℕ). drop q (whole kind rest)) e ∙ drop_whole (p - 4)

  long_enough : (n : ℕ) → leb (n + 4 + 4) (length (whole kind rest)) ≡ leb (n + 4) (length rest)
  unfolding whole
  long_enough n =
      rw (four_more (n + 4), leb-suc-suc (suc (suc (suc (n + 4)))) (suc (suc (suc (length rest)))), leb-suc-suc (suc (suc (n + 4))) (suc (suc (length rest))), leb-suc-suc (suc (n + 4)) (suc (length rest)), leb-suc-suc (n + 4) (length rest))

  -- a word after the type word
  pub word_after : (p : ℕ) → 4 ≤ p → word (whole kind rest) p ≡ word_at little rest (p - 4)
  unfolding word_at
  word_after p h =
      let e : p ≡ p - 4 + 4 = omega arith in
      ap (λ (q : ℕ). word_at little (whole kind rest) q) e ∙ rw (long_enough (p - 4), drop_whole (p - 4))

  -- the type word
  pub word_first : kind < 256 ^ 4 → word (whole kind rest) 0 ≡ kind
  unfolding word_at whole
  word_first h = rw (le-leb 4 (length (whole kind rest)) (omega (arith, length_whole))) ((width_law little 4).back kind h)
