-- A GUID that was read is the 16 bytes that stand in the message.
use mathlib.Core.Path.{◌≡◌, sym, ◌∙◌}
use Prim.Native.Nat.{ℕ, ◌+◌, ◌≤◌}
use mathlib.Core.List.{List, [], ◌++◌, append-nil}
use lib.ListN.{length, take, drop, length-drop}
use lib.Seq.{length-take-le, take-add, drop-drop}
use native.Mathlib.Omega.{arith}
use borrow.Author.Tests.{le-leb}
use Rattle.byte_words.specs.Bytes.{little, bytes_of, word_at, IsByte, AllBytes}
use Rattle.byte_words.proofs.ByteLaws.{bytes_spelt}
use Rattle.lists.proofs.ListLaws.{all_take, all_drop}
use Rattle.wire_field.specs.Words.{word}
use Rattle.wire_connect.specs.Connect.{guid_at, GuidBytesKept}

alike : {a b c d a' b' c' d' : List ℕ} → a ≡ a' → b ≡ b' → c ≡ c' → d ≡ d' → a ++ (b ++ (c ++ (d ++ []))) ≡ a' ++ (b' ++ (c' ++ d'))
alike {d = d} p q r s = rw (append-nil d) cc

-- 16 bytes are four times four
parts : (l : List ℕ) → take 16 l ≡ take 4 l ++ (take 4 (drop 4 l) ++ (take 4 (drop 8 l) ++ take 4 (drop 12 l)))
parts l =
    take-add 4 12 l ∙ rw (take-add 4 8 (drop 4 l), drop-drop 4 4 l, take-add 4 4 (drop 8 l), drop-drop 4 8 l)

module _ (m : List ℕ) (b : AllBytes m) where
  -- a word that was read, written again
  word_bytes : (p : ℕ) → p + 4 ≤ length m → bytes_of little 4 (word m p) ≡ take 4 (drop p m)
  unfolding word_at
  word_bytes p h =
      let l : length (take 4 (drop p m)) ≡ 4 = length-take-le 4 (drop p m) (rw (length-drop p m) (omega arith)) in
      rw (le-leb (p + 4) (length m) h) (rw l at (bytes_spelt (take 4 (drop p m)) (all_take IsByte 4 (drop p m) (all_drop IsByte p m b))))

pub guid_bytes_kept : GuidBytesKept
unfolding guid_at
guid_bytes_kept m b p h =
    alike (word_bytes m b p (omega arith)) (word_bytes m b (p + 4) (omega arith)) (word_bytes m b (p + 8) (omega arith)) (word_bytes m b (p + 12) (omega arith))
    ∙ sym (parts (drop p m) ∙ rw (drop-drop 4 p m, drop-drop 8 p m, drop-drop 12 p m))
