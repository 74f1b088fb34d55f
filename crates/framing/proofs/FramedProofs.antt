-- Messages one after another, each after its length, are these messages.
use mathlib.Core.Path.{◌≡◌, refl, ap, sym, ◌∙◌}
use Prim.Native.Nat.{ℕ, ◌+◌}
use native.Mathlib.Omega.{arith}
use mathlib.Core.Bool.{true}
use mathlib.Core.List.{List, [], ◌∷◌, ◌++◌, append_assoc}
use lib.ListN.{length, drop, length-append}
use lib.Seq.{take_at, drop_at, drop-drop}
use borrow.Author.Tests.{le-leb}
use Rattle.lists.specs.Lists.{flat_map}
use Rattle.byte_words.specs.Bytes.{big, value_of, bytes_of, word_at}
use Rattle.byte_words.proofs.ByteLaws.{width_law}
use Rattle.framing.specs.Frames.{framed_message, length_word, is_whole, first_message, after_first, HasLength, FramesBack}
use Rattle.framing.proofs.FrameLaws.{messages_first, messages_none, cut_first, cut_tail, empty_not_whole}

module _ (m rest : List ℕ) (h : HasLength m) where
  abbrev word : List ℕ
  word = bytes_of big 4 (length m)

  four : length word ≡ 4
  four = (width_law big 4).wide (length m)

  split : framed_message m ++ rest ≡ word ++ (m ++ rest)
  split = append_assoc word m rest

  long : length (word ++ (m ++ rest)) ≡ 4 + (length m + length rest)
  long = length-append word (m ++ rest) ∙ omega (arith, four, length-append m rest)

  says : length_word (word ++ (m ++ rest)) ≡ length m
  unfolding word_at
  says =
      rw (le-leb (0 + 4) (length (word ++ (m ++ rest))) (omega (arith, long)))
      (ap (value_of big) (take_at word (m ++ rest) 4 four) ∙ (width_law big 4).back (length m) h)

  behind : drop 4 (word ++ (m ++ rest)) ≡ m ++ rest
  behind = drop_at word (m ++ rest) 4 four

  pub whole : is_whole (framed_message m ++ rest) ≡ true
  unfolding is_whole
  whole =
      let s = word ++ (m ++ rest) in
      rw (split, le-leb 4 (length s) (omega (arith, long)), le-leb (4 + length_word s) (length s) (omega (arith, long, says)))

  pub first_is : first_message (framed_message m ++ rest) ≡ m
  first_is = rw (split, says, behind) (take_at m rest (length m) refl)

  pub after_is : after_first (framed_message m ++ rest) ≡ rest
  after_is = rw (split, says) (sym (drop-drop (length m) 4 (word ++ (m ++ rest))) ∙ rw behind (drop_at m rest (length m) refl))

pub frames_back : FramesBack
frames_back [] h = record { messages_are = messages_none [] empty_not_whole; not_cut = cut_tail [] empty_not_whole }
frames_back (m ∷ ms) h =
    let rest = flat_map framed_message ms in
    let i = frames_back ms h.1 in
    let w = whole m rest h.0 in
    record {
      messages_are = messages_first (framed_message m ++ rest) w ∙ rw (first_is m rest h.0, after_is m rest h.0, i.messages_are);
      not_cut = cut_first (framed_message m ++ rest) w ∙ rw (after_is m rest h.0) i.not_cut;
    }
