-- Messages one after another, each after a 4-byte big-endian length (paper 01, "The listing"; paper 02, A2).
use Rattle.std.specs.Prelude.{◌≡◌, ℕ, zero, suc, ◌+◌, Bool, false, cond, ◌&&◌, List, [], ◌∷◌, ◌++◌, length, take, drop, leb, ltb}
use Rattle.lists.specs.Lists.{All, flat_map}
use Rattle.byte_words.specs.Bytes.{big, IsWord, bytes_of, word_at}
use Rattle.framing.specs.declared.Count.{Count}
use Rattle.framing.specs.declared.MessageIter.{MessageIter}

-- a message after its length
abbrev pub framed_message : List ℕ → List ℕ
framed_message m = bytes_of big 4 (length m) ++ m

-- what the length word at the start says
abbrev pub length_word : List ℕ → ℕ
length_word s = word_at big s 0

-- a whole length word, and as many bytes behind it as it says
unfoldable pub is_whole : List ℕ → Bool
is_whole s = leb 4 (length s) && leb (4 + length_word s) (length s)

abbrev pub first_message : List ℕ → List ℕ
first_message s = take (length_word s) (drop 4 s)

abbrev pub after_first : List ℕ → List ℕ
after_first s = drop (4 + length_word s) s

-- the place behind the message at a place, the end where it is not whole
unfoldable pub next_place : List ℕ → ℕ → ℕ
next_place s at = cond (leb (length (drop at s)) (4 + length_word (drop at s))) (length s) (at + (4 + length_word (drop at s)))

-- messages, and the bytes behind them
pub record Framed : Type 0 where
  pub messages : List (List ℕ)
  pub rest : List ℕ

unfoldable pub none : List ℕ → Framed
none s = record { messages = []; rest = s }

unfoldable pub with_first : List ℕ → Framed → Framed
with_first m f = record { messages = m ∷ f.messages; rest = f.rest }

-- the whole messages from the start on, at most k of them
unfoldable pub framed : ℕ → List ℕ → Framed
framed zero s = none s
framed (suc k) s = cond (is_whole s) (with_first (first_message s) (framed k (after_first s))) (none s)

-- all of them: each takes at least 4 bytes, so there are no more of them than bytes
unfoldable pub messages_in : List ℕ → List (List ℕ)
messages_in s = (framed (length s) s).messages

-- those that an iterator over messages has still to give
unfoldable pub messages_left : MessageIter → List (List ℕ)
messages_left it = messages_in it.rest.now

-- bytes are left that are no whole length word and message
unfoldable pub is_cut : List ℕ → Bool
is_cut s = ltb 0 (length (framed (length s) s).rest)

unfoldable pub count_of : List ℕ → Count
count_of s = record { messages = length (messages_in s); cut = is_cut s }

-- a message whose length a length word can say
abbrev pub HasLength : List ℕ → Type 0
HasLength m = IsWord (length m)

-- the statement: messages one after another, each after its length, are these messages, and nothing is left
pub record FramedBack (ms : List (List ℕ)) : Type 0 where
  pub messages_are : messages_in (flat_map framed_message ms) ≡ ms
  pub not_cut : is_cut (flat_map framed_message ms) ≡ false

abbrev pub FramesBack : Type 0
FramesBack = (ms : List (List ℕ)) → All HasLength ms → FramedBack ms
