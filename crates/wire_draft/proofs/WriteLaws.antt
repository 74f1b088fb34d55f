-- Laws of what a writer answers and leaves.
use mathlib.Core.Path.{◌≡◌, refl, sym, ap, ◌∙◌}
use Prim.Native.Nat.{ℕ, ◌+◌, ◌*◌, ◌<◌, ◌≤◌}
use mathlib.Core.Bool.{Bool, true, false, ◌||◌, or-false}
use mathlib.Core.List.{List, [], ◌∷◌, ◌++◌, append_assoc, append-nil}
use lib.ListN.{length, length-append}
use lib.Dec.{ltb}
use native.Mathlib.Omega.{arith}
use borrow.Author.Tests.{lt-ltb, le-ltb, ltb-false}
use Rattle.std.specs.Prelude.{Result, Ok, Err}
use Rattle.refusal.specs.Checks.{when, first_of}
use Rattle.refusal.specs.declared.Refusal.{Refusal}
use Rattle.refusal.specs.declared.Refusal.TheVariants.{NotReadable, BufferTooShort}
use Rattle.byte_words.specs.declared.Order.{Order}
use Rattle.lists.specs.Lists.{joined}
use Rattle.byte_words.specs.Bytes.{little, bytes_of, put, words, AllWords}
use Rattle.byte_words.proofs.RunLaws.{length_words, put_all_law}
use Rattle.wire_field.specs.declared.FieldName.{FieldName}
use Rattle.wire_read.specs.Values.{layout_of}
use Rattle.wire_read.specs.declared.Message.{Message}
use Rattle.wire_draft.specs.Draft.{Draft, laid, lengths, fixed_words, draft_bytes, says_bad}
use Rattle.wire_draft.specs.Given.{exact_draft}
use Rattle.wire_draft.specs.Inner.{six_pairs, six_space, sizes_of, size_named, message_of, room_no, answer_of, buffer_after, or_over}
use Rattle.wire_draft.specs.Write.{is_unreadable, write_no, written_by, left_by, written_of, buffer_of}
use Rattle.wire_draft.proofs.SixLaws.{length_six, same_sizes, same_over}
use Rattle.wire_draft.specs.declared.Sizes.{Sizes}
use Rattle.wire_draft.proofs.LaidLaws.{neither}
use Rattle.wire_draft.proofs.DraftLaws.{draft_length, unreadable}

-- the three ways out of a writer that knows whether 11 refuses m: each with the answer and the buffer
module _ (b m : List ℕ) where
  abbrev pub Left : Bool → Result ℕ Refusal → List ℕ → Type 0
  Left refused r e = (r ≡ answer_of refused (length b) m) × (e ≡ buffer_after refused b m)

  pub refused_11 : (refused : Bool) → refused ≡ true → Left refused (Err NotReadable) b
  unfolding room_no written_by left_by
  refused_11 refused e = (rw e, rw e)

  pub short_12 : (refused : Bool) → refused ≡ false → length b < length m → Left refused (Err BufferTooShort) b
  unfolding room_no written_by left_by
  short_12 refused e h = (rw (e, lt-ltb (length b) (length m) h), rw (e, lt-ltb (length b) (length m) h))

  pub sent : (refused : Bool) → refused ≡ false → length m ≤ length b → Left refused (Ok (length m)) (put b 0 m)
  unfolding room_no written_by left_by
  sent refused e h = (rw (e, le-ltb (length b) (length m) h), rw (e, le-ltb (length b) (length m) h))

-- a message laid out

words_append : (o : Order) (xs ys : List ℕ) → words o (xs ++ ys) ≡ words o xs ++ words o ys
words_append o [] ys = refl
words_append o (x ∷ xs) ys = rw (words_append o xs ys) (sym (append_assoc (bytes_of o 4 x) (words o xs) (words o ys)))

module _ (head tail : List ℕ) (bytes : FieldName → List ℕ) where
  abbrev m : List ℕ
  m = message_of (head ++ tail) bytes

  pub message_length : length m ≡ 4 * length head + 4 * length tail + six_space (lengths bytes)
  unfolding message_of
  message_length =
      omega (arith, length-append (words little (head ++ tail)) (laid bytes six_pairs), length_words little (head ++ tail), length-append head tail, length_six bytes)

  -- the code's total is over the limit just where the message is, and else its length
  module _ (sizes : Sizes) (total : ℕ) (t : total ≡ 4 * length head + 4 * length tail + six_space (size_named sizes)) (s : sizes ≡ sizes_of bytes) where
    same_limit : ltb 16384 total ≡ ltb 16384 (length m)
    same_limit = rw (t, s, message_length) (same_over bytes (4 * length head + 4 * length tail))

    module _ (b : List ℕ) (refused : Bool) where
      pub message_11 : (refused || ltb 16384 total) ≡ true → Left b m (or_over refused m) (Err NotReadable) b
      message_11 e = refused_11 b m (or_over refused m) (rw (← same_limit) e)

      module _ (e : (refused || ltb 16384 total) ≡ false) where
        pub same_total : total ≡ length m
        same_total =
            let g : six_space (size_named sizes) ≤ 16384 = omega (arith, ltb-false 16384 total (neither refused _ e).1) in
            let h : six_space (size_named (sizes_of bytes)) ≤ 16384 = rw s at g in
            rw (t, s, message_length, same_sizes bytes h)

        pub message_12 : length b < total → Left b m (or_over refused m) (Err BufferTooShort) b
        message_12 h = short_12 b m (or_over refused m) (rw (← same_limit) e) (rw same_total at h)

        pub message_sent : total ≤ length b → Left b m (or_over refused m) (Ok total) (put b 0 m)
        message_sent h = rw same_total (sent b m (or_over refused m) (rw (← same_limit) e) (rw same_total at h))

-- two runs of words and the fields, each put right after what stands before it, are one put
pub put_message : (head tail : List ℕ) (bytes : FieldName → List ℕ) (b : List ℕ) (second fields : ℕ) → second ≡ 4 * length head
    → fields ≡ second + 4 * length tail → length (message_of (head ++ tail) bytes) ≤ length b
    → put (put (put b 0 (words little head)) second (words little tail)) fields (laid bytes six_pairs) ≡ put b 0 (message_of (head ++ tail) bytes)
unfolding message_of
put_message head tail bytes b second fields e f h =
    let chunks = words little head ∷ words little tail ∷ laid bytes six_pairs ∷ [] in
    let m : joined chunks ≡ message_of (head ++ tail) bytes = rw (words_append little head tail, append-nil (laid bytes six_pairs)) (sym (append_assoc (words little head) (words little tail) (laid bytes six_pairs))) in
    let x : second ≡ 0 + length (words little head) = omega (arith, length_words little head) in
    let y : fields ≡ 0 + length (words little head) + length (words little tail) = omega (arith, length_words little head, length_words little tail) in
    rw (y, x) (put_all_law chunks b 0 (rw m (omega arith)) ∙ ap (put b 0) m)

-- a draft

eleven : (a b : Bool) (k : ℕ) → first_of (when a 11 ∷ when b 11 ∷ k ∷ []) ≡ first_of (when (a || b) 11 ∷ k ∷ [])
eleven true b k = refl
eleven false b k = refl

-- what is left of m is the outcome of the draft that m is the message of, where it is known whether 11 refuses the draft
pub outcome : (d : Draft) (b m : List ℕ) (refused : Bool) {r : Result ℕ Refusal} {e : List ℕ} → refused ≡ d.flaw || is_unreadable (draft_bytes d)
    → (refused ≡ false → m ≡ draft_bytes d) → Left b m refused r e → (r ≡ written_of (length b) d) × (e ≡ buffer_of b d)
unfolding write_no room_no written_by left_by
outcome d b m true {r} {e} u f l =
    let n : write_no (length b) d ≡ 11 = eleven d.flaw (is_unreadable (draft_bytes d)) (when (ltb (length b) (length (draft_bytes d))) 12) ∙ rw (← u) in
    (l.0 ∙ rw n, l.1 ∙ rw n)
outcome d b m false {r} {e} u f l =
    let n : write_no (length b) d ≡ room_no false (length b) m =
    eleven d.flaw (is_unreadable (draft_bytes d)) (when (ltb (length b) (length (draft_bytes d))) 12) ∙ rw (← u, f refl) in
    (l.0 ∙ rw (n, f refl), l.1 ∙ rw (n, f refl))

-- a message of fixed length, whose words are all of it
pub exact_outcome : (m : Message) (b : List ℕ) (refused : Bool) {r : Result ℕ Refusal} {e : List ℕ} → (layout_of m).pairs ≡ [] → (layout_of m).fixed ≤ 16384
    → AllWords (fixed_words m []) → refused ≡ says_bad m → Left b (words little (fixed_words m [])) refused r e
    → (r ≡ written_of (length b) (exact_draft m)) × (e ≡ buffer_of b (exact_draft m))
exact_outcome m b refused p h f u l =
    let d = exact_draft m in
    let n : length (draft_bytes d) ≤ 16384 = rw (draft_length d, p) (omega arith) in
    let i : is_unreadable (draft_bytes d) ≡ says_bad m = unreadable d f ∙ rw (le-ltb 16384 (length (draft_bytes d)) n, p) (or-false (says_bad m)) in
    outcome d b (words little (fixed_words m [])) refused (u ∙ sym i) (λ _. unfold draft_bytes in rw (p, append-nil (words little (fixed_words m [])))) l
