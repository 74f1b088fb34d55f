-- Laws of what is written one after another: chunks of bytes, and runs of items of equal width.
use mathlib.Core.Path.{◌≡◌, refl, sym, ◌∙◌}
use Prim.Native.Nat.{ℕ, zero, suc, ◌+◌, ◌*◌, ◌≤◌, ◌<◌, ◌^◌}
use mathlib.Core.Bool.{Bool, true, false, cond}
use mathlib.Core.List.{List, [], ◌∷◌, ◌++◌, append_assoc, append-nil}
use lib.ListN.{length, get_or, take, drop, length-append, length-drop, take-append-drop}
use lib.Dec.{leb}
use lib.Seq.{length-take-le, take_all, take_at, take-append_seam, drop-append-add, drop-drop}
use native.Mathlib.Omega.{arith}
use native.Mathlib.Nat.{add-zero}
use borrow.Author.Tests.{le-leb, leb-true}
use Rattle.lists.specs.Lists.{joined}
use Rattle.lists.proofs.FlatLaws.{length_flat, flat_more}
use Rattle.byte_words.specs.declared.Order.{Order}
use Rattle.byte_words.specs.Bytes.{bytes_of, word_at, put, words}
use Rattle.byte_words.proofs.ByteLaws.{put_fits, put_out, width_law}

-- put

-- bytes after a front of n bytes
front : (d pre bs : List ℕ) (n : ℕ) → length pre ≡ n
    → take n (pre ++ drop n d) ++ (bs ++ drop (n + length bs) (pre ++ drop n d)) ≡ (pre ++ bs) ++ drop (n + length bs) d
front d pre bs n e =
    rw (← e, take-append_seam, drop-append-add pre (drop (length pre) d) (length bs), drop-drop, append_assoc)

splice_length : (d : List ℕ) (p : ℕ) (bs : List ℕ) → p + length bs ≤ length d → length (take p d ++ (bs ++ drop (p + length bs) d)) ≡ length d
splice_length d p bs h =
    rw (length-append (take p d) (bs ++ drop (p + length bs) d), length-append bs (drop (p + length bs) d), length-take-le p d (omega arith), length-drop (p + length bs) d)
    (omega arith)

put_length_by : (d : List ℕ) (p : ℕ) (bs : List ℕ) (b : Bool) → leb (p + length bs) (length d) ≡ b
    → length (cond b (take p d ++ (bs ++ drop (p + length bs) d)) d) ≡ length d
put_length_by d p bs true e = splice_length d p bs (leb-true (p + length bs) (length d) e)
put_length_by d p bs false e = refl

-- a put changes no length
pub length_put : (d : List ℕ) (p : ℕ) (bs : List ℕ) → length (put d p bs) ≡ length d
unfolding put
length_put d p bs = put_length_by d p bs (leb (p + length bs) (length d)) refl

-- a put right after a put is one put
pub put_put : (d cs bs : List ℕ) (p q : ℕ) → q + length bs ≤ length d → p + length cs ≡ q → put (put d p cs) q bs ≡ put d p (cs ++ bs)
put_put d cs bs p q h e =
    let l : length (take p d ++ cs) ≡ q = length-append (take p d) cs ∙ rw (length-take-le p d (omega arith)) e in
    let n : p + length (cs ++ bs) ≡ q + length bs = omega (arith, length-append cs bs) in
    rw (
      put_fits (put d p cs) q bs (rw (length_put d p cs) h),
      put_fits d p cs (rw e (omega arith)),
      put_fits d p (cs ++ bs) (rw n h),
      ← append_assoc (take p d) cs (drop (p + length cs) d),
      e,
      front d (take p d ++ cs) bs q l,
      n,
    )
    (simp append_assoc)

-- a put of nothing
none_by : (d : List ℕ) (p : ℕ) (b : Bool) → cond b (take p d ++ drop (p + 0) d) d ≡ d
none_by d p true = rw (add-zero p) (take-append-drop p d)
none_by d p false = refl

pub put_none : (d : List ℕ) (p : ℕ) → put d p [] ≡ d
unfolding put
put_none d p = none_by d p (leb (p + 0) (length d))

-- the front of what was put at the start
pub take_put : (d bs : List ℕ) → length bs ≤ length d → take (length bs) (put d 0 bs) ≡ bs
take_put d bs h = rw (put_fits d 0 bs (omega arith)) (take-append_seam bs (drop (0 + length bs) d))

-- chunks

-- chunks put one after another from p on: where the chunks are written out this computes to the puts themselves
abbrev pub put_all : List ℕ → ℕ → List (List ℕ) → List ℕ
put_all d p [] = d
put_all d p (b ∷ bs) = put_all (put d p b) (p + length b) bs

put_rest : (bs : List (List ℕ)) (d cs : List ℕ) (p q : ℕ) → q + length (joined bs) ≤ length d → p + length cs ≡ q
    → put_all (put d p cs) q bs ≡ put d p (cs ++ joined bs)
put_rest [] d cs p q h e = rw append-nil
put_rest (b ∷ bs) d cs p q h e =
    let l : length (b ++ joined bs) ≡ length b + length (joined bs) = length-append b (joined bs) in
    rw (put_put d cs b p q (omega arith) e)
    (put_rest bs d (cs ++ b) p (q + length b) (omega arith) (omega (arith, length-append cs b)) ∙ rw (append_assoc cs b (joined bs)))

-- puts one after another are one put
pub put_all_law : (bs : List (List ℕ)) (d : List ℕ) (p : ℕ) → p + length (joined bs) ≤ length d → put_all d p bs ≡ put d p (joined bs)
put_all_law [] d p h = sym (put_none d p)
put_all_law (b ∷ bs) d p h = put_rest bs d b p (p + length b) (omega (arith, length-append b (joined bs))) refl

-- words

pub length_words : (o : Order) (ws : List ℕ) → length (words o ws) ≡ 4 * length ws
length_words o ws = length_flat 4 (bytes_of o 4) (width_law o 4).wide ws

-- the loop that writes words from p on: where they have no room, a turn, and after it

pub words_out : (o : Order) (d : List ℕ) (p : ℕ) (ws : List ℕ) → length d < p + 4 * length ws → put d p (words o ws) ≡ d
words_out o d p ws h = put_out d p (words o ws) (omega (arith, length_words o ws))

pub words_turn : (o : Order) (d : List ℕ) (p : ℕ) (ws : List ℕ) (i : ℕ) → i < length ws → p + 4 * (i + 1) ≤ length d
    → put (put d p (words o (take i ws))) (p + 4 * i) (bytes_of o 4 (get_or ws i 0)) ≡ put d p (words o (take (i + 1) ws))
words_turn o d p ws i k h =
    let l : length (words o (take i ws)) ≡ 4 * i = length_words o (take i ws) ∙ rw (length-take-le i ws (omega arith)) in
    rw (flat_more (bytes_of o 4) ws i 0 k)
    (put_put d (words o (take i ws)) (bytes_of o 4 (get_or ws i 0)) p (p + 4 * i) (rw ((width_law o 4).wide (get_or ws i 0)) (omega arith)) (rw l))

pub words_all : (o : Order) (d : List ℕ) (p : ℕ) (ws : List ℕ) (i : ℕ) → length ws ≤ i → put d p (words o (take i ws)) ≡ put d p (words o ws)
words_all o d p ws i h = rw (take_all i ws h)

pub ruleset word_turns = (words_out, put_none, words_turn, words_all, length_put)

-- the i-th word, read back
word_back : (o : Order) (ws rest : List ℕ) (i : ℕ) → i < length ws → take 4 (drop (4 * i) (words o ws ++ rest)) ≡ bytes_of o 4 (get_or ws i 0)
word_back o [] rest i h = absurd (omega arith)
word_back o (w ∷ ws) rest zero h =
    rw (append_assoc (bytes_of o 4 w) (words o ws) rest) (take_at (bytes_of o 4 w) (words o ws ++ rest) 4 ((width_law o 4).wide w))
word_back o (w ∷ ws) rest (suc i) h =
    let n : 4 * suc i ≡ length (bytes_of o 4 w) + 4 * i = omega (arith, (width_law o 4).wide w) in
    rw (append_assoc (bytes_of o 4 w) (words o ws) rest, n, drop-append-add (bytes_of o 4 w) (words o ws ++ rest) (4 * i)) (word_back o ws rest i (omega arith))

pub word_words : (o : Order) (ws rest : List ℕ) (i : ℕ) → i < length ws → get_or ws i 0 < 256 ^ 4 → word_at o (words o ws ++ rest) (4 * i) ≡ get_or ws i 0
unfolding word_at
word_words o ws rest i h b =
    let l : 4 * i + 4 ≤ length (words o ws ++ rest) = omega (arith, length-append (words o ws) rest, length_words o ws) in
    rw (le-leb (4 * i + 4) (length (words o ws ++ rest)) l, word_back o ws rest i h) ((width_law o 4).back (get_or ws i 0) b)
