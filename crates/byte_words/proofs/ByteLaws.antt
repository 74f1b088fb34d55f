-- Laws of numbers as bytes.
use mathlib.Core.Path.{◌≡◌, refl, sym, ap, ◌∙◌}
use Prim.Native.Nat.{ℕ, zero, suc, ◌+◌, ◌/◌, ◌^◌, ◌≤◌, ◌<◌}
use mathlib.Core.Bool.{Bool, true, false, cond}
use mathlib.Core.List.{List, [], ◌∷◌, ◌++◌, reverse_aux, reverse-reverse, append_assoc}
use lib.ListN.{length, get_or, take, drop, length-reverse, length-take, length-drop}
use lib.Dec.{lit<, leb}
use lib.Seq.{drop-cons, paste, take-length}
use borrow.Rule.Slice.PartMut.{put_mid}
use Rattle.std.proofs.lemmas.Slice.{put_mid-paste}
use native.Mathlib.Omega.{arith}
use native.Mathlib.Nat.{add-zero, add-suc, pow-suc, div-lt_iff_lt-mul, mod-add-div, add-mul-div_left, add-mul-mod_self_left, mod-eq_of_lt, div-eq_of_lt, zero-add}
use borrow.Author.Tests.{le-leb, lt-leb, leb-true}
use Rattle.lists.proofs.ListLaws.{all_take, all_drop}
use Rattle.byte_words.specs.declared.Order.{Order}
use Rattle.byte_words.specs.declared.Order.TheVariants.{Little, Big}
use Rattle.byte_words.specs.Bytes.{ordered, spelt, low_bytes, value_of, IsByte, AllBytes, EachWidth, word_at, put}

-- ordered

pub ordered_ordered : (o : Order) (bs : List ℕ) → ordered o (ordered o bs) ≡ bs
ordered_ordered Little bs = refl
ordered_ordered Big bs = reverse-reverse bs

pub length_ordered : (o : Order) (bs : List ℕ) → length (ordered o bs) ≡ length bs
length_ordered Little bs = refl
length_ordered Big bs = length-reverse bs

-- low bytes and spelt

pub length_low : (w n : ℕ) → length (low_bytes w n) ≡ w
length_low zero n = refl
length_low (suc w) n = ap suc (length_low w (n / 256))

spelt_low : (w n : ℕ) → n < 256 ^ w → spelt (low_bytes w n) ≡ n
spelt_low zero n h = omega arith
spelt_low (suc w) n h = rw (spelt_low w (n / 256) ((div-lt_iff_lt-mul (lit< tt)).1 (rw pow-suc at h))) (mod-add-div n 256)

-- a put that fits

pub put_fits : (s : List ℕ) (p : ℕ) (bs : List ℕ) → p + length bs ≤ length s → put s p bs ≡ take p s ++ (bs ++ drop (p + length bs) s)
unfolding put
put_fits s p bs h = rw (le-leb (p + length bs) (length s) h)

-- a put that does not
pub put_out : (s : List ℕ) (p : ℕ) (bs : List ℕ) → length s < p + length bs → put s p bs ≡ s
unfolding put
put_out s p bs h = rw (lt-leb (p + length bs) (length s) h)

-- a copy into a part is one put
pub copied : (d : List ℕ) (p : ℕ) (bs cs : List ℕ) (k : ℕ) → p + length bs ≤ length d → k ≡ length bs → cs ≡ bs → put_mid p k d cs ≡ put d p bs
copied d p bs cs k h e f = put_mid-paste p k d cs bs (length bs) f (sym e) refl ∙ rw (take-length bs, put_fits d p bs h) (append_assoc (take p d) bs (drop (p + length bs) d))

-- a word of four bytes that stand there, and one that does not stand there whole

pub word_there : (o : Order) (s : List ℕ) (p : ℕ) → p + 4 ≤ length s → word_at o s p ≡ value_of o (take 4 (drop p s))
unfolding word_at
word_there o s p h = rw (le-leb (p + 4) (length s) h)

pub word_past : (o : Order) (s : List ℕ) (p : ℕ) → length s < p + 4 → 0 ≡ word_at o s p
unfolding word_at
word_past o s p h = rw (lt-leb (p + 4) (length s) h)

-- what is pasted whole is put
pub paste_all : (d : List ℕ) (p : ℕ) (s : List ℕ) → p + length s ≤ length d → paste d p s (length s) ≡ put d p s
paste_all d p s h = rw (take-length s, put_fits d p s h) (append_assoc (take p d) s (drop (p + length s) d))

-- bytes at a place

-- the w bytes from place p + i on, one by one
abbrev pub bytes_from : List ℕ → ℕ → ℕ → ℕ → List ℕ
bytes_from s p i zero = []
bytes_from s p i (suc w) = get_or s (p + i) 0 ∷ bytes_from s p (suc i) w

bytes_from_law : (w : ℕ) (s : List ℕ) (p i : ℕ) → p + i + w ≤ length s → take w (drop (p + i) s) ≡ bytes_from s p i w
bytes_from_law zero s p i h = refl
bytes_from_law (suc w) s p i h =
    rw (drop-cons s (p + i) 0 (omega arith), ← add-suc p i)
    (ap (λ (l : List ℕ). get_or s (p + i) 0 ∷ l) (bytes_from_law w s p (suc i) (omega (arith, add-suc p i))))

-- what w bytes at a place spell, they spell one by one
pub value_at : (o : Order) (w : ℕ) (s : List ℕ) (p : ℕ) → p + w ≤ length s → value_of o (take w (drop p s)) ≡ value_of o (bytes_from s p 0 w)
value_at o w s p h = ap (value_of o) (rw add-zero at (bytes_from_law w s p 0 (omega arith)))

-- numbers of w bytes and back

pub bytes_spelt : (bs : List ℕ) → AllBytes bs → low_bytes (length bs) (spelt bs) ≡ bs
bytes_spelt [] h = refl
bytes_spelt (b ∷ bs) h =
    rw (add-mul-mod_self_left b 256 (spelt bs), mod-eq_of_lt h.0, add-mul-div_left b (spelt bs) (lit< tt), div-eq_of_lt h.0, zero-add (spelt bs), bytes_spelt bs h.1)

reversed_bytes : (bs cs : List ℕ) → AllBytes bs → AllBytes cs → AllBytes (reverse_aux bs cs)
reversed_bytes [] cs h k = k
reversed_bytes (b ∷ bs) cs h k = reversed_bytes bs (b ∷ cs) h.1 (h.0, k)

ordered_bytes : (o : Order) (bs : List ℕ) → AllBytes bs → AllBytes (ordered o bs)
ordered_bytes Little bs h = h
ordered_bytes Big bs h = reversed_bytes bs [] h tt

pub width_law : (o : Order) (w : ℕ) → EachWidth o w
width_law o w = record {
  wide = λ n. length_ordered o (low_bytes w n) ∙ length_low w n;
  back = λ n h. ap spelt (ordered_ordered o (low_bytes w n)) ∙ spelt_low w n h;
  again = λ bs e h.
      ap (ordered o) (rw (← e, ← length_ordered o bs) (bytes_spelt (ordered o bs) (ordered_bytes o bs h))) ∙ ordered_ordered o bs;
}

-- what w bytes spell, w bytes can hold
spelt_bound : (bs : List ℕ) → AllBytes bs → spelt bs < 256 ^ length bs
spelt_bound [] h = lit< tt
spelt_bound (b ∷ bs) h = rw pow-suc (omega (arith, h.0, spelt_bound bs h.1))

pub word_bound : (o : Order) (s : List ℕ) → AllBytes s → (p : ℕ) → word_at o s p < 256 ^ 4
unfolding word_at
word_bound o s h p = go (leb (p + 4) (length s)) refl
  where
    go : (b : Bool) → leb (p + 4) (length s) ≡ b → cond b (value_of o (take 4 (drop p s))) 0 < 256 ^ 4
    go true e =
        let t : List ℕ = take 4 (drop p s) in
        let n : length (ordered o t) ≡ 4 = length_ordered o t ∙ length-take 4 (drop p s) ∙ rw (length-drop p s) (omega (arith, leb-true (p + 4) (length s) e)) in
        rw n at (spelt_bound (ordered o t) (ordered_bytes o t (all_take IsByte 4 (drop p s) (all_drop IsByte p s h))))
    go false e = lit< tt
