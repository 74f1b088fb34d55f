-- The first message is whole, or there is none; the bytes that whole messages take; the place behind one.
use mathlib.Core.Path.{◌≡◌, refl, ap, sym, ◌∙◌}
use Prim.Native.Nat.{ℕ, zero, suc, ◌+◌, ◌≤◌, ◌<◌}
use native.Mathlib.Omega.{arith}
use mathlib.Core.Bool.{true, false, Bool, cond, false≢true}
use mathlib.Core.List.{List, [], ◌∷◌}
use lib.ListN.{length, drop, length-drop, drop_of_length-le}
use Rattle.std.proofs.lemmas.List.{length-take-le}
use lib.Dec.{leb, ltb}
use lib.Seq.{drop-drop}
use borrow.Author.Rules.{rules}
use borrow.Author.Tests.{tests, leb-true}
use Rattle.lists.proofs.ListLaws.{and_r}
use Rattle.framing.specs.Frames.{length_word, is_whole, first_message, after_first, next_place, Framed, none, with_first, framed, messages_in, is_cut}

-- a whole message with its length word is within the bytes
pub whole_fits : (s : List ℕ) → is_whole s ≡ true → 4 + length_word s ≤ length s
unfolding is_whole
whole_fits s h = leb-true (4 + length_word s) (length s) (and_r (leb 4 (length s)) (leb (4 + length_word s) (length s)) h)

shorter : (s : List ℕ) → is_whole s ≡ true → length (after_first s) < length s
shorter s h = omega (arith, length-drop (4 + length_word s) s, whole_fits s h)

pub empty_not_whole : is_whole [] ≡ false
unfolding is_whole
empty_not_whole = refl

-- ---- turns enough for all bytes give one result

enough : (j k : ℕ) (s : List ℕ) → length s ≤ j → length s ≤ k → framed j s ≡ framed k s
unfolding framed
enough zero zero s h g = refl
enough zero (suc k) [] h g = rw empty_not_whole
enough zero (suc k) (x ∷ s) h g = absurd (omega arith)
enough (suc j) zero [] h g = rw empty_not_whole
enough (suc j) zero (x ∷ s) h g = absurd (omega arith)
enough (suc j) (suc k) s h g = go (is_whole s) refl (λ a b. enough j k (after_first s) a b)
  where
    go : (b : Bool) → is_whole s ≡ b → (length (after_first s) ≤ j → length (after_first s) ≤ k → framed j (after_first s) ≡ framed k (after_first s))
        → cond b (with_first (first_message s) (framed j (after_first s))) (none s) ≡ cond b (with_first (first_message s) (framed k (after_first s))) (none s)
    go true w e = rw (e (omega (arith, shorter s w)) (omega (arith, shorter s w)))
    go false w e = refl

first : (s : List ℕ) → is_whole s ≡ true → framed (length s) s ≡ with_first (first_message s) (framed (length (after_first s)) (after_first s))
unfolding framed
first [] h = absurd (false≢true (sym empty_not_whole ∙ h))
first (x ∷ s) h =
    rw h (ap (with_first (first_message (x ∷ s))) (enough (length s) (length (after_first (x ∷ s))) (after_first (x ∷ s)) (omega (arith, shorter (x ∷ s) h)) (omega arith)))

last : (s : List ℕ) → is_whole s ≡ false → framed (length s) s ≡ none s
unfolding framed
last [] h = refl
last (x ∷ s) h = rw h

-- ---- one turn

module _ (s : List ℕ) where
  pub messages_first : is_whole s ≡ true → messages_in s ≡ first_message s ∷ messages_in (after_first s)
  unfolding messages_in with_first
  messages_first h = ap (λ (f : Framed). f.messages) (first s h)

  pub messages_none : is_whole s ≡ false → messages_in s ≡ []
  unfolding messages_in none
  messages_none h = ap (λ (f : Framed). f.messages) (last s h)

  pub cut_first : is_whole s ≡ true → is_cut s ≡ is_cut (after_first s)
  unfolding is_cut with_first
  cut_first h = ap (λ (f : Framed). ltb 0 (length f.rest)) (first s h)

  pub cut_tail : is_whole s ≡ false → is_cut s ≡ ltb 0 (length s)
  unfolding is_cut none
  cut_tail h = ap (λ (f : Framed). ltb 0 (length f.rest)) (last s h)

  -- a list that has a message has it at the start of the bytes
  pub messages_cons : (m : List ℕ) (ms : List (List ℕ)) → messages_in s ≡ m ∷ ms
      → (is_whole s ≡ true) × (first_message s ≡ m) × (messages_in (after_first s) ≡ ms)
  messages_cons m ms e = go (is_whole s) refl
    where
      go : (b : Bool) → is_whole s ≡ b → (is_whole s ≡ true) × (first_message s ≡ m) × (messages_in (after_first s) ≡ ms)
      go true w = let q : first_message s ∷ messages_in (after_first s) ≡ m ∷ ms = sym (messages_first w) ∙ e in (w, cc, cc)
      go false w = let q : 0 ≡ suc (length ms) = ap length (sym (messages_none w) ∙ e) in absurd (omega (arith, q))

-- each message takes bytes
few : (k : ℕ) (s : List ℕ) → length (framed k s).messages ≤ k
unfolding framed none with_first
few zero s = omega arith
few (suc k) s = go (is_whole s) (few k (after_first s))
  where
    go : (b : Bool) → length (framed k (after_first s)).messages ≤ k → length (cond b (with_first (first_message s) (framed k (after_first s))) (none s)).messages ≤ suc k
    go true h = omega arith
    go false h = omega arith

pub messages_few : (s : List ℕ) → length (messages_in s) ≤ length s
unfolding messages_in
messages_few s = few (length s) s

-- what a call of the iterator asks for
pub ruleset one_turn = (messages_first, messages_none)

-- ---- the bytes that messages take with their lengths

unfoldable pub taken : List (List ℕ) → ℕ
taken [] = 0
taken (m ∷ ms) = 4 + length m + taken ms

first_long : (s : List ℕ) → is_whole s ≡ true → length (first_message s) ≡ length_word s
first_long s h = length-take-le (length_word s) (drop 4 s) (omega (arith, length-drop 4 s, whole_fits s h))

-- they and the bytes behind them are all
all_taken : (k : ℕ) (s : List ℕ) → taken (framed k s).messages + length (framed k s).rest ≡ length s
unfolding framed none with_first taken
all_taken zero s = omega arith
all_taken (suc k) s = go (is_whole s) refl (all_taken k (after_first s))
  where
    go : (b : Bool) → is_whole s ≡ b → taken (framed k (after_first s)).messages + length (framed k (after_first s)).rest ≡ length (after_first s)
        → taken (cond b (with_first (first_message s) (framed k (after_first s))) (none s)).messages + length (cond b (with_first (first_message s) (framed k (after_first s))) (none s)).rest ≡ length s
    go true w e = omega (arith, first_long s w, whole_fits s w, length-drop (4 + length_word s) s, e)
    go false w e = omega arith

module _ (s : List ℕ) where
  pub taken_within : taken (messages_in s) ≤ length s
  unfolding messages_in
  taken_within = omega (arith, all_taken (length s) s)

  pub cut_taken : is_cut s ≡ ltb (taken (messages_in s)) (length s)
  unfolding is_cut messages_in
  cut_taken = go (framed (length s) s).rest (all_taken (length s) s)
    where
      go : (r : List ℕ) → taken (framed (length s) s).messages + length r ≡ length s → ltb 0 (length r) ≡ ltb (taken (framed (length s) s).messages) (length s)
      go r e = search (rules, tests)

-- what the loop over the messages asks for
pub ruleset totals = (messages_few, taken_within, cut_taken)

-- ---- the place behind a whole message

pub next_after : (s : List ℕ) (at : ℕ) → is_whole (drop at s) ≡ true → drop (next_place s at) s ≡ after_first (drop at s)
unfolding next_place
next_after s at h = go (leb (length (drop at s)) (4 + length_word (drop at s))) refl
  where
    go : (b : Bool) → leb (length (drop at s)) (4 + length_word (drop at s)) ≡ b
        → drop (cond b (length s) (at + (4 + length_word (drop at s)))) s ≡ drop (4 + length_word (drop at s)) (drop at s)
    go true e =
        drop_of_length-le s {i = length s} (omega arith)
        ∙ sym (drop_of_length-le (drop at s) {i = 4 + length_word (drop at s)} (leb-true (length (drop at s)) (4 + length_word (drop at s)) e))
    go false e = sym (drop-drop (4 + length_word (drop at s)) at s)
