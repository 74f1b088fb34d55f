-- Texts put on a page one after another are one text put at once.
use mathlib.Core.Path.{◌≡◌, refl, ap, sym, ◌∙◌}
use mathlib.Core.List.{List, [], ◌∷◌, ◌++◌}
use Prim.Native.Nat.{ℕ, ◌+◌, ◌<◌}
use Prim.Native.Char.{code}
use Prim.Native.String.{String, [] as none, ◌∷◌ as ◌then◌}
use lib.ListN.{length, take, get_or}
use lib.Seq.{take_all}
use Rattle.lists.specs.Lists.{flat_map}
use Rattle.lists.proofs.FlatLaws.{flat_more}
use Rattle.show_text.specs.declared.Page.{Page}
use Rattle.show_text.specs.Text.{ascii, Puts}
use Rattle.show_text.specs.Page.{with_text}
use Rattle.show_text.proofs.TextLaws.{puts_then, puts_none}

-- a page with that in its buffer, and at that place
abbrev with_both : Page → List ℕ → ℕ → Page
with_both p d i = record p { buf = record p.buf { now = d }; at = i }

pub text_put : (p : Page) (s : List ℕ) (d : List ℕ) (i : ℕ) → Puts p.buf.now p.at s d i → with_both p d i ≡ with_text p s
unfolding with_text
text_put p s d i w = rw (w.buffer_is, w.place_is)

put_text : (p : Page) (s : List ℕ) → Puts p.buf.now p.at s (with_text p s).buf.now (with_text p s).at
unfolding with_text
put_text p s = record { place_is = refl; buffer_is = refl }

pub text_then : (p : Page) (a b : List ℕ) → with_text p (a ++ b) ≡ with_text (with_text p a) b
unfolding with_text
text_then p a b = sym (text_put p (a ++ b) _ _ (puts_then (put_text p a) (put_text (with_text p a) b)))

pub text_none : (p : Page) → with_text p [] ≡ p
unfolding with_text
text_none p = sym (text_put p [] p.buf.now p.at (puts_none p.buf.now p.at))

-- a word that stands written out
abbrev pub codes : String → List ℕ
codes none = []
codes (c then s) = code c ∷ codes s

pub ascii_is : (s : String) → ascii s ≡ codes s
unfolding ascii
ascii_is none = refl
ascii_is (c then s) = ap (λ (l : List ℕ). code c ∷ l) (ascii_is s)

-- one turn of a loop that puts what each of a list gives
pub text_turn : {A : Type 0} (p : Page) (f : A → List ℕ) (s : List A) (i : ℕ) (d : A) → i < length s
    → with_text p (flat_map f (take (i + 1) s)) ≡ with_text (with_text p (flat_map f (take i s))) (f (get_or s i d))
text_turn p f s i d h = ap (with_text p) (flat_more f s i d h) ∙ text_then p (flat_map f (take i s)) (f (get_or s i d))

pub text_more : (p : Page) (f : ℕ → List ℕ) (s : List ℕ) (i : ℕ) → i < length s
    → with_text p (flat_map f (take (i + 1) s)) ≡ with_text (with_text p (flat_map f (take i s))) (f (get_or s i 0))
text_more p f s i h = text_turn p f s i 0 h

-- what a function that puts texts on a page, one after another, is proved by
pub ruleset pages = (text_then, text_none, ascii_is, text_more, take_all)

-- two texts, one after another
pub put_then : {q r : Page} (p : Page) (a b : List ℕ) → q ≡ with_text p a → r ≡ with_text q b → r ≡ with_text p (a ++ b)
put_then {q} {r} p a b v w = rw (w, v) (sym (text_then p a b))
