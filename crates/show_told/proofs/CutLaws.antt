-- Lines one after another are told by the text that they make.
use mathlib.Core.Path.{◌≡◌, refl, ap, sym, ◌∙◌}
use Prim.Native.Nat.{ℕ, ◌+◌, ◌<◌}
use native.Mathlib.Omega.{arith}
use mathlib.Core.Bool.{Bool, true, false, cond}
use mathlib.Core.List.{List, [], ◌∷◌, ◌++◌, append_assoc}
use lib.ListN.{length, get_or, length-append}
use lib.Dec.{eqb, leb}
use borrow.Author.Tests.{leb-true, le-leb, ne_eqb}
use Rattle.lists.specs.Lists.{All, every, joined}
use Rattle.lists.proofs.ListLaws.{and_l, every_head, every_tail}
use Rattle.wire_read.specs.Read.{reading_of}
use Rattle.replica.specs.Deliver.{Done, deliver_of}
use Rattle.show_text.specs.Text.{ascii, decimal}
use Rattle.show_text.proofs.DecimalLaws.{decimal_every}
use Rattle.show_listing.specs.Listing.{cut_line}
use Rattle.show_trace.specs.Trace.{state_text, answer_text, said_part, delivery_line}
use Rattle.show_told.specs.Told.{lines_from, is_printable, IsLine}
use Rattle.show_told.proofs.StartLaws.{Behind}
use Rattle.show_told.proofs.PrintLaws.{line_is}

-- the first line, without its end, and what stands behind it
record Cut : Type 0 where
  front : List ℕ
  rest : List ℕ

first_line : List ℕ → Cut
first_line [] = record { front = []; rest = [] }
first_line (c ∷ s) = cond (eqb c 10) (record { front = []; rest = s }) (record { front = c ∷ (first_line s).front; rest = (first_line s).rest })

no_end : (c : ℕ) → is_printable c ≡ true → eqb c 10 ≡ false
no_end c h = ne_eqb c 10 (λ e. omega (arith, leb-true 32 c (and_l (leb 32 c) (leb c 126) h)))

cut_text : (t x : List ℕ) → every is_printable t ≡ true → first_line (t ++ (10 ∷ x)) ≡ record { front = t; rest = x }
unfolding first_line
cut_text [] x h = refl
cut_text (c ∷ t) x h = rw (no_end c (every_head is_printable c t h), cut_text t x (every_tail is_printable c t h))

cut_line_law : (a : List ℕ) (i : IsLine a) (x : List ℕ) → first_line (a ++ x) ≡ record { front = i.text; rest = x }
unfolding ascii
cut_line_law a i x =
    ap (λ (s : List ℕ). first_line (s ++ x)) i.is ∙ ap first_line (append_assoc i.text (ascii "\n") x) ∙ cut_text i.text x i.prints

line_told : (a b x y : List ℕ) → IsLine a → IsLine b → a ++ x ≡ b ++ y → (a ≡ b) × (x ≡ y)
line_told a b x y i j e =
    let c = sym (cut_line_law a i x) ∙ ap first_line e ∙ cut_line_law b j y in
    (i.is ∙ ap (λ (d : Cut). d.front ++ ascii "\n") c ∙ sym j.is, ap (λ (d : Cut). d.rest) c)

some_text : (a x : List ℕ) → IsLine a → 0 < length (a ++ x)
unfolding ascii
some_text a x i = omega (arith, length-append a x, ap length i.is, length-append i.text (ascii "\n"))

-- a line that starts with a digit
pub record NumberedLine (a : List ℕ) : Type 0 where
  pub line : IsLine a
  pub digit : (x : List ℕ) → get_or (a ++ x) 0 0 < 64

-- it is not the last line
not_cut : (a x : List ℕ) → NumberedLine a → (c : Bool) → cut_line c ≡ a ++ x → ⊥
unfolding ascii
not_cut a x n true e = omega (arith, ap (λ (s : List ℕ). get_or s 0 0) e, n.digit x)
not_cut a x n false e = omega (arith, ap length e, some_text a x n.line)

module _ (c d : Bool) where
  pub lines_told : (xs ys : List (List ℕ)) → All NumberedLine xs → All NumberedLine ys → joined xs ++ cut_line c ≡ joined ys ++ cut_line d → xs ≡ ys
  lines_told [] [] f g e = refl
  lines_told [] (y ∷ ys) f g e = absurd (not_cut y (joined ys ++ cut_line d) g.0 c (e ∙ append_assoc y (joined ys) (cut_line d)))
  lines_told (x ∷ xs) [] f g e = absurd (not_cut x (joined xs ++ cut_line c) f.0 d (sym e ∙ append_assoc x (joined xs) (cut_line c)))
  lines_told (x ∷ xs) (y ∷ ys) f g e =
      let l = sym (append_assoc x (joined xs) (cut_line c)) ∙ e ∙ append_assoc y (joined ys) (cut_line d) in
      let t = line_told x y (joined xs ++ cut_line c) (joined ys ++ cut_line d) f.0.line g.0.line l in
      let r = lines_told xs ys f.1 g.1 t.1 in
      λ i. t.0 i ∷ r i

-- ---- the lines of deliveries

first_by : (t s : List ℕ) → every (λ c. leb c 57) t ≡ true → get_or s 0 0 < 64 → get_or (t ++ s) 0 0 < 64
first_by [] s h k = k
first_by (c ∷ t) s h k = omega (arith, leb-true c 57 (every_head (λ d. leb d 57) c t h))

line_first : (place : ℕ) (m : List ℕ) (d : Done) (x : List ℕ) → get_or (delivery_line place m d ++ x) 0 0 < 64
unfolding delivery_line ascii
line_first place m d x =
    let r : List ℕ = ascii ": " ++ (said_part m (reading_of m) ++ (answer_text d.answer ++ (ascii "; " ++ (state_text d.words ++ ascii "\n")))) in
    rw (append_assoc (decimal place) r x) (first_by (decimal place) (r ++ x) (decimal_every (λ c. leb c 57) (λ e h. le-leb (48 + e) 57 (omega arith)) place) (omega arith))

pub each_line : (place : ℕ) (l : List ℕ) (ms : List (List ℕ)) → All NumberedLine (lines_from place l ms)
unfolding lines_from
each_line place l [] = tt
each_line place l (m ∷ ms) =
    (record { line = line_is place m (deliver_of l m); digit = line_first place m (deliver_of l m) }, each_line (place + 1) (deliver_of l m).words ms)

pub lines_first : (xs : List (List ℕ)) (c : Bool) → All NumberedLine xs → Behind (joined xs ++ cut_line c)
unfolding ascii
lines_first [] true f = omega arith
lines_first [] false f = omega arith
lines_first (x ∷ xs) c f = rw (append_assoc x (joined xs) (cut_line c)) (omega (arith, f.0.digit (joined xs ++ cut_line c)))
