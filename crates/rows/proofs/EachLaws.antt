-- Laws of `each`: what a chain or a loop over rows, each of its width, says of the places of the rows.
use mathlib.Core.Path.{◌≡◌, refl, ap, sym, ◌∙◌}
use Prim.Native.Nat.{ℕ, zero, suc, ◌+◌, ◌*◌, ◌≤◌, ◌<◌}
use native.Mathlib.Omega.{arith}
use mathlib.Core.Bool.{Bool, ◌&&◌}
use mathlib.Core.List.{List, [], ◌∷◌, ◌++◌, map}
use lib.ListN.{length, take, drop, get_or, length-append, length-drop}
use Rattle.std.proofs.lemmas.List.{take-take, drop-take, length-take-le, take_at, drop_at, get_or-take}
use denote.Ref.{Bor}
use Rattle.std.specs.declared.slice.ChunksExact.{ChunksExact}
use Rattle.std.specs.Slice.Iter.{chunks_exact_rest, chunks_exact_size, chunks_exact_steps}
use denote.Param.Members.{Mut, Called}
use lib.Dec.{eqb, eqb-suc-zero}
use lib.Bits.{bit_or, or_zero_l, or_add_and, and_le_r}
use borrow.Author.Tests.{ne_eqb}
use Rattle.std.specs.List.{fold}
use Rattle.std.proofs.lemmas.Fn.{fold_over}
use Rattle.std.proofs.lemmas.List.Sums.{fold_push}
use Rattle.rows.proofs.PlaceLaws.{and_true, and_assoc}
use Rattle.std.specs.Iterator.{AlwaysYields, ChecksAny, ChecksAll, FoldsItems}
use Rattle.std.proofs.lemmas.Iterator.Search.{any_from_yields_List, all_from_yields_List}
use Rattle.std.specs.List.{list_any, list_all}
use Rattle.std.specs.Prelude.{Some, None}
use Rattle.lists.specs.Lists.{any, every}
use Rattle.rows.specs.Rows.{places, cut, Gives, word_in, word_is, words_are, is_zero}

-- a row and what is behind it, of the words of more than one row
first_row : (w k : ℕ) (l : List ℕ) (x r : List ℕ) → w * suc k ≤ length l → take (w * suc k) l ≡ x ++ r → length x ≡ w → (x ≡ take w l) × (r ≡ take (w * k) (drop w l))
first_row w k l x r h e n =
    let m : w * suc k ≡ w + w * k = omega arith in
    let f : take (w + w * k) l ≡ x ++ r = rw m at e in (
      sym (take_at x r w n) ∙ ap (take w) (sym f) ∙ take-take w (w + w * k) l (omega arith),
      sym (drop_at x r w n) ∙ ap (drop w) (sym f) ∙ drop-take w (w * k) l,
    )

pub always : (w k : ℕ) (l : List ℕ) (it : ChunksExact ℕ) → 0 < w → w * k ≤ length l → chunks_exact_rest it ≡ take (w * k) l → chunks_exact_size it ≡ w
    → AlwaysYields chunks_exact_steps (λ x. x.now) it (cut w k l)
unfolding places
always w zero l it p h e n = λ x j s. omega (arith, length-take-le (w * 0) l h, ap length (sym e ∙ s.1.0), length-append x.now (chunks_exact_rest j), s.1.1)
always w (suc k) l it p h e n = (
  (λ j s. omega (arith, ap length e, length-take-le (w * suc k) l h, s.1.0)),
  λ x j s.
      let f = first_row w k l x.now (chunks_exact_rest j) h (sym e ∙ s.1.0) (s.1.1 ∙ n) in
      (f.0, always w k (drop w l) j p (rw (length-drop w l) (omega arith)) f.1 (s.0 ∙ n)),
)

both_zero : (a b : ℕ) → eqb (bit_or a b) 0 ≡ (eqb a 0 && eqb b 0)
both_zero zero b = ap (λ (x : ℕ). eqb x 0) (or_zero_l b)
both_zero (suc a) b =
    let some : suc a ≤ bit_or (suc a) b = omega (arith, or_add_and (suc a) b, and_le_r (suc a) b) in
    rw (ne_eqb (bit_or (suc a) b) 0 (λ e. omega (arith, e, some)), eqb-suc-zero a)

-- ---- chains: the closure computes t, and t reads of a row no more than its words

module _ (t : List ℕ → Bool) (w : ℕ) (same : (y : List ℕ) → t (take w y) ≡ t y) where
  pub any_cut : (k : ℕ) (l : List ℕ) → list_any t (cut w k l) ≡ any t (places w k l)
  unfolding places any
  any_cut zero l = refl
  any_cut (suc k) l = rw (same l, any_cut k (drop w l))

  pub every_cut : (k : ℕ) (l : List ℕ) → list_all t (cut w k l) ≡ every t (places w k l)
  unfolding places every
  every_cut zero l = refl
  every_cut (suc k) l = rw (same l, every_cut k (drop w l))

-- that the closure f computes t of a row
abbrev pub Computes : {F : Type 0} → Mut F (Bor (List ℕ) × Unit {0}) Bool → F → (List ℕ → Bool) → Type 0
Computes {F} g f t = (x : Bor (List ℕ)) (b : Bool) (q : F) → Called g f (x, tt) b q → (q ≡ f) × (b ≡ t x.now)

pub any_row : {F : Type 0} {g : Mut F (Bor (List ℕ) × Unit {0}) Bool} {f : F} {it u : ChunksExact ℕ} {w k : ℕ} {l : List ℕ} (t : List ℕ → Bool) (r : Bool)
    → ChecksAny (chunks_exact_steps {A = ℕ}) g it f r u → Gives it w k l → ((y : List ℕ) → t (take w y) ≡ t y) → Computes g f t → r ≡ any t (places w k l)
any_row {w = w} {k = k} {l = l} t r ran rows same computes =
    any_from_yields_List {steps = chunks_exact_steps {A = ℕ}} {v = λ x. x.now} t _ _ r ran (record { runs = rows.rows }) computes ∙ any_cut t w same k l

pub every_row : {F : Type 0} {g : Mut F (Bor (List ℕ) × Unit {0}) Bool} {f : F} {it u : ChunksExact ℕ} {w k : ℕ} {l : List ℕ} (t : List ℕ → Bool) (r : Bool)
    → ChecksAll (chunks_exact_steps {A = ℕ}) g it f r u → Gives it w k l → ((y : List ℕ) → t (take w y) ≡ t y) → Computes g f t → r ≡ every t (places w k l)
every_row {w = w} {k = k} {l = l} t r ran rows same computes =
    all_from_yields_List {steps = chunks_exact_steps {A = ℕ}} {v = λ x. x.now} t _ _ r ran (record { runs = rows.rows }) computes ∙ every_cut t w same k l

-- the same of what the rows say
any_map : {A : Type 0} (of : List ℕ → A) (u : A → Bool) (ys : List (List ℕ)) → any (λ y. u (of y)) ys ≡ any u (map of ys)
unfolding any
any_map of u [] = refl
any_map of u (y ∷ ys) = rw (any_map of u ys)

every_map : {A : Type 0} (of : List ℕ → A) (u : A → Bool) (ys : List (List ℕ)) → every (λ y. u (of y)) ys ≡ every u (map of ys)
unfolding every
every_map of u [] = refl
every_map of u (y ∷ ys) = rw (every_map of u ys)

pub any_said : {F : Type 0} {g : Mut F (Bor (List ℕ) × Unit {0}) Bool} {f : F} {it u : ChunksExact ℕ} {w k : ℕ} {l : List ℕ} {A : Type 0} (of : List ℕ → A) (t : A → Bool) (r : Bool)
    → ChecksAny (chunks_exact_steps {A = ℕ}) g it f r u → Gives it w k l → ((y : List ℕ) → of (take w y) ≡ of y) → Computes g f (λ y. t (of y)) → r ≡ any t (map of (places w k l))
any_said {w = w} {k = k} {l = l} of t r ran rows same computes = any_row (λ y. t (of y)) r ran rows (λ y. ap t (same y)) computes ∙ any_map of t (places w k l)

pub every_said : {F : Type 0} {g : Mut F (Bor (List ℕ) × Unit {0}) Bool} {f : F} {it u : ChunksExact ℕ} {w k : ℕ} {l : List ℕ} {A : Type 0} (of : List ℕ → A) (t : A → Bool) (r : Bool)
    → ChecksAll (chunks_exact_steps {A = ℕ}) g it f r u → Gives it w k l → ((y : List ℕ) → of (take w y) ≡ of y) → Computes g f (λ y. t (of y)) → r ≡ every t (map of (places w k l))
every_said {w = w} {k = k} {l = l} of t r ran rows same computes = every_row (λ y. t (of y)) r ran rows (λ y. ap t (same y)) computes ∙ every_map of t (places w k l)

-- the word in a column, and in two
pub word_cut : (c w x : ℕ) → c < w → (y : List ℕ) → word_is c x (take w y) ≡ word_is c x y
word_cut c w x h y = ap (λ (z : ℕ). eqb z x) (get_or-take w y c 0 h)

pub words_cut : (c a d b w : ℕ) → c < w → d < w → (y : List ℕ) → words_are c a d b (take w y) ≡ words_are c a d b y
words_cut c a d b w h k y = rw (get_or-take w y c 0 h, get_or-take w y d 0 k)

-- ---- folds

pub fold_row : {F C : Type 0} {g : Mut F (C × (Bor (List ℕ) × Unit {0})) C} {f : F} {it : ChunksExact ℕ} {w k : ℕ} {l : List ℕ} (h : C → List ℕ → C) (z r : C)
    → FoldsItems (chunks_exact_steps {A = ℕ}) g it f z r → Gives it w k l
    → ((a b : C) (x : Bor (List ℕ)) (q : F) → Called g f (a, (x, tt)) b q → (b ≡ h a x.now) × (q ≡ f)) → r ≡ fold h z (cut w k l)
fold_row {C = C} {g = g} {f = f} {it = it} {w = w} {k = k} {l = l} h z r ran rows computes =
    fold_over chunks_exact_steps (λ x. x.now) g (λ ys a. a ≡ fold h z ys) f
    (λ ys a x b q e called. let m = computes a b x q called in (m.0 ∙ ap (λ (n : C). h n x.now) e ∙ sym (fold_push h z ys x.now), m.1))
    it (cut w k l) z r rows.rows refl ran

-- numbers of which each may set bits: 0 together if all are
pub or_words : (z : ℕ) (xs : List ℕ) → eqb (fold bit_or z xs) 0 ≡ (eqb z 0 && every is_zero xs)
unfolding every
or_words z [] = sym (and_true (eqb z 0))
or_words z (x ∷ xs) = or_words (bit_or z x) xs ∙ ap (λ (b : Bool). b && every is_zero xs) (both_zero z x) ∙ sym (and_assoc (eqb z 0) (is_zero x) (every is_zero xs))

pub or_column : (c w k z : ℕ) (l : List ℕ) → c < w → eqb (fold (λ u y. bit_or u (word_in c y)) z (cut w k l)) 0 ≡ (eqb z 0 && every (word_is c 0) (places w k l))
unfolding every places
or_column c w zero z l h = sym (and_true (eqb z 0))
or_column c w (suc k) z l h =
    let e : word_in c (take w l) ≡ word_in c l = get_or-take w l c 0 h in
    or_column c w k (bit_or z (word_in c (take w l))) (drop w l) h
    ∙ ap (λ (b : Bool). b && every (word_is c 0) (places w k (drop w l))) (both_zero z (word_in c (take w l)) ∙ ap (λ (n : ℕ). eqb z 0 && eqb n 0) e)
    ∙ sym (and_assoc (eqb z 0) (word_is c 0 l) (every (word_is c 0) (places w k (drop w l))))

-- ---- loops: what the rows that are left come to is what all come to

pub record Left {B : Type 0} (it : ChunksExact ℕ) (w : ℕ) (of : List (List ℕ) → B) (all : B) : Type 0 where
  pub k : ℕ
  pub l : List ℕ
  pub gives : Gives it w k l
  pub same : all ≡ of (places w k l)

pub left_all : {B : Type 0} {i it : ChunksExact ℕ} {w k : ℕ} {l : List ℕ} (of : List (List ℕ) → B) → Gives i w k l → it ≡ i → Left it w of (of (places w k l))
left_all {k = k} {l = l} of g e = record { k = k; l = l; gives = rw e g; same = refl }

-- y is the row and what stands behind it; of it no more is known than the words of x
turn : {B : Type 0} {it : ChunksExact ℕ} {w k : ℕ} {l : List ℕ} (t : ChunksExact ℕ) (x : Bor (List ℕ)) (of of2 : List (List ℕ) → B) (all : B) → Gives it w k l → all ≡ of (places w k l)
    → chunks_exact_steps it (Some x) t → ((y : List ℕ) (ys : List (List ℕ)) → take w y ≡ x.now → of (y ∷ ys) ≡ of2 ys) → Left t w of2 all
unfolding places
turn {k = zero} t x of of2 all g e s h = absurd (g.rows x t s)
turn {w = w} {k = suc k} {l = l} t x of of2 all g e s h =
    let r = g.rows.1 x t s in
    record { k = k; l = drop w l; gives = record { rows = r.1; size = s.0 ∙ g.size }; same = e ∙ h l (places w k (drop w l)) (sym r.0) }

ends : {B : Type 0} {it : ChunksExact ℕ} {w k : ℕ} {l : List ℕ} (t : ChunksExact ℕ) (of : List (List ℕ) → B) (all : B) → Gives it w k l → all ≡ of (places w k l)
    → chunks_exact_steps it None t → all ≡ of []
unfolding places
ends {k = zero} t of all g e s = e
ends {k = suc k} t of all g e s = absurd (g.rows.0 t s)

module _ {B : Type 0} {it : ChunksExact ℕ} {w : ℕ} {of : List (List ℕ) → B} {all : B} (left : Left it w of all) (t : ChunksExact ℕ) where
  module _ (x : Bor (List ℕ)) (step : chunks_exact_steps it (Some x) t) where
    pub left_next : (of2 : List (List ℕ) → B) → ((y : List ℕ) (ys : List (List ℕ)) → take w y ≡ x.now → of (y ∷ ys) ≡ of2 ys) → Left t w of2 all
    left_next of2 h = turn t x of of2 all left.gives left.same step h

    pub left_found : (b : B) → ((y : List ℕ) (ys : List (List ℕ)) → take w y ≡ x.now → of (y ∷ ys) ≡ b) → b ≡ all
    left_found b h = let n : Left t w (λ _. b) all = left_next (λ _. b) h in sym n.same

  pub left_none : chunks_exact_steps it None t → of [] ≡ all
  left_none s = sym (ends t of all left.gives left.same s)

-- a word of the row
pub column : {w : ℕ} {x : List ℕ} (c : ℕ) (y : List ℕ) → c < w → take w y ≡ x → get_or y c 0 ≡ get_or x c 0
column {w = w} c y h e = sym (get_or-take w y c 0 h) ∙ ap (λ (z : List ℕ). get_or z c 0) e
