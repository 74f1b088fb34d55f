-- Laws of rows of equal width: a value a row, zeros behind them.
use mathlib.Core.Path.{◌≡◌, refl, ap, sym, ◌∙◌, subst}
use Prim.Native.Nat.{ℕ, zero, suc, ◌+◌, ◌-◌, ◌*◌, ◌≤◌, ◌<◌}
use native.Mathlib.Nat.{mul-zero, mul-le-mul_left, le_trans}
use native.Mathlib.Omega.{arith}
use mathlib.Core.Bool.{Bool, true, false, cond, not}
use mathlib.Core.List.{List, [], ◌∷◌, ◌++◌, map, append_assoc, append-nil}
use lib.ListN.{length, take, drop, get_or, replicate, length-append, length-drop, length-replicate, take-append-drop, replicate-append-replicate, length-map}
use lib.Seq.{drop-drop, take_at, drop_at, take-add, take-append-add, drop-append-add, length-take-le}
use borrow.Author.Tests.{eqb-true}
use Rattle.lists.specs.Lists.{All, every, any, passing, flat_map}
use Rattle.lists.proofs.ListLaws.{every_is, every_replicate, length_passing}
use Rattle.lists.proofs.FlatLaws.{flat_append, length_flat}
use Rattle.rows.specs.Rows.{put_words, opened, places, packed, kept_words, taken_out, is_zero}

pub length_places : (w k : ℕ) (l : List ℕ) → length (places w k l) ≡ k
unfolding places
length_places w zero l = refl
length_places w (suc k) l = ap suc (length_places w k (drop w l))

pub any_of : {A : Type 0} (t : A → Bool) (f : List ℕ → A) (xs : List (List ℕ)) → any t (map f xs) ≡ any (λ x. t (f x)) xs
unfolding any
any_of t f [] = refl
any_of t f (x ∷ xs) = rw (any_of t f xs)

pub drop_zeros : (k n : ℕ) → k ≤ n → drop {A = ℕ} k (replicate n 0) ≡ replicate (n - k) 0
drop_zeros zero n h = let e : n - 0 ≡ n = omega arith in rw e
drop_zeros (suc k) zero h = let z : ⊥ = omega arith in elim z [ ]
drop_zeros (suc k) (suc n) h = let e : suc n - suc k ≡ n - k = omega arith in rw e (drop_zeros k n (omega arith))

pub take_zeros : (k n : ℕ) → k ≤ n → take {A = ℕ} k (replicate n 0) ≡ replicate k 0
take_zeros zero n h = refl
take_zeros (suc k) zero h = let z : ⊥ = omega arith in elim z [ ]
take_zeros (suc k) (suc n) h = ap (λ (y : List ℕ). 0 ∷ y) (take_zeros k n (omega arith))

module _ {A : Type 0} (f : A → List ℕ) where
  -- fewer words and zeros behind them
  pub packed_more : (k n : ℕ) (xs : List A) → length (flat_map f xs) ≤ k → k ≤ n → packed f k xs ++ replicate (n - k) 0 ≡ packed f n xs
  packed_more k n xs h g =
      let e : k - length (flat_map f xs) + (n - k) ≡ n - length (flat_map f xs) = omega arith in
      append_assoc (flat_map f xs) (replicate (k - length (flat_map f xs)) 0) (replicate (n - k) 0)
      ∙ ap (λ (y : List ℕ). flat_map f xs ++ y) (replicate-append-replicate (k - length (flat_map f xs)) (n - k) 0 ∙ ap (λ (q : ℕ). replicate q 0) e)

  pub length_packed : (n : ℕ) (xs : List A) → length (flat_map f xs) ≤ n → length (packed f n xs) ≡ n
  length_packed n xs h = length-append (flat_map f xs) (replicate (n - length (flat_map f xs)) 0) ∙ omega (arith, length-replicate {A = ℕ} (n - length (flat_map f xs)) 0)

  pub drop_packed : (n : ℕ) (xs : List A) (k : ℕ) → length (flat_map f xs) ≤ k → k ≤ n → drop k (packed f n xs) ≡ replicate (n - k) 0
  drop_packed n xs k h g =
      let j : ℕ = k - length (flat_map f xs) in
      let e : k ≡ length (flat_map f xs) + j = omega arith in
      let d : n - length (flat_map f xs) - j ≡ n - k = omega arith in
      ap (λ (q : ℕ). drop q (packed f n xs)) e
      ∙ drop-append-add (flat_map f xs) (replicate (n - length (flat_map f xs)) 0) j
      ∙ drop_zeros j (n - length (flat_map f xs)) (omega arith)
      ∙ ap (λ (q : ℕ). replicate q 0) d

  pub take_packed : (n : ℕ) (xs : List A) (k : ℕ) → length (flat_map f xs) ≤ k → k ≤ n → take k (packed f n xs) ≡ packed f k xs
  take_packed n xs k h g =
      let j : ℕ = k - length (flat_map f xs) in
      let e : k ≡ length (flat_map f xs) + j = omega arith in
      ap (λ (q : ℕ). take q (packed f n xs)) e
      ∙ take-append-add (flat_map f xs) (replicate (n - length (flat_map f xs)) 0) j
      ∙ ap (λ (y : List ℕ). flat_map f xs ++ y) (take_zeros j (n - length (flat_map f xs)) (omega arith))

module _ {A : Type 0} (w : ℕ) (f : A → List ℕ) (wide : (x : A) → length (f x) ≡ w) where
  -- a row behind the last
  pub put_last : (n : ℕ) (xs : List A) (x : A) → w * length xs + w ≤ n → put_words (packed f n xs) (w * length xs) (f x) ≡ packed f n (xs ++ x ∷ [])
  put_last n xs x h =
      let a : ℕ = w * length xs in
      let la : length (flat_map f xs) ≡ a = length_flat w f wide xs in
      let z : List ℕ = replicate (n - length (flat_map f xs)) 0 in
      let front : take a (packed f n xs) ≡ flat_map f xs = take_at (flat_map f xs) z a la in
      let behind : drop (a + length (f x)) (packed f n xs) ≡ replicate (n - (a + length (f x))) 0 =
      drop_packed f n xs (a + length (f x)) (omega arith) (omega (arith, wide x)) in
      let more : flat_map f (xs ++ x ∷ []) ≡ flat_map f xs ++ f x = flat_append f xs (x ∷ []) ∙ ap (λ (y : List ℕ). flat_map f xs ++ y) (append-nil (f x)) in
      let long : length (flat_map f (xs ++ x ∷ [])) ≡ a + length (f x) = ap length more ∙ length-append (flat_map f xs) (f x) ∙ omega arith in
      ap (λ (y : List ℕ). y ++ f x ++ drop (a + length (f x)) (packed f n xs)) front
      ∙ ap (λ (y : List ℕ). flat_map f xs ++ f x ++ y) (behind ∙ ap (λ (q : ℕ). replicate (n - q) 0) (sym long))
      ∙ ap (λ (y : List ℕ). y ++ replicate (n - length (flat_map f (xs ++ x ∷ []))) 0) (sym more)

  -- the row of x in front of the last rows
  pub put_between : (n : ℕ) (xs ys : List A) (x : A) → w * length xs + (w * length ys + w) ≤ n
      → opened (packed f n (xs ++ ys)) (w * length xs) (f x) ≡ packed f n (xs ++ x ∷ ys)
  put_between n xs ys x h =
      let a : ℕ = w * length xs in
      let b : ℕ = w * length ys in
      let la : length (flat_map f xs) ≡ a = length_flat w f wide xs in
      let lb : length (flat_map f ys) ≡ b = length_flat w f wide ys in
      let both : flat_map f (xs ++ ys) ≡ flat_map f xs ++ flat_map f ys = flat_append f xs ys in
      let lab : length (flat_map f (xs ++ ys)) ≡ a + b = ap length both ∙ length-append (flat_map f xs) (flat_map f ys) ∙ omega arith in
      let p : List ℕ = packed f n (xs ++ ys) in
      let lp : length p ≡ n = length_packed f n (xs ++ ys) (omega arith) in
      let shape : p ≡ flat_map f xs ++ packed f (n - a) ys =
      ap (λ (y : List ℕ). y ++ replicate (n - length (flat_map f (xs ++ ys))) 0) both
      ∙ append_assoc (flat_map f xs) (flat_map f ys) (replicate (n - length (flat_map f (xs ++ ys))) 0)
      ∙ ap (λ (q : ℕ). flat_map f xs ++ (flat_map f ys ++ replicate q 0)) (same_zeros a b la lb lab) in
      let front : take a p ≡ flat_map f xs = ap (take a) shape ∙ take_at (flat_map f xs) (packed f (n - a) ys) a la in
      let back : drop a p ≡ packed f (n - a) ys = ap (drop a) shape ∙ drop_at (flat_map f xs) (packed f (n - a) ys) a la in
      let room : length p - (a + length (f x)) ≡ n - a - w = omega (arith, wide x) in
      let kept : take (n - a - w) (packed f (n - a) ys) ≡ packed f (n - a - w) ys = take_packed f (n - a) ys (n - a - w) (omega arith) (omega arith) in
      let more : flat_map f (xs ++ x ∷ ys) ≡ flat_map f xs ++ (f x ++ flat_map f ys) = flat_append f xs (x ∷ ys) in
      let lm : length (flat_map f (xs ++ x ∷ ys)) ≡ a + (w + b) =
      ap length more ∙ length-append (flat_map f xs) (f x ++ flat_map f ys) ∙ omega (arith, length-append (f x) (flat_map f ys), wide x) in
      let zs : n - a - w - length (flat_map f ys) ≡ n - length (flat_map f (xs ++ x ∷ ys)) = omega arith in
      ap (λ (y : List ℕ). y ++ f x ++ take (length p - (a + length (f x))) (drop a p)) front
      ∙ ap (λ (y : List ℕ). flat_map f xs ++ f x ++ take (length p - (a + length (f x))) y) back
      ∙ ap (λ (q : ℕ). flat_map f xs ++ f x ++ take q (packed f (n - a) ys)) room
      ∙ ap (λ (y : List ℕ). flat_map f xs ++ f x ++ y) kept
      ∙ sym (append_assoc (flat_map f xs ++ f x) (flat_map f ys) (replicate (n - a - w - length (flat_map f ys)) 0))
      ∙ ap (λ (y : List ℕ). y ++ replicate (n - a - w - length (flat_map f ys)) 0) (append_assoc (flat_map f xs) (f x) (flat_map f ys) ∙ sym more)
      ∙ ap (λ (q : ℕ). flat_map f (xs ++ x ∷ ys) ++ replicate q 0) zs
    where
      same_zeros : (a b : ℕ) → length (flat_map f xs) ≡ a → length (flat_map f ys) ≡ b → length (flat_map f (xs ++ ys)) ≡ a + b
          → n - length (flat_map f (xs ++ ys)) ≡ n - a - length (flat_map f ys)
      same_zeros a b la lb lab = omega arith

  module _ (of : List ℕ → A) (P : A → Type 0) (reads : (x : A) (r : List ℕ) → P x → of (f x ++ r) ≡ x) where
    -- what the rows say
    pub read_back : (xs : List A) (r : List ℕ) → All P xs → map of (places w (length xs) (flat_map f xs ++ r)) ≡ xs
    unfolding places
    read_back [] r a = refl
    read_back (x ∷ xs) r a =
        let e : (f x ++ flat_map f xs) ++ r ≡ f x ++ (flat_map f xs ++ r) = append_assoc (f x) (flat_map f xs) r in
        let d : drop w (f x ++ (flat_map f xs ++ r)) ≡ flat_map f xs ++ r = drop_at (f x) (flat_map f xs ++ r) w (wide x) in
        ap (λ (y : List ℕ). of y ∷ map of (places w (length xs) (drop w y))) e
        ∙ ap (λ (y : List ℕ). of (f x ++ (flat_map f xs ++ r)) ∷ map of (places w (length xs) y)) d
        ∙ rw (reads x (flat_map f xs ++ r) a.0, read_back xs r a.1)

  -- each row is the very row of what it says
  abbrev pub Exact : (List ℕ → A) → ℕ → List ℕ → Type 0
  Exact of k l = All (λ r. take w r ≡ f (of r)) (places w k l)

  pub all_exact : (of : List ℕ → A) → ((l : List ℕ) → w ≤ length l → take w l ≡ f (of l)) → (k : ℕ) (l : List ℕ) → w * k ≤ length l → Exact of k l
  unfolding places
  all_exact of row zero l h = tt
  all_exact of row (suc k) l h = (row l (omega arith), all_exact of row k (drop w l) (rw (length-drop w l) (omega arith)))

  -- words that are the rows of what they say
  pub exact_words : (of : List ℕ → A) (k : ℕ) (l : List ℕ) → w * k ≤ length l → take (w * k) l ≡ flat_map f (map of (places w k l)) → Exact of k l
  unfolding places
  exact_words of zero l h e = tt
  exact_words of (suc k) l h e =
      let more : w * suc k ≡ w + w * k = omega arith in
      let os : List A = map of (places w k (drop w l)) in
      let both : take w l ++ take (w * k) (drop w l) ≡ f (of l) ++ flat_map f os = sym (take-add w (w * k) l) ∙ ap (λ (q : ℕ). take q l) (sym more) ∙ e in
      let lt : length (take w l) ≡ w = length-take-le w l (omega arith) in
      let front : take w l ≡ f (of l) =
      sym (take_at (take w l) (take (w * k) (drop w l)) w lt) ∙ ap (take w) both ∙ take_at (f (of l)) (flat_map f os) w (wide (of l)) in
      let back : take (w * k) (drop w l) ≡ flat_map f os =
      sym (drop_at (take w l) (take (w * k) (drop w l)) w lt) ∙ ap (drop w) both ∙ drop_at (f (of l)) (flat_map f os) w (wide (of l)) in
      (front, exact_words of k (drop w l) (rw (length-drop w l) (omega arith)) back)

  pub exact_packed : (of : List ℕ → A) (n k : ℕ) (l : List ℕ) → w * k ≤ length l → l ≡ packed f n (map of (places w k l)) → Exact of k l
  exact_packed of n k l h s =
      let xs : List A = map of (places w k l) in
      let b : length (flat_map f xs) ≡ w * k = length_flat w f wide xs ∙ ap (λ (q : ℕ). w * q) (length-map (places w k l) of ∙ length_places w k l) in
      exact_words of k l h (ap (take (w * k)) s ∙ take_at (flat_map f xs) (replicate (n - length (flat_map f xs)) 0) (w * k) b)

  -- the rows that do not pass
  module _ (of : List ℕ → A) (t : List ℕ → Bool) (u : A → Bool) (same : (l : List ℕ) → u (of l) ≡ not (t l)) where
    one_row : (b : Bool) (k : ℕ) (l : List ℕ) → take w l ≡ f (of l) → kept_words t w k (drop w l) ≡ flat_map f (passing u (map of (places w k (drop w l))))
        → cond b (kept_words t w k (drop w l)) (take w l ++ kept_words t w k (drop w l))
        ≡ flat_map f (cond (not b) (of l ∷ passing u (map of (places w k (drop w l)))) (passing u (map of (places w k (drop w l)))))
    one_row true k l h e = e
    one_row false k l h e = rw (e, h)

    pub kept_passing : (k : ℕ) (l : List ℕ) → Exact of k l → kept_words t w k l ≡ flat_map f (passing u (map of (places w k l)))
    unfolding places kept_words passing
    kept_passing zero l h = refl
    kept_passing (suc k) l h =
        let ih : kept_words t w k (drop w l) ≡ flat_map f (passing u (map of (places w k (drop w l)))) = kept_passing k (drop w l) h.1 in
        rw (same l) (one_row (t l) k l h.0 ih)

    kept_few : (k : ℕ) (l : List ℕ) → w * length (passing u (map of (places w k l))) ≤ w * k
    kept_few k l = mul-le-mul_left w (le_trans (length_passing u (map of (places w k l))) (omega (arith, length-map (places w k l) of, length_places w k l)))

    pub kept_words_law : (k : ℕ) (l : List ℕ) → Exact of k l → length (kept_words t w k l) ≡ w * length (passing u (map of (places w k l)))
    kept_words_law k l h = ap length (kept_passing k l h) ∙ length_flat w f wide (passing u (map of (places w k l)))

    pub kept_bound : (k : ℕ) (l : List ℕ) → Exact of k l → length (kept_words t w k l) ≤ w * k
    kept_bound k l h = rw (kept_words_law k l h) (kept_few k l)

    taken_packed : (n k : ℕ) (l : List ℕ) → Exact of k l → w * k ≤ n → drop (w * k) l ≡ replicate (n - w * k) 0
        → taken_out t w k l ≡ packed f n (passing u (map of (places w k l)))
    unfolding taken_out
    taken_packed n k l h g e =
        let q : ℕ = length (kept_words t w k l) in
        let b : q ≤ w * k = kept_bound k l h in
        let z : w * k - q + (n - w * k) ≡ n - q = omega arith in
        ap (λ (y : List ℕ). kept_words t w k l ++ (replicate (w * k - q) 0 ++ y)) e
        ∙ ap (λ (y : List ℕ). kept_words t w k l ++ y) (replicate-append-replicate (w * k - q) (n - w * k) 0 ∙ ap (λ (j : ℕ). replicate j 0) z)
        ∙ ap (λ (y : List ℕ). y ++ replicate (n - length y) 0) (kept_passing k l h)

    -- rows taken out of packed rows
    pub taken_out_law : (n k : ℕ) (l : List ℕ) → length l ≡ n → w * k ≤ length l → l ≡ packed f n (map of (places w k l))
        → taken_out t w k l ≡ packed f n (passing u (map of (places w k l)))
    taken_out_law n k l e g s =
        let c : length (map of (places w k l)) ≡ k = length-map (places w k l) of ∙ length_places w k l in
        let b : length (flat_map f (map of (places w k l))) ≡ w * k = length_flat w f wide (map of (places w k l)) ∙ ap (λ (q : ℕ). w * q) c in
        let d : w * k ≤ n = omega arith in
        taken_packed n k l (exact_packed of n k l g s) d (ap (drop (w * k)) s ∙ drop_packed f n (map of (places w k l)) (w * k) (omega arith) d)

-- ---- rows and zeros behind them

zero_is : (x : ℕ) → is_zero x ≡ true → x ≡ 0
zero_is x h = eqb-true x 0 h

module _ {A : Type 0} (w : ℕ) (f : A → List ℕ) (of : List ℕ → A) where
  pub rows_words : (n : ℕ) (s : List ℕ) → All (λ r. take w r ≡ f (of r)) (places w n s) → take (w * n) s ≡ flat_map f (map of (places w n s))
  unfolding places
  rows_words zero s h = rw (mul-zero w)
  rows_words (suc n) s h =
      let e : w * suc n ≡ w + w * n = omega arith in
      ap (λ (q : ℕ). take q s) e ∙ take-add w (w * n) s
      ∙ ap (λ (y : List ℕ). y ++ take (w * n) (drop w s)) h.0
      ∙ ap (λ (y : List ℕ). f (of s) ++ y) (rows_words n (drop w s) h.1)

  pub part_packed : (n : ℕ) (s : List ℕ) (size : ℕ) → length s ≡ size → w * n ≤ size → All (λ r. take w r ≡ f (of r)) (places w n s)
      → every is_zero (drop (w * n) s) ≡ true → s ≡ packed f size (map of (places w n s))
  part_packed n s size long h x z =
      let front : take (w * n) s ≡ flat_map f (map of (places w n s)) = rows_words n s x in
      let lf : length (flat_map f (map of (places w n s))) ≡ w * n = ap length (sym front) ∙ length-take-le (w * n) s (omega arith) in
      let lz : length (drop (w * n) s) ≡ size - length (flat_map f (map of (places w n s))) = length-drop (w * n) s ∙ omega arith in
      let zeros : drop (w * n) s ≡ replicate (size - length (flat_map f (map of (places w n s)))) 0 =
      every_is 0 is_zero zero_is (drop (w * n) s) z ∙ ap (λ (q : ℕ). replicate q 0) lz in
      sym (take-append-drop (w * n) s) ∙ ap (λ (y : List ℕ). y ++ drop (w * n) s) front ∙ ap (λ (y : List ℕ). flat_map f (map of (places w n s)) ++ y) zeros

-- ---- a row by its number

pub place_of : {A : Type 0} (of : List ℕ → A) (d : A) (w n k : ℕ) (s : List ℕ) → k < n → get_or (map of (places w n s)) k d ≡ of (drop (w * k) s)
unfolding places
place_of of d w zero k s h = let z : ⊥ = omega arith in elim z [ ]
place_of of d w (suc n) zero s h = let e : w * 0 ≡ 0 = mul-zero w in rw e
place_of of d w (suc n) (suc k) s h =
    let e : w + w * k ≡ w * suc k = omega arith in
    place_of of d w n k (drop w s) (omega arith) ∙ ap of (drop-drop (w * k) w s ∙ ap (λ (q : ℕ). drop q s) e)

-- what holds of all rows holds of the row of a number
pub place_all : (P : List ℕ → Type 0) (w n k : ℕ) (s : List ℕ) → k < n → All P (places w n s) → P (drop (w * k) s)
unfolding places
place_all P w zero k s h a = let z : ⊥ = omega arith in elim z [ ]
place_all P w (suc n) zero s h a = let e : w * 0 ≡ 0 = mul-zero w in rw e a.0
place_all P w (suc n) (suc k) s h a =
    let e : w + w * k ≡ w * suc k = omega arith in
    subst P (drop-drop (w * k) w s ∙ ap (λ (q : ℕ). drop q s) e) (place_all P w n k (drop w s) (omega arith) a.1)

-- behind rows that fill their words with zeros there are zeros
pub zeros_behind : {A : Type 0} (f : A → List ℕ) (n k : ℕ) (part : List ℕ) (xs : List A) → part ≡ packed f n xs → length (flat_map f xs) ≡ k → k ≤ n
    → every is_zero (drop k part) ≡ true
zeros_behind f n k part xs e h g =
    ap (λ (y : List ℕ). every is_zero (drop k y)) e ∙ ap (every is_zero) (drop_packed f n xs k (omega arith) g) ∙ every_replicate 0 is_zero refl (n - k)
