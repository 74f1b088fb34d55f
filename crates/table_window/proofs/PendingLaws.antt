-- A valid window is the list of its operations: rising by version, with a store as an insertion and a look as a search.
use mathlib.Core.Path.{◌≡◌, refl, sym, ◌∙◌, subst}
use mathlib.Core.Bool.{Bool, true, false, cond, ◌&&◌}
use Prim.Native.Nat.{ℕ, zero, suc, ◌+◌, ◌-◌, ◌≤◌, ◌<◌}
use native.Mathlib.Omega.{arith}
use mathlib.Core.List.{List, [], ◌∷◌, ◌++◌}
use mathlib.Core.Option.{Option, none, some}
use lib.ListN.{length, take, drop, get_or, set, replicate}
use lib.Dec.{eqb}
use borrow.Author.Tests.{eqb-true, eqb-false, eq-eqb, ne_eqb, lt-ltb, le-ltb}
use Rattle.lists.specs.Lists.{every, rising, insert_by}
use Rattle.lists.proofs.ListLaws.{and_l, and_r, every_head, every_tail, rising_lo, rising_hi, rising_tail, rising_cons}
use Rattle.table_rules.specs.Operations.{Act, Empty, AddEntry, RemoveEntry, Join, Leave, Operation, no_operation, is_act, valid_act, valid_operation, find, insert}
use Rattle.table_words.specs.Layout.{window_size}
use Rattle.table_window.specs.Window.{used, rest_zero, pending_of, in_place, window_of}
use Rattle.table_window.specs.Inner.{place_valid, places_from, moved_by, run_of}

abbrev version : Operation → ℕ
version o = o.version

-- ---- one place

no_act : (a : Act) → is_act a ≡ false → a ≡ Empty
unfolding is_act
no_act Empty h = refl
no_act (AddEntry k i o f d n) h = cc
no_act (RemoveEntry k i) h = cc
no_act (Join g p) h = cc
no_act (Leave g p) h = cc

ok_act : (a : Act) → valid_act a ≡ true → is_act a ≡ true
unfolding is_act valid_act
ok_act Empty h = cc
ok_act (AddEntry k i o f d n) h = refl
ok_act (RemoveEntry k i) h = refl
ok_act (Join g p) h = refl
ok_act (Leave g p) h = refl

-- the facts that the laws below know of a place
pub ok_used : (o : Operation) → valid_operation o ≡ true → used o ≡ true
unfolding valid_operation used
ok_used o h = ok_act o.act h

pub zero_is : (o : Operation) → used o ≡ false → rest_zero o ≡ true → o ≡ no_operation
unfolding used rest_zero no_operation
zero_is o u h =
    let a : o.version ≡ 0 = eqb-true o.version 0 h in
    let b : o.act ≡ Empty = no_act o.act u in
    λ i. record { version = a i; act = b i }

pub none_ok : (v : ℕ) → place_valid v no_operation ≡ true
unfolding place_valid used rest_zero no_operation is_act
none_ok v = refl

none_unused : used no_operation ≡ false
unfolding used no_operation is_act
none_unused = refl

module _ (v : ℕ) (x : Operation) (h : place_valid v x ≡ true) where
  use_test : used x ≡ true → eqb x.version v && valid_operation x ≡ true
  unfolding place_valid
  use_test u = rw u at h

  pub used_version : used x ≡ true → x.version ≡ v
  used_version u = eqb-true x.version v (and_l (eqb x.version v) (valid_operation x) (use_test u))

  pub used_ok : used x ≡ true → valid_operation x ≡ true
  used_ok u = and_r (eqb x.version v) (valid_operation x) (use_test u)

  pub unused_is : used x ≡ false → x ≡ no_operation
  unfolding place_valid
  unused_is u = zero_is x u (rw u at h)

module _ (v : ℕ) (x : Operation) (xs : List Operation) (h : places_from v (x ∷ xs) ≡ true) where
  pub places_head : place_valid v x ≡ true
  unfolding places_from
  places_head = and_l (place_valid v x) (places_from (suc v) xs) h

  pub places_tail : places_from (suc v) xs ≡ true
  unfolding places_from
  places_tail = and_r (place_valid v x) (places_from (suc v) xs) h

-- ---- the list of a valid window rises, each operation in the window's versions

pub pending_rises : (lo v hi : ℕ) (l : List Operation) → lo ≤ v → v + length l ≤ suc hi → places_from v l ≡ true → rising version lo hi (pending_of l) ≡ true
unfolding pending_of places_from rising
pending_rises lo v hi [] a b h = refl
pending_rises lo v hi (x ∷ xs) a b h = go (used x) refl (λ lo a. pending_rises lo (suc v) hi xs a (omega arith) (places_tail v x xs h))
  where
    go : (t : Bool) → used x ≡ t → ((lo : ℕ) → lo ≤ suc v → rising version lo hi (pending_of xs) ≡ true) → rising version lo hi (cond t (x ∷ pending_of xs) (pending_of xs)) ≡ true
    go true u ih =
        let e : x.version ≡ v = used_version v x (places_head v x xs h) u in
        rising_cons version lo hi x (pending_of xs) (omega arith) (omega arith) (ih (suc x.version) (omega arith))
    go false u ih = ih lo (omega arith)

pub pending_valid : (v : ℕ) (l : List Operation) → places_from v l ≡ true → every valid_operation (pending_of l) ≡ true
unfolding pending_of places_from every
pending_valid v [] h = refl
pending_valid v (x ∷ xs) h = go (used x) refl (pending_valid (suc v) xs (places_tail v x xs h))
  where
    go : (t : Bool) → used x ≡ t → every valid_operation (pending_of xs) ≡ true → every valid_operation (cond t (x ∷ pending_of xs) (pending_of xs)) ≡ true
    go true u ih = rw (used_ok v x (places_head v x xs h) u) ih
    go false u ih = ih

-- ---- a store in an unused place is an insertion

insert_first : (op : Operation) (v : ℕ) (l : List Operation) → places_from v l ≡ true → op.version < v → insert op (pending_of l) ≡ op ∷ pending_of l
unfolding pending_of places_from insert_by
insert_first op v [] h k = refl
insert_first op v (x ∷ xs) h k = go (used x) refl (insert_first op (suc v) xs (places_tail v x xs h) (omega arith))
  where
    go : (t : Bool) → used x ≡ t → insert op (pending_of xs) ≡ op ∷ pending_of xs
        → insert op (cond t (x ∷ pending_of xs) (pending_of xs)) ≡ op ∷ cond t (x ∷ pending_of xs) (pending_of xs)
    go true u ih = let e : x.version ≡ v = used_version v x (places_head v x xs h) u in rw (lt-ltb op.version x.version (omega arith))
    go false u ih = ih

pub hold_inserts : (op : Operation) (v : ℕ) (l : List Operation) (k : ℕ) → places_from v l ≡ true → k < length l → op.version ≡ v + k → used op ≡ true
    → used (get_or l k no_operation) ≡ false → pending_of (set l k op) ≡ insert op (pending_of l)
unfolding pending_of places_from insert_by
hold_inserts op v [] k h b e u n = absurd (omega arith)
hold_inserts op v (x ∷ xs) zero h b e u n = rw (u, n) (sym (insert_first op (suc v) xs (places_tail v x xs h) (omega arith)))
hold_inserts op v (x ∷ xs) (suc k) h b e u n = go (used x) refl (hold_inserts op (suc v) xs k (places_tail v x xs h) (omega arith) (omega arith) u n)
  where
    go : (t : Bool) → used x ≡ t → pending_of (set xs k op) ≡ insert op (pending_of xs)
        → cond t (x ∷ pending_of (set xs k op)) (pending_of (set xs k op)) ≡ insert op (cond t (x ∷ pending_of xs) (pending_of xs))
    go true w ih =
        let q : x.version ≡ v = used_version v x (places_head v x xs h) w in
        rw (le-ltb op.version x.version (omega arith), ih)
    go false w ih = ih

-- the window stays valid
pub hold_places : (op : Operation) (v : ℕ) (l : List Operation) (k : ℕ) → places_from v l ≡ true → k < length l → place_valid (v + k) op ≡ true → places_from v (set l k op) ≡ true
unfolding places_from
hold_places op v [] k h b e = absurd (omega arith)
hold_places op v (x ∷ xs) zero h b e =
    let z : v + 0 ≡ v = omega arith in
    let e' : place_valid v op ≡ true = rw z at e in
    rw e' (places_tail v x xs h)
hold_places op v (x ∷ xs) (suc k) h b e =
    let z : v + suc k ≡ suc v + k = omega arith in
    rw (places_head v x xs h) (hold_places op (suc v) xs k (places_tail v x xs h) (omega arith) (rw z at e))

-- ---- a look is a search

pub find_early : (w v : ℕ) (l : List Operation) → places_from v l ≡ true → w < v → find w (pending_of l) ≡ none
unfolding pending_of places_from find
find_early w v [] h k = refl
find_early w v (x ∷ xs) h k = go (used x) refl (find_early w (suc v) xs (places_tail v x xs h) (omega arith))
  where
    go : (t : Bool) → used x ≡ t → find w (pending_of xs) ≡ none → find w (cond t (x ∷ pending_of xs) (pending_of xs)) ≡ none
    go true u ih = let e : x.version ≡ v = used_version v x (places_head v x xs h) u in rw (ne_eqb x.version w (omega arith)) ih
    go false u ih = ih

-- what a place holds
abbrev pub shown : Operation → Option Operation
shown o = cond (used o) (some o) none

pub find_place : (w v : ℕ) (l : List Operation) (k : ℕ) → places_from v l ≡ true → k < length l → w ≡ v + k → find w (pending_of l) ≡ shown (get_or l k no_operation)
unfolding pending_of places_from find
find_place w v [] k h b e = absurd (omega arith)
find_place w v (x ∷ xs) zero h b e = go (used x) refl
  where
    go : (t : Bool) → used x ≡ t → find w (cond t (x ∷ pending_of xs) (pending_of xs)) ≡ cond t (some x) none
    go true u = let q : x.version ≡ v = used_version v x (places_head v x xs h) u in rw (eq-eqb x.version w (omega arith))
    go false u = find_early w (suc v) xs (places_tail v x xs h) (omega arith)
find_place w v (x ∷ xs) (suc k) h b e = go (used x) refl (find_place w (suc v) xs k (places_tail v x xs h) (omega arith) (omega arith))
  where
    go : (t : Bool) → used x ≡ t → find w (pending_of xs) ≡ shown (get_or xs k no_operation) → find w (cond t (x ∷ pending_of xs) (pending_of xs)) ≡ shown (get_or xs k no_operation)
    go true u ih = let q : x.version ≡ v = used_version v x (places_head v x xs h) u in rw (ne_eqb x.version w (omega arith)) ih
    go false u ih = ih

-- ---- the first of the list

-- the first has version v
unfoldable pub head_is : ℕ → List Operation → Bool
head_is v [] = false
head_is v (x ∷ xs) = eqb x.version v

head_later : (w v : ℕ) (l : List Operation) → places_from v l ≡ true → w < v → head_is w (pending_of l) ≡ false
unfolding pending_of places_from head_is
head_later w v [] h k = refl
head_later w v (x ∷ xs) h k = go (used x) refl (head_later w (suc v) xs (places_tail v x xs h) (omega arith))
  where
    go : (t : Bool) → used x ≡ t → head_is w (pending_of xs) ≡ false → head_is w (cond t (x ∷ pending_of xs) (pending_of xs)) ≡ false
    go true u ih = let e : x.version ≡ v = used_version v x (places_head v x xs h) u in ne_eqb x.version w (omega arith)
    go false u ih = ih

-- ---- the window and its list determine each other

window_of_later : (v n : ℕ) (l : List Operation) → places_from (suc v) l ≡ true → window_of v (suc n) (pending_of l) ≡ no_operation ∷ window_of (suc v) n (pending_of l)
unfolding pending_of places_from window_of head_is
window_of_later v n l h = go (pending_of l) (head_later v (suc v) l h (omega arith))
  where
    go : (ws : List Operation) → head_is v ws ≡ false → window_of v (suc n) ws ≡ no_operation ∷ window_of (suc v) n ws
    go [] e = refl
    go (o ∷ os) e = rw e

pub window_pending : (v : ℕ) (l : List Operation) → places_from v l ≡ true → window_of v (length l) (pending_of l) ≡ l
unfolding pending_of places_from window_of
window_pending v [] h = refl
window_pending v (x ∷ xs) h = go (used x) refl (window_pending (suc v) xs (places_tail v x xs h))
  where
    go : (t : Bool) → used x ≡ t → window_of (suc v) (length xs) (pending_of xs) ≡ xs → window_of v (suc (length xs)) (cond t (x ∷ pending_of xs) (pending_of xs)) ≡ x ∷ xs
    go true u ih = rw (eq-eqb x.version v (used_version v x (places_head v x xs h) u), ih)
    go false u ih =
        let e : x ≡ no_operation = unused_is v x (places_head v x xs h) u in
        window_of_later v (length xs) xs (places_tail v x xs h) ∙ rw (ih, e)

placed : (v : ℕ) (o : Operation) → used o ≡ true → eqb o.version v ≡ true → valid_operation o ≡ true → place_valid v o ≡ true
unfolding place_valid
placed v o u e a = rw (u, e, a)

pub record IsWindow (v n : ℕ) (ws : List Operation) : Type 0 where
  pub pends : pending_of (window_of v n ws) ≡ ws
  pub valid : places_from v (window_of v n ws) ≡ true

pub pending_window : (v n hi : ℕ) (ws : List Operation) → hi < v + n → rising version v hi ws ≡ true → every valid_operation ws ≡ true → IsWindow v n ws
unfolding every rising pending_of window_of places_from
pending_window v zero hi [] b h k = record { pends = refl; valid = refl }
pending_window v zero hi (o ∷ os) b h k = absurd (omega (arith, rising_lo version v hi o os h, rising_hi version v hi o os h))
pending_window v (suc n) hi [] b h k = let i = pending_window (suc v) n hi [] (omega arith) refl refl in record { pends = rw none_unused i.pends; valid = rw (none_ok v) i.valid }
pending_window v (suc n) hi (o ∷ os) b h k =
    go (eqb o.version v) refl (λ w. pending_window (suc v) n hi w (omega arith))
  where
    a : valid_operation o ≡ true
    a = every_head valid_operation o os k

    later : suc v ≤ o.version → rising version (suc v) hi (o ∷ os) ≡ true
    later b = rising_cons version (suc v) hi o os b (rising_hi version v hi o os h) (rising_tail version v hi o os h)

    go : (t : Bool) → eqb o.version v ≡ t → ((w : List Operation) → rising version (suc v) hi w ≡ true → every valid_operation w ≡ true → IsWindow (suc v) n w) → IsWindow v (suc n) (o ∷ os)
    go true e ih =
        let q : o.version ≡ v = eqb-true o.version v e in
        let i = ih os (subst (λ (m : ℕ). rising version (suc m) hi os ≡ true) q (rising_tail version v hi o os h)) (every_tail valid_operation o os k) in
        record { pends = rw (e, ok_used o a, i.pends); valid = rw (e, placed v o (ok_used o a) e a) i.valid }
    go false e ih =
        let q : ¬ (o.version ≡ v) = eqb-false o.version v e in
        let i = ih (o ∷ os) (later (omega (arith, rising_lo version v hi o os h))) k in
        record { pends = rw (e, none_unused) i.pends; valid = rw (e, none_ok v) i.valid }

-- ---- several versions pass at once

places_pad : (v n : ℕ) (l : List Operation) → places_from v l ≡ true → places_from v (l ++ replicate n no_operation) ≡ true
unfolding places_from
places_pad v zero [] h = refl
places_pad v (suc n) [] h = rw (none_ok v) (places_pad (suc v) n [] refl)
places_pad v n (x ∷ xs) h = rw (places_head v x xs h) (places_pad (suc v) n xs (places_tail v x xs h))

places_drop : (v p : ℕ) (l : List Operation) → places_from v l ≡ true → places_from (v + p) (drop p l) ≡ true
unfolding places_from
places_drop v zero l h = let e : v + 0 ≡ v = omega arith in rw e h
places_drop v (suc p) [] h = refl
places_drop v (suc p) (x ∷ xs) h = let e : v + suc p ≡ suc v + p = omega arith in rw e (places_drop (suc v) p xs (places_tail v x xs h))

pending_pad : (n : ℕ) (l : List Operation) → pending_of (l ++ replicate n no_operation) ≡ pending_of l
unfolding pending_of
pending_pad zero [] = refl
pending_pad (suc n) [] = rw none_unused (pending_pad n [])
pending_pad n (x ∷ xs) = rw (pending_pad n xs)

pub moved_places : (v p : ℕ) (l : List Operation) → places_from v l ≡ true → places_from (v + p) (moved_by p l) ≡ true
unfolding moved_by places_from
moved_places v p l h = places_pad (v + p) (window_size - length (drop p l)) (drop p l) (places_drop v p l h)

pub moved_pending : (p : ℕ) (l : List Operation) → pending_of (moved_by p l) ≡ pending_of (drop p l)
unfolding moved_by pending_of
moved_pending p l = pending_pad (window_size - length (drop p l)) (drop p l)

-- the first p places are used: they are the first p of the list
pub run_pending : (p : ℕ) (l : List Operation) → every used (take p l) ≡ true → pending_of l ≡ take p l ++ pending_of (drop p l)
unfolding pending_of every
run_pending zero l h = refl
run_pending (suc p) [] h = refl
run_pending (suc p) (x ∷ xs) h = rw (every_head used x (take p xs) h, ← run_pending p xs (every_tail used x (take p xs) h))

-- ---- the run at the front

pub run_used : (l : List Operation) → every used (take (run_of l) l) ≡ true
unfolding run_of every
run_used [] = refl
run_used (x ∷ xs) = go (used x) refl (run_used xs)
  where
    go : (t : Bool) → used x ≡ t → every used (take (run_of xs) xs) ≡ true → every used (take (cond t (suc (run_of xs)) 0) (x ∷ xs)) ≡ true
    go true u ih = rw u ih
    go false u ih = refl

-- after the run the next version is missing
pub run_gap : (v : ℕ) (l : List Operation) → places_from v l ≡ true → head_is (v + run_of l) (pending_of (drop (run_of l) l)) ≡ false
unfolding pending_of places_from run_of head_is
run_gap v [] h = refl
run_gap v (x ∷ xs) h = go (used x) refl (run_gap (suc v) xs (places_tail v x xs h))
  where
    go : (t : Bool) → used x ≡ t → head_is (suc v + run_of xs) (pending_of (drop (run_of xs) xs)) ≡ false
        → head_is (v + cond t (suc (run_of xs)) 0) (pending_of (drop (cond t (suc (run_of xs)) 0) (x ∷ xs))) ≡ false
    go true u ih = let e : v + suc (run_of xs) ≡ suc v + run_of xs = omega arith in rw e ih
    go false u ih = let e : v + 0 ≡ v = omega arith in rw (e, u) (head_later v (suc v) xs (places_tail v x xs h) (omega arith))

-- ---- the tests of the list and of the places are the test of the window

rearranged : (a b c d : Bool) → (a && b) && (c && d) ≡ (b && c) && (a && d)
rearranged true true c d = refl
rearranged true false c d = refl
rearranged false true true d = refl
rearranged false true false d = refl
rearranged false false c d = refl

exchanged : (a b c : Bool) → a && (b && c) ≡ b && (a && c)
exchanged true true c = refl
exchanged true false c = refl
exchanged false true c = refl
exchanged false false c = refl

pub places_split : (v : ℕ) (l : List Operation) → places_from v l ≡ every valid_operation (pending_of l) && in_place v l
unfolding places_from pending_of in_place every place_valid
places_split v [] = refl
places_split v (x ∷ xs) = rw (places_split (suc v) xs) (go (used x))
  where
    go : (t : Bool) → cond t (eqb x.version v && valid_operation x) (rest_zero x) && (every valid_operation (pending_of xs) && in_place (suc v) xs)
        ≡ every valid_operation (cond t (x ∷ pending_of xs) (pending_of xs)) && (cond t (eqb x.version v) (rest_zero x) && in_place (suc v) xs)
    go true = rearranged (eqb x.version v) (valid_operation x) (every valid_operation (pending_of xs)) (in_place (suc v) xs)
    go false = exchanged (rest_zero x) (every valid_operation (pending_of xs)) (in_place (suc v) xs)
