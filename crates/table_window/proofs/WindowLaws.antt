-- Laws of the window's rows: one turn of each loop, the shift, and the operations that the rows hold.
use mathlib.Core.Path.{◌≡◌, refl, ap, sym, ◌∙◌}
use Prim.Native.Nat.{ℕ, zero, suc, ◌+◌, ◌-◌, ◌*◌, ◌≤◌, ◌<◌}
use native.Mathlib.Nat.{zero-add}
use native.Mathlib.Numerals.{add-one}
use native.Mathlib.Omega.{arith}
use mathlib.Core.Bool.{Bool, not, true, false, cond, ◌&&◌}
use mathlib.Core.List.{List, [], ◌∷◌, ◌++◌, map, append_assoc}
use lib.ListN.{length, take, drop, get_or, set, replicate, length-drop, length-map, take-append-drop, drop_of_length-le, length-replicate, replicate-append-replicate}
use lib.Seq.{take-take, take_at, drop_at, take-add, drop-drop, length-take-le}
use borrow.Author.Tests.{eqb-true}
use Rattle.std.specs.List.{position_or_len}
use Rattle.lists.specs.Lists.{every, eqbs, flat_map}
use Rattle.lists.proofs.ListLaws.{and_l, and_r, every_take, every_drop, and_i, every_is, eqbs_eq, eqbs_refl}
use Rattle.names.specs.Words.{name_words}
use Rattle.table_rules.specs.Operations.{Operation, no_operation, is_act, act_numbers, act_name, act_said}
use Rattle.rows.specs.Rows.{places, closed, is_zero, word_is}
use Rattle.rows.proofs.RowLaws.{place_of, length_places, drop_zeros}
use Rattle.table_words.specs.Layout.{operation_width, window_size, window_room, window_at}
use Rattle.table_words.specs.Words.{of_row, row_of, window_in}
use Rattle.table_words.proofs.OperationRows.{row_wide}
use Rattle.table_words.proofs.CutRows.{operation_cut}
use Rattle.table_window.specs.Window.{used}
use Rattle.table_window.specs.Inner.{place_valid, places_from, row_valid, rows_valid, Tidy, shifted, moved_by, run_of}
use Rattle.table_window.proofs.PendingLaws.{none_ok, unused_is, places_head, places_tail}
use Rattle.lists.proofs.FlatLaws.{flat_append, length_flat}

-- ---- a row

zero_is : (x : ℕ) → is_zero x ≡ true → x ≡ 0
zero_is x h = eqb-true x 0 h

none_row_of : replicate operation_width 0 ≡ row_of no_operation
unfolding row_of act_numbers act_name name_words no_operation
none_row_of = refl

none_row : (v : ℕ) (r : List ℕ) → take operation_width r ≡ replicate operation_width 0 → of_row r ≡ no_operation → row_valid v r ≡ true
unfolding row_valid
none_row v r e o =
    let k : take operation_width r ≡ row_of no_operation = e ∙ none_row_of in
    and_i (eqbs (take operation_width r) (row_of (of_row r))) (place_valid v (of_row r))
    (rw (o, k) (eqbs_refl (row_of no_operation))) (rw o (none_ok v))

of_zeros : (t : List ℕ) → of_row (replicate operation_width 0 ++ t) ≡ no_operation
unfolding of_row act_said no_operation
of_zeros t = refl

-- a row of zeros is valid
pub zero_row : (v : ℕ) (r : List ℕ) → operation_width ≤ length r → every is_zero (take operation_width r) ≡ true → row_valid v r ≡ true
zero_row v r h z =
    let long : length (take operation_width r) ≡ operation_width = length-take-le operation_width r h in
    let e : take operation_width r ≡ replicate operation_width 0 =
    every_is 0 is_zero zero_is (take operation_width r) z ∙ ap (λ (n : ℕ). replicate n 0) long in
    none_row v r e
    (ap of_row (sym (take-append-drop operation_width r) ∙ ap (λ (y : List ℕ). y ++ drop operation_width r) e) ∙ of_zeros (drop operation_width r))

-- and so are rows of them
pub zero_rows : (v n : ℕ) (s : List ℕ) → operation_width * n ≤ length s → every is_zero s ≡ true → rows_valid v n s ≡ true
unfolding rows_valid
zero_rows v zero s h z = refl
zero_rows v (suc n) s h z =
    and_i (row_valid v s) (rows_valid (suc v) n (drop operation_width s))
    (zero_row v s (omega arith) (every_take is_zero operation_width s z))
    (zero_rows (suc v) n (drop operation_width s) (omega (arith, length-drop operation_width s)) (every_drop is_zero operation_width s z))

-- ---- the loops, and the shift

pub run_first : (xs : List (List ℕ)) → position_or_len (λ y. not (used (of_row y))) xs ≡ run_of (map of_row xs)
unfolding run_of
run_first [] = refl
run_first (x ∷ xs) = go (used (of_row x)) (run_first xs)
  where
    go : (b : Bool) → position_or_len (λ y. not (used (of_row y))) xs ≡ run_of (map of_row xs)
        → cond (not (not b)) (1 + position_or_len (λ y. not (used (of_row y))) xs) 0 ≡ cond b (suc (run_of (map of_row xs))) 0
    go true e = omega (arith, e)
    go false e = refl

-- rows one after another, the first for version v
unfoldable pub all_valid : ℕ → List (List ℕ) → Bool
all_valid v [] = true
all_valid v (x ∷ xs) = row_valid v x && all_valid (v + 1) xs

pub valid_rows : (v n : ℕ) (s : List ℕ) → all_valid v (places operation_width n s) ≡ rows_valid v n s
unfolding all_valid rows_valid places
valid_rows v zero s = refl
valid_rows v (suc n) s = rw (valid_rows (v + 1) n (drop operation_width s), add-one v)

pub row_valid_cut : (v : ℕ) (r : List ℕ) → row_valid v (take operation_width r) ≡ row_valid v r
unfolding row_valid
row_valid_cut v r = rw (operation_cut r, take-take operation_width operation_width r (omega arith))

pub shift_all : (by : ℕ) (s : List ℕ) → length s ≡ window_room → window_size < by → replicate (length s) 0 ≡ shifted by s
unfolding shifted
shift_all by s e h =
    let n : drop (operation_width * by) s ≡ [] = drop_of_length-le s {i = operation_width * by} (omega arith) in
    let z : length s - 0 ≡ length s = omega arith in
    rw (n, z)

pub shift_some : (by : ℕ) (s : List ℕ) → length s ≡ window_room → by ≤ window_size → closed s 0 (operation_width * by) ≡ shifted by s
unfolding shifted
shift_some by s e h =
    let z : operation_width * by ≡ length s - length (drop (operation_width * by) s) = omega (arith, length-drop (operation_width * by) s) in
    ap (λ (n : ℕ). drop n s ++ replicate (operation_width * by) 0) (zero-add (operation_width * by)) ∙ ap (λ (n : ℕ). drop (operation_width * by) s ++ replicate n 0) z

pub shift_none : (by : ℕ) (s : List ℕ) → s ≡ replicate window_room 0 → by ≤ window_size → s ≡ shifted by s
shift_none by s e h =
    let k : ℕ = operation_width * by in
    let long : length s ≡ window_room = ap length e ∙ length-replicate {A = ℕ} window_room 0 in
    let m : window_room - k + k ≡ window_room = omega arith in
    e ∙ sym (ap (λ (n : ℕ). replicate n 0) m) ∙ sym (replicate-append-replicate (window_room - k) k 0)
    ∙ ap (λ (y : List ℕ). y ++ replicate k 0) (sym (drop_zeros k window_room (omega arith)) ∙ ap (drop k) (sym e) ∙ ap (λ (n : ℕ). drop n s) (sym (zero-add k)))
    ∙ shift_some by s long h

-- ---- the rows of operations

flat_drop : (by : ℕ) (os : List Operation) → drop (operation_width * by) (flat_map row_of os) ≡ flat_map row_of (drop by os)
flat_drop zero os = refl
flat_drop (suc by) [] = drop_of_length-le [] {i = operation_width * suc by} (omega arith)
flat_drop (suc by) (o ∷ os) =
    let e : operation_width * suc by ≡ operation_width + operation_width * by = omega arith in
    ap (λ (q : ℕ). drop q (row_of o ++ flat_map row_of os)) e
    ∙ sym (drop-drop (operation_width * by) operation_width (row_of o ++ flat_map row_of os))
    ∙ ap (drop (operation_width * by)) (drop_at (row_of o) (flat_map row_of os) operation_width (row_wide o))
    ∙ flat_drop by os

pub flat_none : (j : ℕ) → flat_map row_of (replicate j no_operation) ≡ replicate (operation_width * j) 0
flat_none zero = refl
flat_none (suc j) =
    let e : operation_width * suc j ≡ operation_width + operation_width * j = omega arith in
    ap (λ (y : List ℕ). row_of no_operation ++ y) (flat_none j) ∙ ap (λ (y : List ℕ). y ++ replicate (operation_width * j) 0) (sym none_row_of)
    ∙ replicate-append-replicate operation_width (operation_width * j) 0 ∙ ap (λ (q : ℕ). replicate q 0) (sym e)

-- where no row has an act no place holds anything
unused_row : (r : List ℕ) → get_or r 0 0 ≡ 0 → used (of_row r) ≡ false
unfolding used is_act of_row act_said
unused_row r e = rw e

no_acts : (v n : ℕ) (s : List ℕ) → every (word_is 0 0) (places operation_width n s) ≡ true → places_from v (map of_row (places operation_width n s)) ≡ true
    → map of_row (places operation_width n s) ≡ replicate n no_operation
unfolding every places
no_acts v zero s z h = refl
no_acts v (suc n) s z h =
    let t : List ℕ = drop operation_width s in
    let rest : List (List ℕ) = places operation_width n t in
    let e : get_or s 0 0 ≡ 0 = eqb-true (get_or s 0 0) 0 (and_l (word_is 0 0 s) (every (word_is 0 0) rest) z) in
    ap (λ (o : Operation). o ∷ map of_row rest) (unused_is v (of_row s) (places_head v (of_row s) (map of_row rest) h) (unused_row s e))
    ∙ ap (λ (os : List Operation). no_operation ∷ os)
    (no_acts (suc v) n t (and_r (word_is 0 0 s) (every (word_is 0 0) rest) z) (places_tail v (of_row s) (map of_row rest) h))

pub tidy : (v : ℕ) (s : List ℕ) → s ≡ flat_map row_of (window_in s) → places_from v (window_in s) ≡ true → Tidy s
tidy v s e h z = e ∙ ap (flat_map row_of) (no_acts v window_size s z h) ∙ flat_none window_size

pub shift_window : (by : ℕ) (os : List Operation) → length os ≡ window_size → shifted by (flat_map row_of os) ≡ flat_map row_of (moved_by by os)
unfolding shifted moved_by
shift_window by os long =
    let rest : List Operation = drop by os in
    let lr : length rest ≡ window_size - by = length-drop by os ∙ omega arith in
    let lw : length (flat_map row_of os) ≡ operation_width * length os = length_flat operation_width row_of row_wide os in
    let ld : length (flat_map row_of rest) ≡ operation_width * length rest = length_flat operation_width row_of row_wide rest in
    let z : length (flat_map row_of os) - length (flat_map row_of rest) ≡ operation_width * (window_size - length rest) = omega arith in
    ap (λ (y : List ℕ). y ++ replicate (length (flat_map row_of os) - length y) 0) (flat_drop by os)
    ∙ ap (λ (q : ℕ). flat_map row_of rest ++ replicate q 0) z
    ∙ ap (λ (y : List ℕ). flat_map row_of rest ++ y) (sym (flat_none (window_size - length rest)))
    ∙ sym (flat_append row_of rest (replicate (window_size - length rest) no_operation))

pub hold_window : (k : ℕ) (op : Operation) (os : List Operation) → k < length os
    → take (operation_width * k) (flat_map row_of os) ++ (row_of op ++ drop (operation_width * k + operation_width) (flat_map row_of os)) ≡ flat_map row_of (set os k op)
hold_window k op [] h = let z : ⊥ = omega arith in elim z [ ]
hold_window zero op (o ∷ os) h = ap (λ (y : List ℕ). row_of op ++ y) (drop_at (row_of o) (flat_map row_of os) operation_width (row_wide o))
hold_window (suc k) op (o ∷ os) h =
    let x : List ℕ = row_of o ++ flat_map row_of os in
    let e : operation_width * suc k ≡ operation_width + operation_width * k = omega arith in
    let e2 : operation_width * suc k + operation_width ≡ operation_width + (operation_width * k + operation_width) = omega arith in
    let back : drop operation_width x ≡ flat_map row_of os = drop_at (row_of o) (flat_map row_of os) operation_width (row_wide o) in
    ap (λ (q : ℕ). take q x ++ (row_of op ++ drop (operation_width * suc k + operation_width) x)) e
    ∙ ap (λ (q : ℕ). take (operation_width + operation_width * k) x ++ (row_of op ++ drop q x)) e2
    ∙ ap (λ (y : List ℕ). y ++ (row_of op ++ drop (operation_width + (operation_width * k + operation_width)) x)) (take-add operation_width (operation_width * k) x)
    ∙ ap (λ (y : List ℕ). y ++ take (operation_width * k) (drop operation_width x) ++ (row_of op ++ drop (operation_width + (operation_width * k + operation_width)) x)) (take_at (row_of o) (flat_map row_of os) operation_width (row_wide o))
    ∙ ap (λ (y : List ℕ). row_of o ++ take (operation_width * k) (drop operation_width x) ++ (row_of op ++ y)) (sym (drop-drop (operation_width * k + operation_width) operation_width x))
    ∙ ap (λ (y : List ℕ). row_of o ++ take (operation_width * k) y ++ (row_of op ++ drop (operation_width * k + operation_width) y)) back
    ∙ append_assoc (row_of o) (take (operation_width * k) (flat_map row_of os)) (row_of op ++ drop (operation_width * k + operation_width) (flat_map row_of os))
    ∙ ap (λ (y : List ℕ). row_of o ++ y) (hold_window k op os (omega arith))

-- ---- the operations that the rows hold

pub place_op : (k : ℕ) (l : List ℕ) → k < window_size → get_or (window_in (drop window_at l)) k no_operation ≡ of_row (drop (window_at + operation_width * k) l)
place_op k l h = place_of of_row no_operation operation_width window_size k (drop window_at l) h ∙ ap of_row (drop-drop (operation_width * k) window_at l)

pub window_long : (s : List ℕ) → length (window_in s) ≡ window_size
window_long s = length-map (places operation_width window_size s) of_row ∙ length_places operation_width window_size s

row_words : (v : ℕ) (r : List ℕ) → row_valid v r ≡ true → take operation_width r ≡ row_of (of_row r)
unfolding row_valid
row_words v r h = eqbs_eq (take operation_width r) (row_of (of_row r)) (and_l (eqbs (take operation_width r) (row_of (of_row r))) (place_valid v (of_row r)) h)

row_placed : (v : ℕ) (r : List ℕ) → row_valid v r ≡ true → place_valid v (of_row r) ≡ true
unfolding row_valid
row_placed v r h = and_r (eqbs (take operation_width r) (row_of (of_row r))) (place_valid v (of_row r)) h

pub window_places : (v n : ℕ) (s : List ℕ) → operation_width * n ≤ length s → rows_valid v n s ≡ true → places_from v (map of_row (places operation_width n s)) ≡ true
unfolding rows_valid places_from places
window_places v zero s h g = refl
window_places v (suc n) s h g =
    let ok : row_valid v s ≡ true = and_l (row_valid v s) (rows_valid (suc v) n (drop operation_width s)) g in
    and_i (place_valid v (of_row s)) (places_from (suc v) (map of_row (places operation_width n (drop operation_width s)))) (row_placed v s ok)
    (window_places (suc v) n (drop operation_width s) (omega (arith, length-drop operation_width s)) (and_r (row_valid v s) (rows_valid (suc v) n (drop operation_width s)) g))

pub window_words : (v n : ℕ) (s : List ℕ) → operation_width * n ≤ length s → rows_valid v n s ≡ true → take (operation_width * n) s ≡ flat_map row_of (map of_row (places operation_width n s))
unfolding rows_valid places
window_words v zero s h g = refl
window_words v (suc n) s h g =
    let ok : row_valid v s ≡ true = and_l (row_valid v s) (rows_valid (suc v) n (drop operation_width s)) g in
    let e : operation_width * suc n ≡ operation_width + operation_width * n = omega arith in
    ap (λ (q : ℕ). take q s) e ∙ take-add operation_width (operation_width * n) s
    ∙ ap (λ (y : List ℕ). y ++ take (operation_width * n) (drop operation_width s)) (row_words v s ok)
    ∙ ap (λ (y : List ℕ). row_of (of_row s) ++ y) (window_words (suc v) n (drop operation_width s) (omega (arith, length-drop operation_width s)) (and_r (row_valid v s) (rows_valid (suc v) n (drop operation_width s)) g))

-- the other way: the rows of operations in their places are valid
pub places_rows : (v n : ℕ) (s : List ℕ) → take (operation_width * n) s ≡ flat_map row_of (map of_row (places operation_width n s)) → operation_width * n ≤ length s
    → places_from v (map of_row (places operation_width n s)) ≡ true → rows_valid v n s ≡ true
unfolding rows_valid places_from places row_valid
places_rows v zero s e h g = refl
places_rows v (suc n) s e h g =
    let o : Operation = of_row s in
    let os : List Operation = map of_row (places operation_width n (drop operation_width s)) in
    let d : operation_width * suc n ≡ operation_width + operation_width * n = omega arith in
    let both : take operation_width s ++ take (operation_width * n) (drop operation_width s) ≡ row_of o ++ flat_map row_of os =
    sym (take-add operation_width (operation_width * n) s) ∙ ap (λ (q : ℕ). take q s) (sym d) ∙ e in
    let lt : length (take operation_width s) ≡ operation_width = length-take-le operation_width s (omega arith) in
    let front : take operation_width s ≡ row_of o =
    sym (take_at (take operation_width s) (take (operation_width * n) (drop operation_width s)) operation_width lt)
    ∙ ap (take operation_width) both ∙ take_at (row_of o) (flat_map row_of os) operation_width (row_wide o) in
    let back : take (operation_width * n) (drop operation_width s) ≡ flat_map row_of os =
    sym (drop_at (take operation_width s) (take (operation_width * n) (drop operation_width s)) operation_width lt)
    ∙ ap (drop operation_width) both ∙ drop_at (row_of o) (flat_map row_of os) operation_width (row_wide o) in
    and_i (eqbs (take operation_width s) (row_of o) && place_valid v o) (rows_valid (suc v) n (drop operation_width s))
    (and_i (eqbs (take operation_width s) (row_of o)) (place_valid v o) (rw front (eqbs_refl (row_of o))) (and_l (place_valid v o) (places_from (suc v) os) g))
    (places_rows (suc v) n (drop operation_width s) back (omega (arith, length-drop operation_width s)) (and_r (place_valid v o) (places_from (suc v) os) g))
