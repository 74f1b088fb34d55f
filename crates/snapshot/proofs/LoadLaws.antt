-- Laws of reading a snapshot into words: what is loaded, and one law for each way out.
use mathlib.Core.Path.{◌≡◌, refl, ap, sym, ◌∙◌}
use Prim.Native.Nat.{ℕ, zero, suc, ◌+◌, ◌≤◌}
use native.Mathlib.Omega.{arith}
use mathlib.Core.Bool.{true, cond, not}
use mathlib.Core.List.{List, [], ◌∷◌, ◌++◌, append-nil}
use lib.ListN.{length, take, drop, set, replicate, length-append, length-drop, length-replicate}
use lib.Seq.{length-take-le}
use lib.Dec.{eqb}
use borrow.Author.Tests.{eq-eqb, ne_eqb, not-false}
use Rattle.table_rules.specs.Operations.{Operation, no_operation}
use Rattle.table_rules.specs.NameTable.{NameTable}
use Rattle.table_rules.specs.Valid.{ids_distinct, table_no}
use Rattle.rows.specs.Rows.{packed}
use Rattle.rows.proofs.MoveLaws.{lent}
use Rattle.rows.proofs.RowLaws.{drop_zeros, length_packed}
use Rattle.table_words.specs.Layout.{window_size, entry_room, membership_room, entries_at, memberships_at, window_at, word_count}
use Rattle.table_words.specs.Words.{entry_words, membership_words, join, entry_part, membership_part, table_of, fresh_words, row_of}
use Rattle.table_words.specs.Inner.{with_table, Packed}
use Rattle.table_words.proofs.PartLaws.{Fits, lend_entries, lend_memberships, join_memberships, table_with, with_packed, entries_words, memberships_words}
use Rattle.table_window.specs.Window.{window_of}
use Rattle.table_window.proofs.WindowLaws.{flat_none}
use Rattle.replica.specs.Replica.{words_of, pack, at_start}
use Rattle.snapshot_bytes.specs.Items.{after}
use Rattle.snapshot_bytes.specs.Inner.{onto}
use Rattle.snapshot_bytes.specs.Snapshot.{entry_count_at, head_size, byte_of, next_entry, sizes_valid, sizes_no, stated_table, entries_end, head_no, snapshot_no}
use Rattle.snapshot_bytes.proofs.SnapshotProofs.{entries_few, memberships_few, parts_end}
use Rattle.snapshot_bytes.proofs.StatedLaws.{stated_names}
use Rattle.snapshot_checks.proofs.BytesLaws.{bytes_no, bytes_refused}
use Rattle.refusal.proofs.CheckLaws.{passed}
use Rattle.byte_words.specs.Bytes.{AllBytes}
use Rattle.snapshot.specs.Saved.{Load, loaded_of, read_of}
use Rattle.lists.specs.Lists.{flat_map}

-- ---- the counts of a snapshot that passes 21 to 23

pub stated_fits : (s : List ℕ) → head_no s ≡ 0 → AllBytes s → sizes_no s ≡ 0 → Fits (stated_table s)
stated_fits s z b y = record { entries_fit = entries_few s z; memberships_fit = memberships_few s z; names_fit = stated_names s b y }

pub stated_sizes : (s : List ℕ) → sizes_no s ≡ 0 → sizes_valid s head_size (byte_of s entry_count_at) ≡ true
unfolding sizes_no
stated_sizes s y =
    let n : ℕ = byte_of s entry_count_at in
    not-false (sizes_valid s head_size n) (passed (not (sizes_valid s head_size n)) 24 (omega arith) y)

pub stated_end : (s : List ℕ) → head_no s ≡ 0 → after (next_entry s) head_size (byte_of s entry_count_at) ≤ length s
unfolding entries_end
stated_end s z = omega (arith, parts_end s z)

-- ---- the words of a name table with nothing pending

window_none : (v n : ℕ) → window_of v n [] ≡ replicate n no_operation
unfolding window_of
window_none v zero = refl
window_none v (suc n) = ap (λ (os : List Operation). no_operation ∷ os) (window_none (suc v) n)

pub loaded_words : (t : NameTable) → pack (at_start t) ≡ with_table t fresh_words
unfolding pack words_of with_table fresh_words
loaded_words t =
    ap (λ (y : List ℕ). join t.version t.host (length t.entries) (length t.memberships) (packed entry_words entry_room t.entries) (packed membership_words membership_room t.memberships) y)
    (ap (flat_map row_of) (window_none (t.version + 2) window_size) ∙ flat_none window_size ∙ sym (drop_zeros window_at word_count (omega arith)))

pub fresh_long : length fresh_words ≡ word_count
unfolding fresh_words
fresh_long = length-replicate {A = ℕ} word_count 0

module _ (s l : List ℕ) (z : head_no s ≡ 0) (b : AllBytes s) (y : sizes_no s ≡ 0) (e : l ≡ pack (at_start (stated_table s))) where
  same_words : l ≡ with_table (stated_table s) fresh_words
  same_words = e ∙ loaded_words (stated_table s)

  pub loaded_no : table_no (table_of l) ≡ table_no (stated_table s)
  loaded_no = ap (λ (x : List ℕ). table_no (table_of x)) same_words ∙ ap table_no (table_with (stated_table s) fresh_words (stated_fits s z b y))

  pub loaded_ids : ids_distinct (stated_table s).entries ≡ true → ids_distinct (table_of l).entries ≡ true
  loaded_ids d = ap (λ (t : NameTable). ids_distinct t.entries) (ap table_of same_words ∙ table_with (stated_table s) fresh_words (stated_fits s z b y)) ∙ d

  pub loaded_packed : Packed l
  loaded_packed = rw same_words (with_packed (stated_table s) fresh_words (stated_fits s z b y) fresh_long)

-- ---- loading

onto_zeros : {A : Type 0} (f : A → List ℕ) (n : ℕ) (xs : List A) → length (flat_map f xs) ≤ n → onto (replicate n 0) (flat_map f xs) ≡ packed f n xs
onto_zeros f n xs h = ap (λ (y : List ℕ). flat_map f xs ++ y) (drop_zeros (length (flat_map f xs)) n h)

fresh_parts : fresh_words ≡ join 0 0 0 0 (replicate entry_room 0) (replicate membership_room 0) (drop window_at fresh_words)
unfolding fresh_words
fresh_parts = refl

-- entries and memberships stored in the rows of fresh words, then the four words in front
pub load_into : (l z y : List ℕ) (v h n m : ℕ) (t : NameTable) → l ≡ fresh_words → Fits t
    → v ≡ t.version → h ≡ t.host → n ≡ length t.entries → m ≡ length t.memberships
    → z ≡ onto (entry_part l) (flat_map entry_words t.entries)
    → y ≡ onto (membership_part (lent entries_at entry_room l z)) (flat_map membership_words t.memberships)
    → set (set (set (set (lent memberships_at membership_room (lent entries_at entry_room l z) y) 0 v) 1 h) 2 n) 3 m ≡ pack (at_start t)
unfolding with_table
load_into l z y v h n m t e f ev eh en em ez ey =
    let W : List ℕ = drop window_at fresh_words in
    let j : l ≡ join 0 0 0 0 (replicate entry_room 0) (replicate membership_room 0) W = e ∙ fresh_parts in
    let fe : length (flat_map entry_words t.entries) ≤ entry_room = omega (arith, entries_words t.entries, f.entries_fit) in
    let fm : length (flat_map membership_words t.memberships) ≤ membership_room = omega (arith, memberships_words t.memberships, f.memberships_fit) in
    let pz : z ≡ packed entry_words entry_room t.entries =
    ez ∙ ap (λ (x : List ℕ). onto (entry_part x) (flat_map entry_words t.entries)) j ∙ onto_zeros entry_words entry_room t.entries fe in
    let lz : length z ≡ entry_room = ap length pz ∙ length_packed entry_words entry_room t.entries fe in
    let l1 : lent entries_at entry_room l z ≡ join 0 0 0 0 z (replicate membership_room 0) W =
    ap (λ (x : List ℕ). lent entries_at entry_room x z) j
    ∙ lend_entries 0 0 0 0 (replicate entry_room 0) (replicate membership_room 0) W (length-replicate {A = ℕ} entry_room 0) z in
    let y0 : membership_part (lent entries_at entry_room l z) ≡ replicate membership_room 0 =
    ap membership_part l1 ∙ join_memberships 0 0 0 0 z (replicate membership_room 0) W lz (length-replicate {A = ℕ} membership_room 0) in
    let py : y ≡ packed membership_words membership_room t.memberships =
    ey ∙ ap (λ (x : List ℕ). onto x (flat_map membership_words t.memberships)) y0 ∙ onto_zeros membership_words membership_room t.memberships fm in
    let l2 : lent memberships_at membership_room (lent entries_at entry_room l z) y ≡ join 0 0 0 0 z y W =
    ap (λ (x : List ℕ). lent memberships_at membership_room x y) l1
    ∙ lend_memberships 0 0 0 0 z (replicate membership_room 0) W lz membership_room y (omega (arith, length-replicate {A = ℕ} membership_room 0))
    ∙ ap (λ (x : List ℕ). join 0 0 0 0 z x W) (append-nil y) in
    ap (λ (x : List ℕ). set (set (set (set x 0 v) 1 h) 2 n) 3 m) l2
    ∙ rw (ev, eh, en, em, pz, py) (sym (loaded_words t))

-- the part of the memberships is whole after the entries came back
pub lent_long : (l z : List ℕ) → length l ≡ word_count → length z ≡ length (entry_part l) → length (membership_part (lent entries_at entry_room l z)) ≡ membership_room
lent_long l z e h =
    let x : List ℕ = lent entries_at entry_room l z in
    length-take-le membership_room (drop memberships_at x)
    (omega (
      arith,
      length-drop memberships_at x,
      length-append (take entries_at l) (z ++ drop entry_room (drop entries_at l)),
      length-append z (drop entry_room (drop entries_at l)),
      length-take-le entries_at l (omega arith),
      length-take-le entry_room (drop entries_at l) (omega (arith, length-drop entries_at l)),
      length-drop entry_room (drop entries_at l),
      length-drop entries_at l,
    ))

-- ---- the ways out of reading

abbrev read : ℕ → List ℕ → Load
read n l = record { number = n; words = l }

module _ (l s : List ℕ) where
  pub no_replica : (length l ≡ word_count → ⊥) → read 28 l ≡ read_of l s
  unfolding read_of
  no_replica h = rw (ne_eqb (length l) word_count h)

  module _ (long : length l ≡ word_count) where
    pub same_load : read_of l s ≡ loaded_of s
    unfolding read_of
    same_load = rw (eq-eqb (length l) word_count long)

    refused_with : (n : ℕ) → (n ≡ 0 → ⊥) → snapshot_no s ≡ n → read n fresh_words ≡ read_of l s
    unfolding loaded_of
    refused_with n h e = rw (same_load, e, ne_eqb n 0 h)

    pub bytes_told : (n : ℕ) → n ≡ bytes_no s → (n ≡ 0 → ⊥) → read n fresh_words ≡ read_of l s
    bytes_told n e h = refused_with n h (bytes_refused s n e h)

    module _ (z : head_no s ≡ 0) (y : sizes_no s ≡ 0) where
      passed_head : snapshot_no s ≡ cond (eqb (table_no (stated_table s)) 0) 0 (table_no (stated_table s))
      unfolding snapshot_no
      passed_head = rw (z, y)

      pub table_refused : (n : ℕ) → n ≡ table_no (stated_table s) → (n ≡ 0 → ⊥) → read n fresh_words ≡ read_of l s
      table_refused n e h = refused_with n h (passed_head ∙ rw (← e, ne_eqb n 0 h))

      pub accepted : table_no (stated_table s) ≡ 0 → read 0 (pack (at_start (stated_table s))) ≡ read_of l s
      unfolding loaded_of
      accepted e = let n : snapshot_no s ≡ 0 = passed_head ∙ rw e in rw (same_load, n)
