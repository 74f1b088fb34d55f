-- Laws of applying an operation to words.
use mathlib.Core.Path.{◌≡◌, refl, ap, sym, ◌∙◌, fun_ext}
use Prim.Native.Nat.{ℕ, zero, suc, ◌+◌, ◌-◌, ◌*◌, ◌/◌, ◌≤◌, ◌<◌}
use native.Mathlib.Omega.{arith}
use mathlib.Core.Bool.{Bool, true, false, cond, not, ◌&&◌, ◌||◌}
use mathlib.Core.List.{List, [], ◌∷◌, ◌++◌, map, append-nil}
use lib.ListN.{length, take, drop, get_or, set, replicate, length-append, length-drop, take-append-drop, length-map, drop_of_length-le}
use lib.Seq.{length-take-le, take-take}
use lib.Dec.{eqb, leb, ltb}
use Rattle.std.specs.List.{position_or_len}
use Rattle.lists.specs.Lists.{any, passing, insert_by, rank_by, flat_map}
use borrow.Author.Tests.{lt-ltb, le-ltb, leb-false, both_ways}
use Rattle.lists.proofs.ListLaws.{all_passing, length_passing, length_insert, passing_same, passing_fewer}
use Rattle.lists.proofs.LoopLaws.{insert_rank, rank_length}
use Rattle.table_rules.specs.declared.Membership.{Membership}
use Rattle.table_rules.specs.Operations.{player, group, Empty, RemoveEntry, Join, Leave, Operation}
use Rattle.table_rules.specs.NameTable.{Entry, NameTable, max_entries, max_memberships, at_version, is_entry, present, has_id, is_pair, has_pair, before, other_entry, member_id, other_member, other_pair, is_noop_act, is_noop, change, apply}
use Rattle.rows.specs.Rows.{places, word_is, words_are, put_words, opened, packed, kept_words, taken_out}
use Rattle.rows.proofs.MoveLaws.{lent}
use Rattle.rows.proofs.RowLaws.{length_places, any_of, put_last, put_between, Exact, exact_packed, kept_words_law, kept_bound, taken_out_law, take_packed, drop_packed, packed_more}
use Rattle.table_words.specs.Layout.{entry_width, membership_width, entry_room, membership_room, entries_at, memberships_at, window_at}
use Rattle.table_words.specs.Words.{version_of, host_of, entry_count, membership_count, entry_of, entry_words, membership_of, membership_words, join, entry_part, membership_part, memberships_in, table_of}
use Rattle.table_words.specs.Inner.{with_table, Packed, EntryFits, adding}
use Rattle.table_words.proofs.PartLaws.{table_with, with_with, with_packed, split, lend_entries, lend_memberships, entry_wide, membership_wide, memberships_words, entry_count_law, membership_count_law, same, Fits, table_fits}
use Rattle.table_apply.specs.Applied.{changed, without_entry, without_pairs, pair_is, member_column, AppliedTo}

-- ---- what a search finds

pub has_id_law : (l : List ℕ) (i : ℕ) → any (word_is 1 i) (places entry_width (entry_count l) (entry_part l)) ≡ has_id i (table_of l).entries
unfolding table_of has_id
has_id_law l i = sym (any_of (λ e. eqb e.id i) entry_of (places entry_width (entry_count l) (entry_part l)))

pub has_entry : (l : List ℕ) (k i : ℕ) → any (words_are 0 k 1 i) (places entry_width (entry_count l) (entry_part l)) ≡ present k i (table_of l).entries
unfolding table_of present is_entry
has_entry l k i = sym (any_of (is_entry k i) entry_of (places entry_width (entry_count l) (entry_part l)))

pub has_pair_law : (l : List ℕ) (g p : ℕ) → any (words_are 0 g 1 p) (places membership_width (membership_count l) (membership_part l)) ≡ has_pair g p (table_of l).memberships
unfolding table_of has_pair is_pair
has_pair_law l g p = sym (any_of (is_pair g p) membership_of (places membership_width (membership_count l) (membership_part l)))

-- ---- the table, part by part

module _ (l : List ℕ) (p : Packed l) where
  long_entries : length (entry_part l) ≡ entry_room
  long_entries = length-take-le entry_room (drop entries_at l) (omega (arith, length-drop entries_at l, p.long))

  long_memberships : length (membership_part l) ≡ membership_room
  long_memberships = length-take-le membership_room (drop memberships_at l) (omega (arith, length-drop memberships_at l, p.long))

  entries_of : entry_part l ≡ packed entry_words entry_room (table_of l).entries
  unfolding table_of
  entries_of = p.entries_same

  memberships_of : membership_part l ≡ packed membership_words membership_room (table_of l).memberships
  unfolding table_of
  memberships_of = p.memberships_same

  -- the words with other entries, or with other words for the first k of the memberships
  other_entries : (z : List ℕ) → lent entries_at entry_room l z ≡ join (version_of l) (host_of l) (entry_count l) (membership_count l) z (membership_part l) (drop window_at l)
  other_entries z =
      ap (λ (y : List ℕ). lent entries_at entry_room y z) (split l p.long)
      ∙ lend_entries (version_of l) (host_of l) (entry_count l) (membership_count l) (entry_part l) (membership_part l) (drop window_at l) long_entries z

  other_memberships : (k : ℕ) (z : List ℕ) → k ≤ membership_room
      → lent memberships_at k l z ≡ join (version_of l) (host_of l) (entry_count l) (membership_count l) (entry_part l) (z ++ drop k (membership_part l)) (drop window_at l)
  other_memberships k z h =
      ap (λ (y : List ℕ). lent memberships_at k y z) (split l p.long)
      ∙ lend_memberships (version_of l) (host_of l) (entry_count l) (membership_count l) (entry_part l) (membership_part l) (drop window_at l) long_entries k z (omega (arith, long_memberships))

host_of_law : (l : List ℕ) → host_of l ≡ (table_of l).host
unfolding table_of
host_of_law l = refl

rank_of : (l : List ℕ) (x : Membership) → rank_by before x (memberships_in (membership_count l) (membership_part l)) ≡ rank_by before x (table_of l).memberships
unfolding table_of
rank_of l x = refl

-- words whose parts are those of a table
joined : (t : NameTable) (l : List ℕ) (v h n m : ℕ) (es ms : List ℕ) → v ≡ t.version → h ≡ t.host → n ≡ length t.entries → m ≡ length t.memberships
    → es ≡ packed entry_words entry_room t.entries → ms ≡ packed membership_words membership_room t.memberships
    → join v h n m es ms (drop window_at l) ≡ with_table t l
unfolding with_table
joined t l v h n m es ms ev eh en em ee eq = rw (ev, eh, en, em, ee, eq)

-- ---- the two ways out

at_version_law : (l : List ℕ) (v : ℕ) → set (with_table (table_of l) l) 0 v ≡ with_table (at_version v (table_of l)) l
unfolding with_table at_version
at_version_law l v = refl

pub noop_applied : (l : List ℕ) (op : Operation) → Packed l → is_noop (table_of l) op ≡ true → AppliedTo l op true (set l 0 op.version)
unfolding apply
noop_applied l op p e = record { said = sym e; left = ap (λ (y : List ℕ). set y 0 op.version) (same l p) ∙ at_version_law l op.version ∙ rw e }

pub change_applied : (l : List ℕ) (op : Operation) (after : List ℕ) → is_noop (table_of l) op ≡ false
    → after ≡ with_table (change (table_of l) op.version op.act) l → AppliedTo l op false after
unfolding apply
change_applied l op after e h = record { said = sym e; left = h ∙ rw e }

pub empty_noop : (l : List ℕ) (v : ℕ) → is_noop (table_of l) (record { version = v; act = Empty }) ≡ true
unfolding is_noop is_noop_act
empty_noop l v = refl

-- ---- adding an entry

second_false : (a b : Bool) → a || b ≡ false → b ≡ false
second_false false b h = h
second_false true b h = absurd (both_ways true h refl)

module _ (l : List ℕ) (e : Entry) where
  pub add_noop : is_noop (table_of l) (adding e) ≡ (has_id e.id (table_of l).entries || leb max_entries (entry_count l))
  unfolding is_noop is_noop_act
  add_noop = rw (entry_count_law l)

  pub add_room : (has_id e.id (table_of l).entries || leb max_entries (entry_count l)) ≡ false → entry_count l < max_entries
  add_room h = leb-false max_entries (entry_count l) (second_false (has_id e.id (table_of l).entries) _ h)

  pub pushed : Packed l → entry_count l < max_entries → (z : List ℕ) → z ≡ put_words (entry_part l) (entry_width * entry_count l) (entry_words e)
      → set (set (lent entries_at entry_room l z) 2 (entry_count l + 1)) 0 e.version ≡ with_table (changed (table_of l) (adding e)) l
  unfolding change
  pushed p h z q =
      let es : List Entry = (table_of l).entries in
      let ln : length es ≡ entry_count l = entry_count_law l in
      let z_is : z ≡ packed entry_words entry_room (es ++ e ∷ []) =
      q ∙ ap (λ (y : List ℕ). put_words y (entry_width * entry_count l) (entry_words e)) (entries_of l p)
      ∙ ap (λ (q : ℕ). put_words (packed entry_words entry_room es) (entry_width * q) (entry_words e)) (sym ln)
      ∙ put_last entry_width entry_words entry_wide entry_room es e (omega arith) in
      let more : entry_count l + 1 ≡ length (es ++ e ∷ []) = sym (length-append es (e ∷ []) ∙ omega arith) in
      ap (λ (y : List ℕ). set (set y 2 (entry_count l + 1)) 0 e.version) (other_entries l p z)
      ∙ joined (changed (table_of l) (adding e)) l e.version (host_of l) (entry_count l + 1) (membership_count l) z (membership_part l)
      refl (host_of_law l) more (sym (membership_count_law l)) z_is (memberships_of l p)

-- ---- joining

-- the rank is the place of the first row that the membership stands before
pub rank_first : (m : Membership) (xs : List (List ℕ)) → position_or_len (λ y. before m (membership_of y)) xs ≡ rank_by before m (map membership_of xs)
unfolding rank_by
rank_first m [] = refl
rank_first m (x ∷ xs) = go (before m (membership_of x)) (rank_first m xs)
  where
    go : (b : Bool) → position_or_len (λ y. before m (membership_of y)) xs ≡ rank_by before m (map membership_of xs)
        → cond (not b) (1 + position_or_len (λ y. before m (membership_of y)) xs) 0 ≡ cond b 0 (suc (rank_by before m (map membership_of xs)))
    go true e = refl
    go false e = omega (arith, e)

-- and it is within the rows
pub rank_within : (m : Membership) (count : ℕ) (l : List ℕ) → rank_by before m (memberships_in count l) ≤ count
rank_within m count l =
    omega (arith, rank_length before m (memberships_in count l), length-map (places membership_width count l) membership_of, length_places membership_width count l)

last_false : (a b c d : Bool) → a || (b || (c || d)) ≡ false → d ≡ false
last_false false false false d h = h
last_false false false true d h = absurd (both_ways true h refl)
last_false false true c d h = absurd (both_ways true h refl)
last_false true b c d h = absurd (both_ways true h refl)

module _ (l : List ℕ) (g q : ℕ) where
  pub join_room : is_noop_act (table_of l) (Join g q) ≡ false → membership_count l < max_memberships
  unfolding is_noop_act
  join_room h = leb-false max_memberships (membership_count l) (ap (leb max_memberships) (sym (membership_count_law l))
      ∙ last_false (not (present group g (table_of l).entries)) (not (present player q (table_of l).entries)) (has_pair g q (table_of l).memberships) _ h)

  pub group_absent : present group g (table_of l).entries ≡ false → true ≡ is_noop_act (table_of l) (Join g q)
  unfolding is_noop_act
  group_absent h = rw h

  module _ (h : present group g (table_of l).entries ≡ true) where
    pub player_absent : present player q (table_of l).entries ≡ false → true ≡ is_noop_act (table_of l) (Join g q)
    unfolding is_noop_act
    player_absent k = rw (h, k)

    module _ (k : present player q (table_of l).entries ≡ true) where
      pub pair_there : has_pair g q (table_of l).memberships ≡ true → true ≡ is_noop_act (table_of l) (Join g q)
      unfolding is_noop_act
      pair_there m = rw (h, k, m)

      -- otherwise it goes by their number
      pub join_last : has_pair g q (table_of l).memberships ≡ false → leb max_memberships (membership_count l) ≡ is_noop_act (table_of l) (Join g q)
      unfolding is_noop_act
      join_last m = rw (h, k, m, membership_count_law l)

module _ (l : List ℕ) (v g q : ℕ) where
  pub join_noop : is_noop (table_of l) (record { version = v; act = Join g q }) ≡ is_noop_act (table_of l) (Join g q)
  unfolding is_noop
  join_noop = refl

  pub inserted : Packed l → membership_count l < max_memberships → (k e : ℕ) (z : List ℕ)
      → k ≡ rank_by before (record { group = g; player = q }) (memberships_in (membership_count l) (membership_part l))
      → e ≡ memberships_at + membership_width * membership_count l + membership_width
      → z ≡ opened (take (e - memberships_at) (drop memberships_at l)) (membership_width * k) (g ∷ q ∷ [])
      → set (set (lent memberships_at (e - memberships_at) l z) 3 (membership_count l + 1)) 0 v ≡ with_table (change (table_of l) v (Join g q)) l
  unfolding change
  inserted p h k e z ek ee ez =
      let ms : List Membership = (table_of l).memberships in
      let x : Membership = record { group = g; player = q } in
      let all : List Membership = insert_by before x ms in
      let m : ℕ = membership_count l in
      let r : ℕ = e - memberships_at in
      let er : r ≡ membership_width * m + membership_width = omega arith in
      let lm : length ms ≡ m = membership_count_law l in
      let lw : length (flat_map membership_words ms) ≡ membership_width * length ms = memberships_words ms in
      let kr : k ≡ rank_by before x ms = ek ∙ rank_of l x in
      let kb : rank_by before x ms ≤ length ms = rank_length before x ms in
      let lk : length (take k ms) ≡ k = length-take-le k ms (omega arith) in
      let ld : length (drop k ms) ≡ m - k = length-drop k ms ∙ omega arith in
      let ins : all ≡ take k ms ++ x ∷ drop k ms = insert_rank before x ms ∙ ap (λ (n : ℕ). take n ms ++ x ∷ drop n ms) (sym kr) in
      let part : take r (drop memberships_at l) ≡ packed membership_words r ms =
      sym (take-take r membership_room (drop memberships_at l) (omega arith)) ∙ ap (take r) (memberships_of l p) ∙ take_packed membership_words membership_room ms r (omega arith) (omega arith) in
      let z_is : z ≡ packed membership_words r all =
      ez ∙ ap (λ (y : List ℕ). opened y (membership_width * k) (g ∷ q ∷ [])) (part ∙ ap (packed membership_words r) (sym (take-append-drop k ms)))
      ∙ ap (λ (n : ℕ). opened (packed membership_words r (take k ms ++ drop k ms)) (membership_width * n) (g ∷ q ∷ [])) (sym lk)
      ∙ put_between membership_width membership_words membership_wide r (take k ms) (drop k ms) x (omega arith)
      ∙ ap (packed membership_words r) (sym ins) in
      let li : length all ≡ m + 1 = length_insert before x ms ∙ omega arith in
      let lz : length (flat_map membership_words all) ≤ r = omega (arith, memberships_words all) in
      let rest : drop r (membership_part l) ≡ replicate (membership_room - r) 0 = ap (drop r) (memberships_of l p) ∙ drop_packed membership_words membership_room ms r (omega arith) (omega arith) in
      let whole : z ++ drop r (membership_part l) ≡ packed membership_words membership_room all =
      ap (λ (y : List ℕ). y ++ drop r (membership_part l)) z_is ∙ ap (λ (y : List ℕ). packed membership_words r all ++ y) rest
      ∙ packed_more membership_words r membership_room all lz (omega arith) in
      ap (λ (y : List ℕ). set (set y 3 (m + 1)) 0 v) (other_memberships l p r z (omega arith))
      ∙ joined (change (table_of l) v (Join g q)) l v (host_of l) (entry_count l) (m + 1) (entry_part l) (z ++ drop r (membership_part l))
      refl (host_of_law l) (sym (entry_count_law l)) (sym li) (entries_of l p) whole

-- ---- taking memberships out

-- what a membership has in a column is what its row has there
column : (c : ℕ) (r : List ℕ) → c < membership_width → get_or (membership_words (membership_of r)) c 0 ≡ get_or r c 0
column zero r h = refl
column (suc zero) r h = refl
column (suc (suc c)) r h = absurd (omega arith)

module _ (c a d b : ℕ) (hc : c < membership_width) (hd : d < membership_width) where
  abbrev goes : Membership → Bool
  goes = pair_is c a d b

  row_goes : (r : List ℕ) → goes (membership_of r) ≡ words_are c a d b r
  row_goes r = rw (column c r hc, column d r hd)

  row_stays : (r : List ℕ) → not (goes (membership_of r)) ≡ not (words_are c a d b r)
  row_stays r = ap not (row_goes r)

  module _ (l : List ℕ) (p : Packed l) where
    pub has_pairs : any (words_are c a d b) (places membership_width (membership_count l) (membership_part l)) ≡ any goes (table_of l).memberships
    unfolding table_of
    has_pairs =
        let ps = places membership_width (membership_count l) (membership_part l) in
        ap (λ (t : List ℕ → Bool). any t ps) (sym (fun_ext row_goes)) ∙ sym (any_of goes membership_of ps)

    pub no_pairs : any goes (table_of l).memberships ≡ false → l ≡ with_table (without_pairs goes (table_of l)) l
    no_pairs h =
        same l p
        ∙ ap (λ (ms : List Membership). with_table (record { version = (table_of l).version; host = (table_of l).host; entries = (table_of l).entries; memberships = ms }) l)
        (sym (passing_same goes (λ m. not (goes m)) (λ m. refl) (table_of l).memberships h))

    membership_rows : Exact membership_width membership_words membership_wide membership_of (membership_count l) (membership_part l)
    membership_rows =
        exact_packed membership_width membership_words membership_wide membership_of membership_room (membership_count l) (membership_part l)
        (omega (arith, long_memberships l p, p.memberships_fit)) p.memberships_same

    pub pairs_left : length (kept_words (words_are c a d b) membership_width (membership_count l) (membership_part l)) ≤ membership_width * membership_count l
    pairs_left =
        kept_bound membership_width membership_words membership_wide membership_of (words_are c a d b) (λ m. not (goes m)) row_stays
        (membership_count l) (membership_part l) membership_rows

    pub dropped_pairs : (z : List ℕ) (r : ℕ) → r ≡ length (kept_words (words_are c a d b) membership_width (membership_count l) (membership_part l))
        → z ≡ taken_out (words_are c a d b) membership_width (membership_count l) (membership_part l)
        → set (lent memberships_at membership_room l z) 3 (r / membership_width) ≡ with_table (without_pairs goes (table_of l)) l
    unfolding table_of
    dropped_pairs z r er ez =
        let m : ℕ = membership_count l in
        let fit : membership_width * m ≤ length (membership_part l) = omega (arith, long_memberships l p, p.memberships_fit) in
        let z_is : z ≡ packed membership_words membership_room (passing (λ m. not (goes m)) (table_of l).memberships) =
        ez ∙ taken_out_law membership_width membership_words membership_wide membership_of (words_are c a d b) (λ m. not (goes m)) row_stays
        membership_room m (membership_part l) (long_memberships l p) fit p.memberships_same in
        let count : r / membership_width ≡ length (passing (λ m. not (goes m)) (table_of l).memberships) =
        omega (arith, er, kept_words_law membership_width membership_words membership_wide membership_of (words_are c a d b) (λ m. not (goes m)) row_stays m (membership_part l) membership_rows) in
        let none : drop membership_room (membership_part l) ≡ [] = drop_of_length-le (membership_part l) {i = membership_room} (omega (arith, long_memberships l p)) in
        ap (λ (y : List ℕ). set y 3 (r / membership_width)) (other_memberships l p membership_room z (omega arith))
        ∙ joined (without_pairs goes (table_of l)) l (version_of l) (host_of l) (entry_count l) (r / membership_width) (entry_part l) (z ++ drop membership_room (membership_part l))
        refl refl (sym (entry_count_law l)) count p.entries_same (ap (λ (y : List ℕ). z ++ y) none ∙ append-nil z ∙ z_is)

-- ---- leaving

module _ (l : List ℕ) (v g q : ℕ) where
  leave_noop : is_noop (table_of l) (record { version = v; act = Leave g q }) ≡ not (any (pair_is 0 g 1 q) (table_of l).memberships)
  unfolding is_noop is_noop_act has_pair is_pair
  leave_noop = refl

  leave_change : set (with_table (without_pairs (pair_is 0 g 1 q) (table_of l)) l) 0 v ≡ with_table (change (table_of l) v (Leave g q)) l
  unfolding with_table change other_pair is_pair
  leave_change = refl

  pub left_applied : Packed l → (w : List ℕ) (r : Bool) → r ≡ any (pair_is 0 g 1 q) (table_of l).memberships
      → w ≡ with_table (without_pairs (pair_is 0 g 1 q) (table_of l)) l → AppliedTo l (record { version = v; act = Leave g q }) (not r) (set w 0 v)
  left_applied p w true h e = change_applied l _ (set w 0 v) (leave_noop ∙ ap not (sym h)) (ap (λ (y : List ℕ). set y 0 v) e ∙ leave_change)
  left_applied p w false h e =
      rw (e ∙ sym (no_pairs 0 g 1 q (omega arith) (omega arith) l p (sym h))) (noop_applied l _ p (leave_noop ∙ ap not (sym h)))

-- ---- removing an entry

other_entry_law : (k i : ℕ) (l : List ℕ) → other_entry k i (entry_of l) ≡ not (words_are 0 k 1 i l)
unfolding other_entry is_entry
other_entry_law k i l = refl

module _ (l : List ℕ) (k i : ℕ) (p : Packed l) where
  other : (e : Entry) → other_entry k i e ≡ not (is_entry k i e)
  unfolding other_entry
  other e = refl

  -- the rows are the very rows of the entries
  entry_rows : Exact entry_width entry_words entry_wide entry_of (entry_count l) (entry_part l)
  entry_rows = exact_packed entry_width entry_words entry_wide entry_of entry_room (entry_count l) (entry_part l) (omega (arith, long_entries l p, p.entries_fit)) p.entries_same

  pub entries_left : length (kept_words (words_are 0 k 1 i) entry_width (entry_count l) (entry_part l)) ≤ entry_width * entry_count l
  entries_left =
      kept_bound entry_width entry_words entry_wide entry_of (words_are 0 k 1 i) (other_entry k i) (other_entry_law k i) (entry_count l) (entry_part l) entry_rows

  -- fewer rows are left exactly where the entry was there
  pub was_there : (r : ℕ) → r ≡ length (kept_words (words_are 0 k 1 i) entry_width (entry_count l) (entry_part l))
      → ltb (r / entry_width) (entry_count l) ≡ present k i (table_of l).entries
  unfolding table_of present
  was_there r er =
      let es : List Entry = (table_of l).entries in
      let count : r / entry_width ≡ length (passing (other_entry k i) es) =
      omega (arith, er, kept_words_law entry_width entry_words entry_wide entry_of (words_are 0 k 1 i) (other_entry k i) (other_entry_law k i) (entry_count l) (entry_part l) entry_rows) in
      go (any (is_entry k i) es) refl (count, sym (entry_count_law l))
    where
      go : (b : Bool) → any (is_entry k i) (table_of l).entries ≡ b
          → (r / entry_width ≡ length (passing (other_entry k i) (table_of l).entries)) × (entry_count l ≡ length (table_of l).entries)
          → ltb (r / entry_width) (entry_count l) ≡ any (is_entry k i) (table_of l).entries
      go true e c = rw e (lt-ltb (r / entry_width) (entry_count l) (omega (arith, c, passing_fewer (is_entry k i) (other_entry k i) other (table_of l).entries e)))
      go false e c = rw e (le-ltb (r / entry_width) (entry_count l) (omega (arith, c, ap length (passing_same (is_entry k i) (other_entry k i) other (table_of l).entries e))))

  -- without an entry that is not there nothing changes
  pub none_dropped : (w : List ℕ) → present k i (table_of l).entries ≡ false → w ≡ with_table (without_entry k i (table_of l)) l → w ≡ l
  unfolding present
  none_dropped w h e =
      e
      ∙ ap (λ (es : List Entry). with_table (record { version = (table_of l).version; host = (table_of l).host; entries = es; memberships = (table_of l).memberships }) l)
      (passing_same (is_entry k i) (other_entry k i) other (table_of l).entries h)
      ∙ sym (same l p)

  pub dropped_entry : (z : List ℕ) (r : ℕ) → r ≡ length (kept_words (words_are 0 k 1 i) entry_width (entry_count l) (entry_part l))
      → z ≡ taken_out (words_are 0 k 1 i) entry_width (entry_count l) (entry_part l)
      → set (lent entries_at entry_room l z) 2 (r / entry_width) ≡ with_table (without_entry k i (table_of l)) l
  unfolding table_of
  dropped_entry z r er ez =
      let n : ℕ = entry_count l in
      let fit : entry_width * n ≤ length (entry_part l) = omega (arith, long_entries l p, p.entries_fit) in
      let z_is : z ≡ packed entry_words entry_room (passing (other_entry k i) (table_of l).entries) =
      ez ∙ taken_out_law entry_width entry_words entry_wide entry_of (words_are 0 k 1 i) (other_entry k i) (other_entry_law k i) entry_room n (entry_part l) (long_entries l p) fit p.entries_same in
      let count : r / entry_width ≡ length (passing (other_entry k i) (table_of l).entries) =
      omega (arith, er, kept_words_law entry_width entry_words entry_wide entry_of (words_are 0 k 1 i) (other_entry k i) (other_entry_law k i) n (entry_part l) entry_rows) in
      ap (λ (y : List ℕ). set y 2 (r / entry_width)) (other_entries l p z)
      ∙ joined (without_entry k i (table_of l)) l (version_of l) (host_of l) (r / entry_width) (membership_count l) z (membership_part l)
      refl refl count (sym (membership_count_law l)) z_is p.memberships_same

  pub entry_gone : (v : ℕ) → is_noop (table_of l) (record { version = v; act = RemoveEntry k i }) ≡ not (present k i (table_of l).entries)
  unfolding is_noop is_noop_act
  entry_gone v = refl

  fits_without : Fits (without_entry k i (table_of l))
  fits_without = record {
    entries_fit = omega (arith, length_passing (other_entry k i) (table_of l).entries, (table_fits l p).entries_fit);
    memberships_fit = (table_fits l p).memberships_fit;
    names_fit = all_passing EntryFits (other_entry k i) (table_of l).entries (table_fits l p).names_fit;
  }

  pub left_packed : (w : List ℕ) → w ≡ with_table (without_entry k i (table_of l)) l → Packed w
  left_packed w e = rw e (with_packed (without_entry k i (table_of l)) l fits_without p.long)

  -- a membership names the entry in the column of its kind
  member_goes : (m : Membership) → not (pair_is (member_column k) i (member_column k) i m) ≡ other_member k i m
  unfolding other_member member_id
  member_goes m = go (eqb k player)
    where
      and_same : (b : Bool) → (b && b) ≡ b
      and_same true = refl
      and_same false = refl

      go : (b : Bool) → not (pair_is (cond b 1 0) i (cond b 1 0) i m) ≡ not (eqb (cond b m.player m.group) i)
      go true = ap not (and_same (eqb m.player i))
      go false = ap not (and_same (eqb m.group i))

  abbrev without_both : NameTable
  without_both = record {
    version = (table_of l).version;
    host = (table_of l).host;
    entries = passing (other_entry k i) (table_of l).entries;
    memberships = passing (other_member k i) (table_of l).memberships;
  }

  both_left : (w w2 : List ℕ) (at : ℕ) → at ≡ member_column k → w ≡ with_table (without_entry k i (table_of l)) l
      → w2 ≡ with_table (without_pairs (pair_is at i at i) (table_of w)) w → w2 ≡ with_table without_both l
  both_left w w2 at c e f =
      let goes : Membership → Bool = pair_is (member_column k) i (member_column k) i in
      f ∙ ap (λ (j : ℕ). with_table (without_pairs (pair_is j i j i) (table_of w)) w) c
      ∙ ap (λ (y : List ℕ). with_table (without_pairs goes (table_of y)) y) e
      ∙ ap (λ (t : NameTable). with_table (without_pairs goes t) (with_table (without_entry k i (table_of l)) l)) (table_with (without_entry k i (table_of l)) l fits_without)
      ∙ with_with (without_entry k i (table_of l)) l fits_without (without_pairs goes (without_entry k i (table_of l)))
      ∙ ap (λ (u : Membership → Bool). with_table (record { version = (table_of l).version; host = (table_of l).host; entries = passing (other_entry k i) (table_of l).entries; memberships = passing u (table_of l).memberships }) l) (fun_ext member_goes)

  pub removed : (v h at : ℕ) (w w2 : List ℕ) → at ≡ member_column k → w ≡ with_table (without_entry k i (table_of l)) l
      → w2 ≡ with_table (without_pairs (pair_is at i at i) (table_of w)) w
      → h ≡ cond (eqb (get_or (set w2 0 v) 1 0) i) 0 (get_or (set w2 0 v) 1 0)
      → set (set w2 0 v) 1 h ≡ with_table (change (table_of l) v (RemoveEntry k i)) l
  unfolding with_table change
  removed v h at w w2 c e f g = rw (g, both_left w w2 at c e f)
