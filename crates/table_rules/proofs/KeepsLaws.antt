-- Applying an operation keeps a name table valid, and sets its version to the operation's.
use mathlib.Core.Path.{◌≡◌, refl, sym, ap, ◌∙◌}
use Prim.Native.Nat.{ℕ, ◌≤◌, ◌<◌}
use native.Mathlib.Omega.{arith}
use mathlib.Core.Bool.{Bool, true, false, cond, not, ◌&&◌, ◌||◌}
use mathlib.Core.List.{List, [], ◌∷◌, ◌++◌}
use lib.ListN.{length, get_or, length-append}
use lib.Dec.{eqb, leb, ltb}
use borrow.Author.Tests.{ltb-true, ltb-false, leb-true, leb-false, eqb-true, eqb-false, lt-ltb, le-ltb, le-leb, eq-eqb, not-true, not-false}
use Rattle.refusal.specs.Checks.{when, first_of}
use Rattle.lists.specs.Lists.{any, every, passing, insert_by}
use Rattle.lists.proofs.ListLaws.{every_at, and_l, and_r, and_i, or_l, or_r, every_append, every_weaken, every_passing, any_append, any_passing, length_passing, every_insert, length_insert, distinct_snoc, distinct_passing, rising_wider, rising_snoc, rising_passing}
use Rattle.table_rules.specs.declared.Membership.{Membership}
use Rattle.names.specs.Names.{valid_name}
use Rattle.table_rules.specs.Operations.{player, group, is_kind, Act, Empty, AddEntry, RemoveEntry, Join, Leave, Operation, names_entry, valid_act, valid_operation}
use Rattle.table_rules.specs.NameTable.{Entry, NameTable, max_entries, max_memberships, is_entry, present, has_id, is_pair, has_pair, before, insert_membership, added_entry, other_entry, member_id, other_member, other_pair, is_noop_act, is_noop, at_version, change, apply}
use Rattle.table_rules.specs.Valid.{has_an_id, has_a_kind, has_a_name, ids_distinct, entries_rise, rises_after, memberships_rise, names_present, host_present, Condition, is_met, table_conditions, valid_table, table_no}

pub apply_version : (t : NameTable) (op : Operation) → (apply t op).version ≡ op.version
unfolding apply change at_version
apply_version t op = go (is_noop t op) op.act
  where
    go : (b : Bool) (a : Act) → (cond b (at_version op.version t) (change t op.version a)).version ≡ op.version
    go true a = refl
    go false Empty = refl
    go false (AddEntry k i o f d n) = refl
    go false (RemoveEntry k i) = refl
    go false (Join g p) = refl
    go false (Leave g p) = refl

-- ---- the parts of a valid name table

pub record ValidTable (t : NameTable) : Type 0 where
  pub few : length t.entries ≤ max_entries
  pub few_pairs : length t.memberships ≤ max_memberships
  pub ids_set : every has_an_id t.entries ≡ true
  pub ids_differ : ids_distinct t.entries ≡ true
  pub versions_rise : entries_rise t.version t.entries ≡ true
  pub pairs_rise : memberships_rise t.memberships ≡ true
  pub pairs_present : every (names_present t.entries) t.memberships ≡ true
  pub host_present_law : host_present t.host t.entries ≡ true
  pub kinds_known : every has_a_kind t.entries ≡ true
  pub names_valid : every has_a_name t.entries ≡ true

abbrev always : Condition
always = record { number = 0; met = true }

pub table_parts : (t : NameTable) → valid_table t ≡ true → ValidTable t
unfolding valid_table table_conditions
table_parts t h =
    let at : (i : ℕ) → (get_or (table_conditions t) i always).met ≡ true = λ i. every_at is_met always refl (table_conditions t) i h in
    record {
      few = leb-true (length t.entries) max_entries (at 0);
      few_pairs = leb-true (length t.memberships) max_memberships (at 1);
      ids_set = at 2;
      ids_differ = at 3;
      versions_rise = at 4;
      pairs_rise = at 5;
      pairs_present = at 6;
      host_present_law = at 7;
      kinds_known = at 8;
      names_valid = at 9;
    }

pub table_whole : (t : NameTable) → ValidTable t → valid_table t ≡ true
unfolding valid_table table_conditions every
table_whole t p =
    rw (
      le-leb (length t.entries) max_entries p.few,
      le-leb (length t.memberships) max_memberships p.few_pairs,
      p.ids_set,
      p.ids_differ,
      p.versions_rise,
      p.pairs_rise,
      p.pairs_present,
      p.host_present_law,
      p.kinds_known,
      p.names_valid,
    )

-- ---- the numbers 24 to 26 are the conditions, but for the two counts

none_left : (p n h : Bool) → (p && (n && (h && false))) ≡ false
none_left true true true = refl
none_left true true false = refl
none_left true false h = refl
none_left false n h = refl

-- the conditions of ids, distinct ids, versions, pairs, presence, host, kinds and names, in their order, and in that of their numbers
numbered : (i d v p n h k m : Bool)
    → (i && (d && (v && (p && (n && (h && (k && (m && true))))))))
    ≡ eqb (first_of (when (not (i && (d && (v && (k && (m && true)))))) 24 ∷ when (not (h && true)) 25 ∷ when (not (p && (n && true))) 26 ∷ [])) 0
numbered false d v p n h k m = refl
numbered true false v p n h k m = refl
numbered true true false p n h k m = refl
numbered true true true p n h false m = none_left p n h
numbered true true true p n h true false = none_left p n h
numbered true true true false n true true true = refl
numbered true true true false n false true true = refl
numbered true true true true false true true true = refl
numbered true true true true false false true true = refl
numbered true true true true true false true true = refl
numbered true true true true true true true true = refl

pub valid_is : (t : NameTable)
    → valid_table t ≡ (leb (length t.entries) max_entries && (leb (length t.memberships) max_memberships && eqb (table_no t) 0))
unfolding valid_table table_conditions table_no every
valid_is t =
    ap (λ (b : Bool). leb (length t.entries) max_entries && (leb (length t.memberships) max_memberships && b))
    (numbered (every has_an_id t.entries) (ids_distinct t.entries) (entries_rise t.version t.entries) (memberships_rise t.memberships)
    (every (names_present t.entries) t.memberships) (host_present t.host t.entries) (every has_a_kind t.entries) (every has_a_name t.entries))

abbrev version : Entry → ℕ
version e = e.version

abbrev id : Entry → ℕ
id e = e.id

-- ---- pairs that rise

-- the order on pairs as a fact: an earlier group, or the group and an earlier player
data Before (m n : Membership) : Type 0 where
  by_group : m.group < n.group → Before m n
  by_player : m.group ≡ n.group → m.player < n.player → Before m n

before_fact : (m n : Membership) → before m n ≡ true → Before m n
unfolding before
before_fact m n = go (ltb m.group n.group) refl (eqb m.group n.group) refl
  where
    go : (a : Bool) → ltb m.group n.group ≡ a → (b : Bool) → eqb m.group n.group ≡ b → a || (b && ltb m.player n.player) ≡ true → Before m n
    go true e b f h = by_group (ltb-true m.group n.group e)
    go false e true f h = by_player (eqb-true m.group n.group f) (ltb-true m.player n.player h)
    go false e false f h = absurd (let z : ◌≡◌ {A = ℕ} 0 1 = cc in omega arith)

before_test : (m n : Membership) → Before m n → before m n ≡ true
unfolding before
before_test m n (by_group h) = rw (lt-ltb m.group n.group h)
before_test m n (by_player e h) =
    rw (le-ltb m.group n.group (omega arith), eq-eqb m.group n.group e) (lt-ltb m.player n.player h)

Before-trans : (a b c : Membership) → Before a b → Before b c → Before a c
Before-trans a b c (by_group h) (by_group k) = by_group (omega arith)
Before-trans a b c (by_group h) (by_player e k) = by_group (omega arith)
Before-trans a b c (by_player d h) (by_group k) = by_group (omega arith)
Before-trans a b c (by_player d h) (by_player e k) = by_player (omega arith) (omega arith)

before_trans : (a b c : Membership) → before a b ≡ true → before b c ≡ true → before a c ≡ true
before_trans a b c h k = before_test a c (Before-trans a b c (before_fact a b h) (before_fact b c k))

-- of two pairs that differ one is before the other
before_total : (m n : Membership) → before m n ≡ false → eqb n.group m.group && eqb n.player m.player ≡ false → before n m ≡ true
unfolding before
before_total m n b d = before_test n m (go (eqb n.group m.group) refl d)
  where
    g : ltb m.group n.group ≡ false
    g = or_l (ltb m.group n.group) (eqb m.group n.group && ltb m.player n.player) b

    go : (a : Bool) → eqb n.group m.group ≡ a → a && eqb n.player m.player ≡ false → Before n m
    go true e d =
        let same : n.group ≡ m.group = eqb-true n.group m.group e in
        let ne : ¬ (n.player ≡ m.player) = eqb-false n.player m.player d in
        let l : ltb m.player n.player ≡ false =
        rw (eq-eqb m.group n.group (sym same)) at
        (or_r (ltb m.group n.group) (eqb m.group n.group && ltb m.player n.player) b) in
        by_player same (omega (arith, ltb-false m.player n.player l))
    go false e d =
        let ne : ¬ (n.group ≡ m.group) = eqb-false n.group m.group e in
        by_group (omega (arith, ltb-false m.group n.group g))

after_weaken : (m n : Membership) (ms : List Membership) → before m n ≡ true → rises_after n ms ≡ true → rises_after m ms ≡ true
unfolding rises_after
after_weaken m n [] h k = refl
after_weaken m n (x ∷ xs) h k =
    rw (before_trans m n x h (and_l (before n x) (rises_after x xs) k)) (and_r (before n x) (rises_after x xs) k)

after_passing : (u : Membership → Bool) (m : Membership) (ms : List Membership) → rises_after m ms ≡ true → rises_after m (passing u ms) ≡ true
unfolding rises_after passing
after_passing u m [] h = h
after_passing u m (n ∷ ns) h = go (u n) refl (after_passing u n ns (and_r (before m n) (rises_after n ns) h))
  where
    go : (b : Bool) → u n ≡ b → rises_after n (passing u ns) ≡ true → rises_after m (passing u (n ∷ ns)) ≡ true
    go true e ih = rw (e, and_l (before m n) (rises_after n ns) h) ih
    go false e ih = rw e (after_weaken m n (passing u ns) (and_l (before m n) (rises_after n ns) h) ih)

after_rise : (m : Membership) (ms : List Membership) → rises_after m ms ≡ true → memberships_rise ms ≡ true
unfolding rises_after memberships_rise
after_rise m [] h = refl
after_rise m (n ∷ ns) h = and_r (before m n) (rises_after n ns) h

pairs_passing : (u : Membership → Bool) (ms : List Membership) → memberships_rise ms ≡ true → memberships_rise (passing u ms) ≡ true
unfolding memberships_rise passing
pairs_passing u [] h = h
pairs_passing u (m ∷ ms) h = go (u m) refl (after_passing u m ms h)
  where
    go : (b : Bool) → u m ≡ b → rises_after m (passing u ms) ≡ true → memberships_rise (passing u (m ∷ ms)) ≡ true
    go true e ih = rw e ih
    go false e ih = rw e (after_rise m (passing u ms) ih)

after_insert : (l m : Membership) (ms : List Membership) → before l m ≡ true → has_pair m.group m.player ms ≡ false → rises_after l ms ≡ true → rises_after l (insert_membership m ms) ≡ true
unfolding rises_after insert_by has_pair is_pair any
after_insert l m [] h d k = rw h
after_insert l m (n ∷ ns) h d k = go (before m n) refl (after_insert n m ns)
  where
    eqn : Bool
    eqn = eqb n.group m.group && eqb n.player m.player

    go : (b : Bool) → before m n ≡ b → (before n m ≡ true → has_pair m.group m.player ns ≡ false → rises_after n ns ≡ true → rises_after n (insert_membership m ns) ≡ true)
        → rises_after l (insert_membership m (n ∷ ns)) ≡ true
    go true e ih = rw (e, h, e) (and_r (before l n) (rises_after n ns) k)
    go false e ih =
        rw (e, and_l (before l n) (rises_after n ns) k)
        (ih (before_total m n e (or_l eqn (has_pair m.group m.player ns) d)) (or_r eqn (has_pair m.group m.player ns) d) (and_r (before l n) (rises_after n ns) k))

pairs_insert : (m : Membership) (ms : List Membership) → has_pair m.group m.player ms ≡ false → memberships_rise ms ≡ true → memberships_rise (insert_membership m ms) ≡ true
unfolding memberships_rise rises_after insert_by has_pair is_pair any
pairs_insert m [] d h = refl
pairs_insert m (n ∷ ns) d h = go (before m n) refl
  where
    eqn : Bool
    eqn = eqb n.group m.group && eqb n.player m.player

    go : (b : Bool) → before m n ≡ b → memberships_rise (insert_membership m (n ∷ ns)) ≡ true
    go true e = rw (e, e) h
    go false e = rw e (after_insert n m ns (before_total m n e (or_l eqn (has_pair m.group m.player ns) d)) (or_r eqn (has_pair m.group m.player ns) d) h)

-- ---- who is present

module _ (k i : ℕ) (e : Entry) (es : List Entry) where
  present_append : present k i es ≡ true → present k i (es ++ (e ∷ [])) ≡ true
  unfolding present
  present_append h = any_append (is_entry k i) es (e ∷ []) h

-- another entry than that of kind q and id j is left where that one goes
is_entry_left : (k i q j : ℕ) → ¬ ((k ≡ q) × (i ≡ j)) → (e : Entry) → is_entry k i e ≡ true → not (is_entry q j e) ≡ true
unfolding is_entry
is_entry_left k i q j n e h = go (eqb e.kind q) refl (eqb e.id j) refl
  where
    a : e.kind ≡ k
    a = eqb-true e.kind k (and_l (eqb e.kind k) (eqb e.id i) h)

    b : e.id ≡ i
    b = eqb-true e.id i (and_r (eqb e.kind k) (eqb e.id i) h)

    go : (x : Bool) → eqb e.kind q ≡ x → (y : Bool) → eqb e.id j ≡ y → not (x && y) ≡ true
    go true f true g = absurd (n (sym a ∙ eqb-true e.kind q f, sym b ∙ eqb-true e.id j g))
    go true f false g = refl
    go false f y g = refl

present_left : (k i q j : ℕ) → ¬ ((k ≡ q) × (i ≡ j)) → (es : List Entry) → present k i es ≡ true → present k i (passing (other_entry q j) es) ≡ true
unfolding present other_entry
present_left k i q j n es h = any_passing (is_entry k i) (other_entry q j) (is_entry_left k i q j n) es h

-- where those whom a pair or the host names are still present, the pair or the host is still good
names_present_moved : (es fs : List Entry) (m : Membership)
    → (present group m.group es ≡ true → present group m.group fs ≡ true) → (present player m.player es ≡ true → present player m.player fs ≡ true)
    → names_present es m ≡ true → names_present fs m ≡ true
unfolding names_present
names_present_moved es fs m f g h =
    and_i (present group m.group fs) (present player m.player fs)
    (f (and_l (present group m.group es) (present player m.player es) h))
    (g (and_r (present group m.group es) (present player m.player es) h))

host_present_moved : (es fs : List Entry) (h : ℕ) → (present player h es ≡ true → present player h fs ≡ true) → host_present h es ≡ true → host_present h fs ≡ true
unfolding host_present
host_present_moved es fs h f = go (eqb h 0)
  where
    go : (b : Bool) → b || present player h es ≡ true → b || present player h fs ≡ true
    go true k = refl
    go false k = f k

-- the same where the entry of kind k and id i goes
member_group : (m : Membership) → member_id group m ≡ m.group
unfolding member_id
member_group m = refl

member_player : (m : Membership) → member_id player m ≡ m.player
unfolding member_id
member_player m = refl

names_present_left : (k i : ℕ) (es : List Entry) (m : Membership) → names_present es m ≡ true → not (eqb (member_id k m) i) ≡ true
    → names_present (passing (other_entry k i) es) m ≡ true
names_present_left k i es m h q =
    let n : ¬ (member_id k m ≡ i) = eqb-false (member_id k m) i (not-true (eqb (member_id k m) i) q) in
    names_present_moved es (passing (other_entry k i) es) m
    (present_left group m.group k i (λ x. n (ap (λ (j : ℕ). member_id j m) (sym x.0) ∙ member_group m ∙ x.1)) es)
    (present_left player m.player k i (λ x. n (ap (λ (j : ℕ). member_id j m) (sym x.0) ∙ member_player m ∙ x.1)) es)
    h

host_present_left : (k i : ℕ) (es : List Entry) (h : ℕ) → host_present h es ≡ true → host_present (cond (eqb h i) 0 h) (passing (other_entry k i) es) ≡ true
unfolding host_present
host_present_left k i es h q = go (eqb h i) refl
  where
    go : (b : Bool) → eqb h i ≡ b → host_present (cond b 0 h) (passing (other_entry k i) es) ≡ true
    go true e = refl
    go false e =
        let n : ¬ (h ≡ i) = eqb-false h i e in
        host_present_moved es (passing (other_entry k i) es) h (present_left player h k i (λ x. n x.1) es) q

-- ---- the four acts

module _ (t : NameTable) (p : ValidTable t) (v : ℕ) (past : t.version < v) where
  noop_valid : ValidTable (at_version v t)
  unfolding at_version
  noop_valid = record {
    few = p.few;
    few_pairs = p.few_pairs;
    ids_set = p.ids_set;
    ids_differ = p.ids_differ;
    versions_rise = rising_wider version 0 0 t.version v t.entries (omega arith) (omega arith) p.versions_rise;
    pairs_rise = p.pairs_rise;
    pairs_present = p.pairs_present;
    host_present_law = p.host_present_law;
    kinds_known = p.kinds_known;
    names_valid = p.names_valid;
  }

  empty_valid : ValidTable (change t v Empty)
  unfolding change
  empty_valid = noop_valid

  add_valid : (k i o f d : ℕ) (n : List ℕ) → is_noop_act t (AddEntry k i o f d n) ≡ false → valid_act (AddEntry k i o f d n) ≡ true → ValidTable (change t v (AddEntry k i o f d n))
  unfolding change is_noop_act valid_act has_an_id has_a_kind has_a_name has_id every
  add_valid k i o f d n nv ok =
      let new : Entry = added_entry v k i o f d n in
      let kept : names_entry k i ≡ true = and_l (names_entry k i) (valid_name n) ok in
      let es : List Entry = t.entries in
      let full : Bool = leb max_entries (length es) in
      let absent : has_id i es ≡ false = or_l (has_id i es) full nv in
      record {
        few = omega (arith, leb-false max_entries (length es) (or_r (has_id i es) full nv), length-append es (new ∷ []));
        few_pairs = p.few_pairs;
        ids_set = every_append has_an_id es (new ∷ []) p.ids_set (rw (and_r (is_kind k) (not (eqb i 0)) kept));
        ids_differ = distinct_snoc id new es absent p.ids_differ;
        versions_rise = rising_snoc version 0 t.version v new es refl (omega arith) past p.versions_rise;
        pairs_rise = p.pairs_rise;
        pairs_present = every_weaken (names_present es) (names_present (es ++ (new ∷ [])))
            (λ m. names_present_moved es (es ++ (new ∷ [])) m (present_append group m.group new es) (present_append player m.player new es))
            t.memberships p.pairs_present;
        host_present_law = host_present_moved es (es ++ (new ∷ [])) t.host (present_append player t.host new es) p.host_present_law;
        kinds_known = every_append has_a_kind es (new ∷ []) p.kinds_known (rw (and_l (is_kind k) (not (eqb i 0)) kept));
        names_valid = every_append has_a_name es (new ∷ []) p.names_valid (rw (and_r (names_entry k i) (valid_name n) ok));
      }

  remove_valid : (k i : ℕ) → ValidTable (change t v (RemoveEntry k i))
  unfolding change other_member
  remove_valid k i =
      let es : List Entry = t.entries in
      record {
        few = omega (arith, length_passing (other_entry k i) es, p.few);
        few_pairs = omega (arith, length_passing (other_member k i) t.memberships, p.few_pairs);
        ids_set = every_passing has_an_id (other_entry k i) has_an_id (λ e h k. h) es p.ids_set;
        ids_differ = distinct_passing id (other_entry k i) es p.ids_differ;
        versions_rise = rising_wider version 0 0 t.version v (passing (other_entry k i) es) (omega arith) (omega arith) (rising_passing version (other_entry k i) 0 t.version es p.versions_rise);
        pairs_rise = pairs_passing (other_member k i) t.memberships p.pairs_rise;
        pairs_present = every_passing (names_present es) (other_member k i) (names_present (passing (other_entry k i) es)) (names_present_left k i es) t.memberships p.pairs_present;
        host_present_law = host_present_left k i es t.host p.host_present_law;
        kinds_known = every_passing has_a_kind (other_entry k i) has_a_kind (λ e h k. h) es p.kinds_known;
        names_valid = every_passing has_a_name (other_entry k i) has_a_name (λ e h k. h) es p.names_valid;
      }

  join_valid : (g q : ℕ) → is_noop_act t (Join g q) ≡ false → ValidTable (change t v (Join g q))
  unfolding change is_noop_act names_present
  join_valid g q nv =
      let es : List Entry = t.entries in
      let ms : List Membership = t.memberships in
      let new : Membership = record { group = g; player = q } in
      let a : Bool = not (present group g es) in
      let b : Bool = not (present player q es) in
      let c : Bool = has_pair g q ms in
      let d : Bool = leb max_memberships (length ms) in
      let bcd : b || (c || d) ≡ false = or_r a (b || (c || d)) nv in
      let cd : c || d ≡ false = or_r b (c || d) bcd in
      record {
        few = p.few;
        few_pairs = omega (arith, leb-false max_memberships (length ms) (or_r c d cd), length_insert before new ms);
        ids_set = p.ids_set;
        ids_differ = p.ids_differ;
        versions_rise = rising_wider version 0 0 t.version v es (omega arith) (omega arith) p.versions_rise;
        pairs_rise = pairs_insert new ms (or_l c d cd) p.pairs_rise;
        pairs_present = every_insert before (names_present es) new ms
            (and_i (present group g es) (present player q es) (not-false (present group g es) (or_l a (b || (c || d)) nv)) (not-false (present player q es) (or_l b (c || d) bcd)))
            p.pairs_present;
        host_present_law = p.host_present_law;
        kinds_known = p.kinds_known;
        names_valid = p.names_valid;
      }

  leave_valid : (g q : ℕ) → ValidTable (change t v (Leave g q))
  unfolding change
  leave_valid g q =
      let es : List Entry = t.entries in
      let ms : List Membership = t.memberships in
      record {
        few = p.few;
        few_pairs = omega (arith, length_passing (other_pair g q) ms, p.few_pairs);
        ids_set = p.ids_set;
        ids_differ = p.ids_differ;
        versions_rise = rising_wider version 0 0 t.version v es (omega arith) (omega arith) p.versions_rise;
        pairs_rise = pairs_passing (other_pair g q) ms p.pairs_rise;
        pairs_present = every_passing (names_present es) (other_pair g q) (names_present es) (λ m h k. h) ms p.pairs_present;
        host_present_law = p.host_present_law;
        kinds_known = p.kinds_known;
        names_valid = p.names_valid;
      }

pub apply_valid : (t : NameTable) (op : Operation) → ValidTable t → t.version < op.version → valid_operation op ≡ true → ValidTable (apply t op)
unfolding apply is_noop valid_operation
apply_valid t op p past ok = go (is_noop t op) refl op.act refl
  where
    v : ℕ
    v = op.version

    go : (b : Bool) → is_noop_act t op.act ≡ b → (a : Act) → op.act ≡ a → ValidTable (cond b (at_version v t) (change t v op.act))
    go true e a q = noop_valid t p v past
    go false e Empty q = rw q (empty_valid t p v past)
    go false e (AddEntry k i o f d n) q = rw q (add_valid t p v past k i o f d n (rw q at e) (rw q at ok))
    go false e (RemoveEntry k i) q = rw q (remove_valid t p v past k i)
    go false e (Join g m) q = rw q (join_valid t p v past g m (rw q at e))
    go false e (Leave g m) q = rw q (leave_valid t p v past g m)
