-- Groups have no part in who hosts: an id is either a player's or a group's, and no group is a candidate.
use mathlib.Core.Path.{◌≡◌, refl, sym, ap, ◌∙◌}
use Prim.Native.Nat.{ℕ}
use mathlib.Core.Bool.{Bool, true, false, cond, not, ◌&&◌, ◌||◌, true≢false}
use mathlib.Core.List.{List, [], ◌∷◌, ◌++◌}
use lib.Dec.{eqb}
use borrow.Author.Tests.{eqb-true, eq-eqb, not-true, not-false}
use Rattle.lists.specs.Lists.{any, passing, distinct}
use Rattle.lists.proofs.ListLaws.{and_l, and_r}
use Rattle.table_rules.specs.Operations.{player, Act, Empty, AddEntry, RemoveEntry, Join, Leave, Operation}
use Rattle.table_rules.specs.NameTable.{Entry, NameTable, is_entry, present, other_entry, added_entry, is_noop_act, is_noop, at_version, change, apply, may_host, candidate, next_host_of}
use Rattle.table_rules.specs.Valid.{ids_distinct, host_present, valid_table}
use Rattle.table_rules.specs.Hosts.{moves_player, OnlyPlayersHost}
use Rattle.table_rules.proofs.KeepsLaws.{ValidTable, table_parts}

-- ---- one id, one kind

abbrev same_id : ℕ → Entry → Bool
same_id i e = eqb e.id i

has_kind : (k i : ℕ) (e : Entry) → is_entry k i e ≡ true → (e.kind ≡ k) × (e.id ≡ i)
unfolding is_entry
has_kind k i e h = (eqb-true e.kind k (and_l (eqb e.kind k) (eqb e.id i) h), eqb-true e.id i (and_r (eqb e.kind k) (eqb e.id i) h))

has_id_law : (k i : ℕ) (es : List Entry) → present k i es ≡ true → any (same_id i) es ≡ true
unfolding present any is_entry
has_id_law k i [] h = h
has_id_law k i (e ∷ es) h = go (eqb e.id i) (eqb e.kind k) (has_id_law k i es) h
  where
    go : (a b : Bool) → (present k i es ≡ true → any (same_id i) es ≡ true) → (b && a) || present k i es ≡ true → a || any (same_id i) es ≡ true
    go true b ih g = refl
    go false true ih g = ih g
    go false false ih g = ih g

one_kind : (k q i : ℕ) (es : List Entry) → ids_distinct es ≡ true → present k i es ≡ true → present q i es ≡ true → k ≡ q
unfolding present any distinct
one_kind k q i [] d a b = absurd (true≢false (sym a))
one_kind k q i (e ∷ es) d a b = go (is_entry k i e) refl (is_entry q i e) refl (one_kind k q i es (and_r (not (any (same_id e.id) es)) (ids_distinct es) d)) a b
  where
    no_other : e.id ≡ i → any (same_id i) es ≡ false
    no_other f = ap (λ (j : ℕ). any (same_id j) es) (sym f) ∙ not-true (any (same_id e.id) es) (and_l (not (any (same_id e.id) es)) (ids_distinct es) d)

    go : (x : Bool) → is_entry k i e ≡ x → (y : Bool) → is_entry q i e ≡ y → (present k i es ≡ true → present q i es ≡ true → k ≡ q)
        → x || present k i es ≡ true → y || present q i es ≡ true → k ≡ q
    go true f true g ih u v = sym (has_kind k i e f).0 ∙ (has_kind q i e g).0
    go true f false g ih u v = absurd (true≢false (sym (has_id_law q i es v) ∙ no_other (has_kind k i e f).1))
    go false f true g ih u v = absurd (true≢false (sym (has_id_law k i es u) ∙ no_other (has_kind q i e g).1))
    go false f false g ih u v = ih u v

-- ---- candidates

module _ (host : ℕ) where
  no_host : (e : Entry) → eqb e.kind player ≡ false → may_host host e ≡ false
  unfolding may_host
  no_host e h = rw h

  candidate_append : (es : List Entry) (e : Entry) → may_host host e ≡ false → candidate host (es ++ (e ∷ [])) ≡ candidate host es
  unfolding candidate
  candidate_append [] e h = rw h
  candidate_append (x ∷ xs) e h = rw (candidate_append xs e h)

  candidate_passing : (u : Entry → Bool) → ((e : Entry) → u e ≡ false → may_host host e ≡ false) → (es : List Entry)
      → candidate host (passing u es) ≡ candidate host es
  unfolding candidate passing
  candidate_passing u f [] = refl
  candidate_passing u f (e ∷ es) = go (u e) refl (candidate_passing u f es)
    where
      go : (b : Bool) → u e ≡ b → candidate host (passing u es) ≡ candidate host es → candidate host (cond b (e ∷ passing u es) (passing u es)) ≡ candidate host (e ∷ es)
      go true g ih = rw ih
      go false g ih = rw (f e g) ih

-- ---- what an act leaves

module _ (t : NameTable) (p : ValidTable t) (v : ℕ) where
  -- a group that is there is not the host
  host_other : (k i : ℕ) → present k i t.entries ≡ true → eqb k player ≡ false → t.host ≡ i → 0 ≡ t.host
  unfolding host_present
  host_other k i h m e = go (eqb t.host 0) refl p.host_present_law
    where
      go : (b : Bool) → eqb t.host 0 ≡ b → b || present player t.host t.entries ≡ true → 0 ≡ t.host
      go true f g = sym (eqb-true t.host 0 f)
      go false f g =
          let same : k ≡ player = one_kind k player i t.entries p.ids_differ h (rw e at g) in
          absurd (true≢false (sym (eq-eqb k player same) ∙ m))

  host_left : (a : Act) → is_noop_act t a ≡ false → moves_player a ≡ false → (change t v a).host ≡ t.host
  unfolding change at_version is_noop_act
  host_left Empty n m = refl
  host_left (AddEntry k i o f d u) n m = refl
  host_left (RemoveEntry k i) n m = go (eqb t.host i) refl
    where
      go : (b : Bool) → eqb t.host i ≡ b → cond b 0 t.host ≡ t.host
      go true e = host_other k i (not-false (present k i t.entries) n) m (eqb-true t.host i e)
      go false e = refl
  host_left (Join g q) n m = refl
  host_left (Leave g q) n m = refl

  -- no player is taken out
  stays : (k i : ℕ) → eqb k player ≡ false → (e : Entry) → other_entry k i e ≡ false → may_host t.host e ≡ false
  unfolding other_entry
  stays k i m e h = no_host t.host e (ap (λ (j : ℕ). eqb j player) (has_kind k i e (not-false (is_entry k i e) h)).0 ∙ m)

  candidates_left : (a : Act) → moves_player a ≡ false → candidate t.host (change t v a).entries ≡ candidate t.host t.entries
  unfolding change at_version
  candidates_left Empty m = refl
  candidates_left (AddEntry k i o f d u) m = candidate_append t.host t.entries (added_entry v k i o f d u) (no_host t.host (added_entry v k i o f d u) m)
  candidates_left (RemoveEntry k i) m = candidate_passing t.host (other_entry k i) (stays k i m) t.entries
  candidates_left (Join g q) m = refl
  candidates_left (Leave g q) m = refl

pub only_players_host : OnlyPlayersHost
unfolding apply is_noop next_host_of at_version
only_players_host = record {
  host_stays = λ t op h m. host t op h m (is_noop t op) refl;
  next_stays = λ t op h m. next t op h m (is_noop t op) refl;
}
  where
    host : (t : NameTable) (op : Operation) → valid_table t ≡ true → moves_player op.act ≡ false → (b : Bool) → is_noop t op ≡ b
        → (cond b (at_version op.version t) (change t op.version op.act)).host ≡ t.host
    host t op h m true e = refl
    host t op h m false e = host_left t (table_parts t h) op.version op.act e m

    next : (t : NameTable) (op : Operation) → valid_table t ≡ true → moves_player op.act ≡ false → (b : Bool) → is_noop t op ≡ b
        → next_host_of (cond b (at_version op.version t) (change t op.version op.act)) ≡ next_host_of t
    next t op h m true e = refl
    next t op h m false e =
        rw (host_left t (table_parts t h) op.version op.act e m, candidates_left t (table_parts t h) op.version op.act m)
