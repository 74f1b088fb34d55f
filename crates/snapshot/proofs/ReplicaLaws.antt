-- The snapshots of valid replicas: words of 32 bits fit the bytes that a snapshot has for them.
use mathlib.Core.Path.{◌≡◌, refl, ap}
use Prim.Native.Nat.{ℕ, zero, suc, ◌*◌, ◌<◌, ◌^◌}
use native.Mathlib.Omega.{arith}
use mathlib.Core.Bool.{Bool, true, false, ◌||◌}
use mathlib.Core.List.{List}
use lib.ListN.{length, drop, get_or}
use lib.Dec.{eqb, leb, lit<}
use borrow.Author.Tests.{eqb-true, leb-true}
use Rattle.lists.specs.Lists.{All, every}
use Rattle.lists.proofs.ListLaws.{and_l, all_take, all_drop, all_get_d, every_head, every_tail}
use Rattle.byte_words.specs.Bytes.{IsWord, AllWords}
use Rattle.rows.specs.Rows.{places}
use Rattle.table_rules.specs.Operations.{player, group}
use Rattle.names.specs.Names.{max_name, is_name_unit, valid_name}
use Rattle.names.proofs.NameLaws.{name_fits}
use Rattle.table_rules.specs.Valid.{has_a_kind, has_a_name}
use Rattle.table_rules.proofs.KeepsLaws.{table_parts}
use Rattle.table_words.specs.Layout.{entry_numbers, entry_width, membership_width, entry_room, membership_room, entries_at, memberships_at}
use Rattle.table_words.specs.Words.{entry_count, membership_count, entry_part, membership_part, entry_of, entries_in, memberships_in, table_of}
use Rattle.replica.specs.Valid.{valid_of}
use Rattle.replica.proofs.ValidLaws.{valid_parts}
use Rattle.snapshot_bytes.specs.Snapshot.{snapshot_of}
use Rattle.snapshot_bytes.specs.SnapshotLaws.{EntryFits, MembershipFits, TableFits}
use Rattle.snapshot_bytes.proofs.SnapshotProofs.{snapshots}
use Rattle.snapshot.specs.Saved.{loaded_of}
use Rattle.snapshot.specs.Replicas.{ReplicaSnapshots}

word_at : (l : List ℕ) (i : ℕ) → AllWords l → get_or l i 0 < 256 ^ 4
word_at l i h = all_get_d IsWord l i 0 h (lit< tt)

-- a kind of an entry is a byte
kind_fits : (k : ℕ) → eqb k player || eqb k group ≡ true → k < 256
kind_fits k = go (eqb k player) refl
  where
    go : (b : Bool) → eqb k player ≡ b → b || eqb k group ≡ true → k < 256
    go true e h = omega (arith, eqb-true k player e)
    go false e h = omega (arith, eqb-true k group h)

-- the length of a valid name in bytes is a byte
name_short : (us : List ℕ) → valid_name us ≡ true → 2 * length us < 256
unfolding valid_name
name_short us h = omega (arith, leb-true (length us) max_name (and_l (leb (length us) max_name) (every is_name_unit us) h))

entries_fit : (n : ℕ) (p : List ℕ) → AllWords p → every has_a_kind (entries_in n p) ≡ true → every has_a_name (entries_in n p) ≡ true → All EntryFits (entries_in n p)
unfolding places has_a_kind has_a_name
entries_fit zero p h k m = tt
entries_fit (suc n) p h k m = (
  record {
    kind = kind_fits (get_or p 0 0) (every_head has_a_kind (entry_of p) (entries_in n (drop entry_width p)) k);
    id = word_at p 1 h;
    owner = word_at p 2 h;
    flags = word_at p 3 h;
    version = word_at p 4 h;
    dnet = word_at p 5 h;
    name_size_law = name_short (entry_of p).name (every_head has_a_name (entry_of p) (entries_in n (drop entry_width p)) m);
    name = (name_fits (drop entry_numbers p)).units;
  },
  entries_fit n (drop entry_width p) (all_drop IsWord entry_width p h) (every_tail has_a_kind (entry_of p) (entries_in n (drop entry_width p)) k)
      (every_tail has_a_name (entry_of p) (entries_in n (drop entry_width p)) m),
)

memberships_fit : (n : ℕ) (p : List ℕ) → AllWords p → All MembershipFits (memberships_in n p)
unfolding places
memberships_fit zero p h = tt
memberships_fit (suc n) p h =
    (record { group = word_at p 0 h; player = word_at p 1 h }, memberships_fit n (drop membership_width p) (all_drop IsWord membership_width p h))

fits : (l : List ℕ) → AllWords l → valid_of l ≡ true → TableFits (table_of l)
unfolding table_of
fits l h v = let parts = table_parts (table_of l) (valid_parts l v).table in record {
  version = word_at l 0 h;
  host = word_at l 1 h;
  entries = entries_fit (entry_count l) (entry_part l) (all_take IsWord entry_room (drop entries_at l) (all_drop IsWord entries_at l h)) parts.kinds_known parts.names_valid;
  memberships = memberships_fit (membership_count l) (membership_part l) (all_take IsWord membership_room (drop memberships_at l) (all_drop IsWord memberships_at l h));
}

pub replica_snapshots : ReplicaSnapshots
unfolding loaded_of
replica_snapshots = record {
  same_table = λ l k f g v w e. snapshots.same_table (table_of l) (table_of k) (fits l f v) (fits k g w) e;
  same_bytes = λ l k e. ap snapshot_of e;
  read_back = λ l f v. rw (snapshots.back_accepted (table_of l) (valid_parts l v).table (fits l f v), snapshots.back_stated (table_of l) (fits l f v));
}
