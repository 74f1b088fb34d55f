-- The numbers of bytes fit 32 bits: those of a message that was read, and those of a table that a snapshot states.
use mathlib.Core.Path.{◌≡◌}
use Prim.Native.Nat.{ℕ, zero, suc, ◌+◌, ◌<◌, ◌^◌}
use native.Mathlib.Omega.{arith}
use mathlib.Core.Bool.{Bool, true, false, cond}
use mathlib.Core.List.{List, [], ◌∷◌}
use mathlib.Core.Option.{Option, none, some}
use lib.Dec.{leb, lit<}
use Rattle.lists.specs.Lists.{All}
use Rattle.byte_words.specs.Bytes.{little, IsByte, AllBytes, word_at}
use Rattle.byte_words.specs.declared.Order.TheVariants.{Big}
use Rattle.byte_words.proofs.ByteLaws.{word_bound}
use Rattle.lists.proofs.ListLaws.{all_get_d}
use Rattle.refusal.proofs.CheckLaws.{each_passed}
use Rattle.operations.proofs.ReceivedLaws.{by_reading}
use Rattle.wire_field.specs.Words.{word}
use Rattle.wire_layout.specs.Layout.{first, second, third}
use Rattle.wire_entry.specs.Entry.{entry_at, entry_not_used}
use Rattle.wire_read.specs.Values.{membership_change_of}
use Rattle.std.specs.Prelude.{Ok, Err}
use Rattle.wire_read.specs.Read.{Reading, reading_of}
use Rattle.table_rules.specs.NameTable.{Entry, NameTable, may_host, smaller, candidate, id_of, next_host_of}
use Rattle.table_rules.specs.Valid.{table_no}
use Rattle.names.specs.Inner.{NameFits}
use Rattle.snapshot_bytes.specs.Items.{walk}
use Rattle.snapshot_bytes.specs.Snapshot.{version_at, host_at, entry_count_at, membership_count_at, head_size, byte_of, entry_item_at, next_entry, entries_from, entries_end, membership_item_at, next_membership, stated_table}
use Rattle.snapshot_bytes.specs.Snapshot.{head_no, sizes_no, snapshot_no}
use Rattle.snapshot_bytes.proofs.StatedLaws.{stated_names}
use Rattle.snapshot_bytes.specs.SnapshotLaws.{EntryFits, MembershipFits, TableFits}
use Rattle.show_told.proofs.TellLaws.{BlockFits, ChangeFits, NumbersFit}

-- ---- a message that was read

abbrev pub ReadFits : Reading → Type 0
ReadFits (Err why) = Unit {0}
ReadFits (Ok read) = NumbersFit read.message

pub reading_fits : (m : List ℕ) → AllBytes m → ReadFits (reading_of m)
unfolding entry_at
reading_fits m b =
    let at : (p : ℕ) → word m p < 256 ^ 4 = word_bound little m b in
    let entry : (p : ℕ) → BlockFits (entry_at m p) (entry_not_used m p) = λ p. (at p, at (p + 4), at (p + 8), at (p + 12), at (p + 16), at (p + 20)) in
    let change : ChangeFits (membership_change_of m) = (at first, at second, at third) in
    by_reading ReadFits m (λ why. tt) (
      λ e. tt,
      (
        λ e. entry first,
        (
          λ e. (at first, at second),
          (λ e. tt, (λ e. (entry third, at first, at second), (λ e. (at first, at second), (λ e. change, (λ e. change, tt))))),
        ),
      ),
    )

-- ---- a table that a snapshot states

module _ (s : List ℕ) (b : AllBytes s) where
  abbrev big : (p : ℕ) → word_at Big s p < 256 ^ 4
  big p = word_bound Big s b p

  entries_fit : (p n : ℕ) → All (λ e. NameFits e.name) (entries_from s p n) → All EntryFits (entries_from s p n)
  unfolding entry_item_at
  entries_fit p zero f = tt
  entries_fit p (suc n) f = (
    record {
      kind = all_get_d IsByte s p 0 b (lit< tt);
      id = big (p + 1);
      owner = big (p + 5);
      flags = big (p + 9);
      version = big (p + 13);
      dnet = big (p + 17);
      name_size_law = omega (arith, f.0.short);
      name = f.0.units;
    },
    entries_fit (next_entry s p) n f.1,
  )

  memberships_fit : (p n : ℕ) → All MembershipFits (walk (membership_item_at s) (next_membership s) p n)
  unfolding membership_item_at
  memberships_fit p zero = tt
  memberships_fit p (suc n) = (record { group = big p; player = big (p + 4) }, memberships_fit (next_membership s p) n)

  -- of a snapshot that is accepted
  pub stated_fits : snapshot_no s ≡ 0 → TableFits (stated_table s)
  unfolding stated_table snapshot_no
  stated_fits z =
      let named = stated_names s b (each_passed (head_no s ∷ sizes_no s ∷ table_no (stated_table s) ∷ []) 1 z) in record {
        version = big version_at;
        host = big host_at;
        entries = entries_fit head_size (byte_of s entry_count_at) named;
        memberships = memberships_fit (entries_end s) (byte_of s membership_count_at);
      }

-- ---- the next host

abbrev IdFits : Option Entry → Type 0
IdFits none = Unit {0}
IdFits (some e) = e.id < 256 ^ 4

id_by : (t : Bool) (x y : Option Entry) → IdFits x → IdFits y → IdFits (cond t x y)
id_by true x y f g = f
id_by false x y f g = g

smaller_fits : (e : Entry) (o : Option Entry) → e.id < 256 ^ 4 → IdFits o → IdFits (smaller e o)
unfolding smaller
smaller_fits e none f g = f
smaller_fits e (some d) f g = id_by (leb e.version d.version) (some e) (some d) f g

candidate_fits : (host : ℕ) (es : List Entry) → All EntryFits es → IdFits (candidate host es)
unfolding candidate
candidate_fits host [] f = tt
candidate_fits host (e ∷ es) f =
    let g = candidate_fits host es f.1 in
    id_by (may_host host e) (smaller e (candidate host es)) (candidate host es) (smaller_fits e (candidate host es) f.0.id g) g

id_small : (o : Option Entry) → IdFits o → id_of o < 256 ^ 4
unfolding id_of
id_small none f = omega arith
id_small (some e) f = f

pub next_small : (t : NameTable) → TableFits t → next_host_of t < 256 ^ 4
unfolding next_host_of
next_small t f = id_small (candidate t.host t.entries) (candidate_fits t.host t.entries f.entries)
