-- `load` meets its contract: entries and memberships in their rows, then the four words in front.
use mathlib.Core.Path.{◌≡◌, ap, sym, ◌∙◌}
use Prim.Native.Nat.{ℕ, ◌≤◌}
use native.Mathlib.Omega.{arith}
use lib.ListN.{length, length-set}
use Rattle.table_rules.specs.NameTable.{max_entries, max_memberships}
use Rattle.rows.proofs.MoveLaws.{lent}
use Rattle.table_words.specs.Layout.{entry_room, entries_at}
use Rattle.table_words.specs.Words.{entry_words, membership_words, entry_part, membership_part}
use Rattle.replica.proofs.ValidLaws.{entries_long}
use Rattle.snapshot_bytes.specs.Items.{after}
use Rattle.snapshot_bytes.specs.Inner.{onto}
use Rattle.snapshot_bytes.specs.Snapshot.{entry_count_at, head_size, byte_of, next_entry, entries_from, memberships_from, entries_end, stated_table}
use Rattle.snapshot_bytes.proofs.StatedLaws.{all_bytes}
use Rattle.snapshot_bytes.proofs.SnapshotProofs.{stated_entries, stated_memberships, stated_few, stated_few_pairs}
use Rattle.snapshot.proofs.LoadLaws.{stated_fits, stated_sizes, stated_end, load_into, lent_long}
use Rattle.lists.specs.Lists.{flat_map}
use borrow.Author.Rules.{rules}
use Rattle.snapshot.proofs.load.Goals as goal

pub load_entries-at-requires : goal.load_entries-at-requires
load_entries-at-requires c =
    let s = c.args.s.now in
    let wn = c.from.ensures ∙ c.byte-n.ensures in
    let k : c.from.result ≤ max_entries = rw wn (stated_few s c.requires.2) in record {
      count_in_bounds = (omega (arith, k, entries_long c.args.w.now c.requires.0), omega (arith, k));
      count_value = rw wn (stated_sizes s c.requires.3, stated_end s c.requires.2);
    }

pub load_memberships-requires : goal.load_memberships-requires
load_memberships-requires c =
    let l = c.args.w.now in let s = c.args.s.now in
    let e = c.load_entries-at in
    let k : c.from-2.result ≤ max_memberships = rw (c.from-2.ensures ∙ c.byte-m.ensures) (stated_few_pairs s c.requires.2) in
    let n : c.from.result ≤ max_entries = rw (c.from.ensures ∙ c.byte-n.ensures) (stated_few s c.requires.2) in
    let lz : length e.new.w ≡ length (entry_part l) = search rules in
    (omega (arith, k, lent_long l e.new.w c.requires.0 lz), omega (arith, k, n, e.ensures.place.1))

pub bounds-w-1 : goal.bounds-w-1
bounds-w-1 c = simp length-set (search rules)

pub bounds-w-2 : goal.bounds-w-2
bounds-w-2 c = simp length-set (search rules)

pub bounds-w-3 : goal.bounds-w-3
bounds-w-3 c = simp length-set (search rules)

pub shape_of-w : goal.shape_of-w
shape_of-w c = simp length-set (search rules)

pub returns : goal.returns
unfolding stated_table entries_end
returns c =
    let l = c.args.w.now in
    let s = c.args.s.now in
    let e = c.load_entries-at in
    let p = c.load_memberships in
    let k = c.from-2.result in
    let n = c.byte-n.ensures in
    let m = c.byte-m.ensures in
    let wn : c.from.result ≡ byte_of s entry_count_at = c.from.ensures ∙ n in
    let q : e.result ≡ entries_end s = e.ensures.place.0 ∙ ap (after (next_entry s) head_size) wn in
    let b = all_bytes s (λ i. omega (arith, c.shared_slice_known-1.given i)) in
    load_into l e.new.w p.new.w c.be32-version.result c.be32-host.result c.from-3.result c.from-4.result (stated_table s)
    c.requires.1 (stated_fits s c.requires.2 b c.requires.3) c.be32-version.ensures c.be32-host.ensures
    (c.from-3.ensures ∙ n ∙ sym (stated_entries s))
    (c.from-4.ensures ∙ m ∙ sym (stated_memberships s))
    (e.ensures.rows ∙ ap (λ (i : ℕ). onto (entry_part l) (flat_map entry_words (entries_from s head_size i))) wn)
    (p.ensures
    ∙ ap (λ (i : ℕ). onto (membership_part (lent entries_at entry_room l e.new.w)) (flat_map membership_words (memberships_from s i k))) q
    ∙ ap (λ (i : ℕ). onto (membership_part (lent entries_at entry_room l e.new.w)) (flat_map membership_words (memberships_from s (entries_end s) i))) (c.from-2.ensures ∙ m))
