-- Laws of writing a replica's snapshot: one for each way out, each with the answer and the buffer.
use mathlib.Core.Path.{◌≡◌, refl, ap, sym, ◌∙◌}
use Prim.Native.Nat.{ℕ, ◌+◌, ◌≤◌, ◌<◌}
use mathlib.Core.Bool.{true, false}
use mathlib.Core.List.{List}
use lib.ListN.{length}
use borrow.Author.Tests.{lt-ltb, le-ltb}
use Rattle.std.specs.Prelude.{Result, Ok}
use Rattle.refusal.specs.declared.Refusal.{Refusal}
use Rattle.refusal.specs.Numbers.{refused}
use Rattle.byte_words.specs.Bytes.{put}
use Rattle.table_words.specs.Words.{version_of, host_of, entry_count, membership_count, entry_part, membership_part, entries_in, memberships_in, table_of}
use Rattle.table_words.specs.Inner.{Packed}
use Rattle.table_words.proofs.PartLaws.{entry_count_law, membership_count_law}
use Rattle.replica.specs.Valid.{valid_of}
use Rattle.replica.proofs.ValidLaws.{valid_parts, valid_packed}
use Rattle.snapshot_bytes.specs.Snapshot.{head_size, size_after, name_units, table_size, entry_bytes, membership_bytes, head_of, snapshot_of}
use Rattle.snapshot_bytes.proofs.PutLaws.{head_for, length_snapshot, snapshot_put}
use Rattle.snapshot_bytes.proofs.SnapshotProofs.{snapshots}
use Rattle.snapshot.specs.Saved.{save_no, saved_of, saved_buffer}
use Rattle.lists.specs.Lists.{flat_map}

-- the answer a, with the buffer left at e
abbrev pub Outcome : List ℕ → List ℕ → Result ℕ Refusal → List ℕ → Type 0
Outcome l d a e = (a ≡ saved_of l (length d)) × (e ≡ saved_buffer l d)

-- N + 4
pub saved_length : (l : List ℕ) → length (snapshot_of (table_of l)) ≡ table_size (table_of l) + 4
saved_length l = snapshots.long (table_of l)

-- N by the counts and the units of the names
pub size_is : (l : List ℕ) (n u m : ℕ) → n ≡ entry_count l → u ≡ name_units (entries_in n (entry_part l)) → m ≡ membership_count l → size_after n u m ≡ table_size (table_of l)
unfolding table_size table_of
size_is l n u m en eu em =
    let e : length (entries_in (entry_count l) (entry_part l)) ≡ entry_count l = entry_count_law l in
    let f : length (memberships_in (membership_count l) (membership_part l)) ≡ membership_count l = membership_count_law l in
    let g : u ≡ name_units (entries_in (entry_count l) (entry_part l)) = eu ∙ ap (λ (k : ℕ). name_units (entries_in k (entry_part l))) en in
    rw (e, f, en, em, g)

pub ready : (l : List ℕ) → valid_of l ≡ true → Packed l
ready l v = valid_packed l (valid_parts l v)

module _ (l d : List ℕ) where
  abbrev pub saved : List ℕ
  saved = snapshot_of (table_of l)

  pub invalid_28 : valid_of l ≡ false → Outcome l d (refused 28) d
  unfolding saved_of saved_buffer save_no
  invalid_28 v = (rw v, rw v)

  module _ (v : valid_of l ≡ true) where
    pub short_27 : length d < length saved → Outcome l d (refused 27) d
    unfolding saved_of saved_buffer save_no
    short_27 h = (rw (v, lt-ltb (length d) (length saved) h), rw (v, lt-ltb (length d) (length saved) h))

    pub written : length saved ≤ length d → Outcome l d (Ok (length saved)) (put d 0 saved)
    unfolding saved_of saved_buffer save_no
    written h = (rw (v, le-ltb (length d) (length saved) h), rw (v, le-ltb (length d) (length saved) h))

-- head, entries and memberships, written one after another
module _ (l : List ℕ) where
  abbrev E : List ℕ
  E = flat_map entry_bytes (entries_in (entry_count l) (entry_part l))

  abbrev M : List ℕ
  M = flat_map membership_bytes (memberships_in (membership_count l) (membership_part l))

  same_entries : E ≡ flat_map entry_bytes (table_of l).entries
  unfolding table_of
  same_entries = refl

  same_memberships : M ≡ flat_map membership_bytes (table_of l).memberships
  unfolding table_of
  same_memberships = refl

  pub whole_room : head_size + length E + length M ≡ length (snapshot_of (table_of l))
  whole_room = rw (same_entries, same_memberships) (sym (length_snapshot (table_of l)))

  -- the counts as bytes and as words are those of the table
  pub table_put : (d d1 d2 d3 : List ℕ) (size a b q : ℕ) → size ≡ table_size (table_of l) → a ≡ entry_count l → b ≡ membership_count l → length (snapshot_of (table_of l)) ≤ length d
      → d1 ≡ put d 0 (head_of size (version_of l) (host_of l) a b) → q ≡ head_size + length E → d2 ≡ put d1 head_size E → d3 ≡ put d2 q M
      → d3 ≡ put d 0 (snapshot_of (table_of l))
  unfolding table_of
  table_put d d1 d2 d3 size a b q es ea eb r e1 eq e2 e3 =
      let h : d1 ≡ put d 0 (head_for (table_of l)) =
      e1 ∙ ap (λ (x : ℕ). put d 0 (head_of x (version_of l) (host_of l) a b)) es
      ∙ ap (λ (x : ℕ). put d 0 (head_of (table_size (table_of l)) (version_of l) (host_of l) x b)) (ea ∙ sym (entry_count_law l))
      ∙ ap (λ (x : ℕ). put d 0 (head_of (table_size (table_of l)) (version_of l) (host_of l) (length (table_of l).entries) x)) (eb ∙ sym (membership_count_law l)) in
      e3
      ∙ ap (λ (y : List ℕ). put y q M) e2
      ∙ ap (λ (y : List ℕ). put (put y head_size E) q M) h
      ∙ snapshot_put d (table_of l) E M head_size q same_entries same_memberships refl eq r
