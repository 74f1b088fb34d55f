-- An id that stands twice in a snapshot (paper 02, A4; paper 01, number 24): what the test of the bytes says, and that it is what the paper asks for.
use Rattle.std.specs.Prelude.{◌≡◌, ℕ, ◌<◌, Bool, true, not, List}
use Rattle.table_rules.specs.Valid.{ids_distinct}
use Rattle.snapshot_bytes.specs.Items.{after}
use Rattle.snapshot_bytes.specs.Snapshot.{entry_count_at, head_size, byte_of, entry_item_at, next_entry, stated_table, head_no, snapshot_no}

-- the ids of the entries that the bytes state are not distinct
unfoldable pub repeats_id : List ℕ → Bool
repeats_id s = not (ids_distinct (stated_table s).entries)

-- the id of entry i, counted from 0: each entry starts where the one before it ends, in both formats
abbrev pub id_at : List ℕ → ℕ → ℕ
id_at s i = (entry_item_at s (after (next_entry s) head_size i)).id

-- two entries that have one id
pub record OneIdTwice (s : List ℕ) : Type 0 where
  pub first : ℕ
  pub second : ℕ
  pub apart : first < second
  pub within : second < byte_of s entry_count_at
  pub one_id : id_at s first ≡ id_at s second

pub record RepeatedIds : Type 0 where
  -- yes exactly if two entries have one id: of a snapshot that passes 21 to 23, and of any other bytes too
  pub told : (s : List ℕ) → repeats_id s ≡ true → OneIdTwice s
  pub found : (s : List ℕ) → OneIdTwice s → repeats_id s ≡ true
  -- one that passes 21 to 23 is then refused with 24
  pub refused : (s : List ℕ) → head_no s ≡ 0 → repeats_id s ≡ true → snapshot_no s ≡ 24
