-- What callers see of a replica's words: any words, any place.
use Rattle.std.specs.Prelude.{◌≡◌, ℕ, ◌+◌, ◌*◌, ◌≤◌, ◌<◌, cond, List, [], length, drop, get_or, eqb, ltb}
use Rattle.lists.specs.Lists.{flat_map}
use Rattle.names.specs.Words.{name_of}
use Rattle.table_rules.specs.declared.Membership.{Membership}
use Rattle.table_rules.specs.Operations.{Operation, no_operation, number_count, act_numbers, act_name}
use Rattle.table_rules.specs.NameTable.{Entry, max_entries, max_memberships}
use Rattle.table_words.specs.Layout.{entry_numbers, entry_width, membership_width, operation_width, window_size, entries_at, memberships_at, window_at, word_count}
use Rattle.table_words.specs.Words.{entry_count, membership_count, entry_of, membership_of, row_of, table_of, window_in}
use Rattle.table_views.specs.declared.EntryValues.{EntryValues}
use Rattle.table_views.specs.declared.OperationValues.{OperationValues}

-- what stands from row i on, of n rows from a place on; no words past the last row
abbrev pub row_at : ℕ → ℕ → ℕ → List ℕ → ℕ → List ℕ
row_at first width n l i = cond (ltb i n) (drop (first + width * i) l) []

-- the name behind the numbers of row i; none past the last row, and none of words that are not a replica's in number
abbrev pub name_at : ℕ → ℕ → ℕ → ℕ → List ℕ → ℕ → List ℕ
name_at first width numbers n l i = cond (eqb (length l) word_count) (name_of (drop numbers (row_at first width n l i))) []

-- an entry without its name
abbrev pub entry_shown : Entry → EntryValues
entry_shown e = record { kind = e.kind; id = e.id; owner = e.owner; flags = e.flags; version = e.version; dnet = e.dnet }

-- the numbers of an operation
abbrev pub numbers_shown : List ℕ → OperationValues
numbers_shown r = record {
  act = get_or r 0 0;
  kind = get_or r 1 0;
  id = get_or r 2 0;
  owner = get_or r 3 0;
  flags = get_or r 4 0;
  version = get_or r 5 0;
  dnet = get_or r 6 0;
}

-- entry i and its name, membership i; zeros past the last row and past the end of the words
unfoldable pub nth_entry : List ℕ → ℕ → Entry
nth_entry l i = entry_of (row_at entries_at entry_width max_entries l i)

unfoldable pub nth_name : List ℕ → ℕ → List ℕ
nth_name l i = name_at entries_at entry_width entry_numbers max_entries l i

unfoldable pub nth_membership : List ℕ → ℕ → Membership
nth_membership l i = membership_of (row_at memberships_at membership_width max_memberships l i)

-- the numbers and the name of the pending operation of place k, as they stand
unfoldable pub numbers_at : List ℕ → ℕ → OperationValues
numbers_at l k = numbers_shown (row_at window_at operation_width window_size l k)

unfoldable pub pending_name : List ℕ → ℕ → List ℕ
pending_name l k = name_at window_at operation_width number_count window_size l k

-- the pending operation of place k
abbrev pub pending_at : List ℕ → ℕ → Operation
pending_at l k = get_or (window_in (drop window_at l)) k no_operation

-- the words are a replica's in number, and each row of the window is the very row of its operation: valid words are such words
pub record ExactWindow (l : List ℕ) : Type 0 where
  pub long : length l ≡ word_count
  pub rows : drop window_at l ≡ flat_map row_of (window_in (drop window_at l))

-- the statement: what is shown of a place in use is what the words hold there
pub record ViewsAgree (l : List ℕ) (i : ℕ) : Type 0 where
  pub entries : i < entry_count l → entry_count l ≤ max_entries → nth_entry l i ≡ get_or (table_of l).entries i (entry_of [])
  pub names : length l ≡ word_count → i < entry_count l → entry_count l ≤ max_entries → nth_name l i ≡ (get_or (table_of l).entries i (entry_of [])).name
  pub memberships : i < membership_count l → membership_count l ≤ max_memberships → nth_membership l i ≡ get_or (table_of l).memberships i (membership_of [])
  pub pending : i < window_size → ExactWindow l → numbers_at l i ≡ numbers_shown (act_numbers (pending_at l i).version (pending_at l i).act)
  pub pending_names : i < window_size → ExactWindow l → pending_name l i ≡ act_name (pending_at l i).act
