-- What only inner functions and proofs need. No public contract cites it.
use Rattle.std.specs.Prelude.{◌≡◌, ℕ, ◌≤◌, Bool, List, length, drop}
use Rattle.table_rules.specs.Operations.{Operation, AddEntry, act_name}
use Rattle.table_rules.specs.NameTable.{Entry, NameTable, max_entries, max_memberships}
use Rattle.names.specs.Inner.{holds_name, NameFits}
use Rattle.rows.specs.Rows.{packed}
use Rattle.table_words.specs.Layout.{entry_numbers, entry_room, membership_room, window_at, word_count}
use Rattle.table_words.specs.Words.{entries_in, entry_count, entry_part, entry_words, join, membership_count, membership_part, membership_words, memberships_in}

-- the words with another name table, and the window as it is
unfoldable pub with_table : NameTable → List ℕ → List ℕ
with_table t l =
    join t.version t.host (length t.entries) (length t.memberships)
    (packed entry_words entry_room t.entries)
    (packed membership_words membership_room t.memberships)
    (drop window_at l)

-- there are all words, the counts are within the places, and the unused words of entries and memberships are zero
pub record Packed (l : List ℕ) : Type 0 where
  pub long : length l ≡ word_count
  pub entries_fit : entry_count l ≤ max_entries
  pub memberships_fit : membership_count l ≤ max_memberships
  pub entries_same : entry_part l ≡ packed entry_words entry_room (entries_in (entry_count l) (entry_part l))
  pub memberships_same : membership_part l ≡ packed membership_words membership_room (memberships_in (membership_count l) (membership_part l))

-- the names of an entry and of an operation can be held; those that words hold always can
abbrev pub EntryFits : Entry → Type 0
EntryFits e = NameFits e.name

abbrev pub OperationFits : Operation → Type 0
OperationFits o = NameFits (act_name o.act)

-- the operation that adds an entry
abbrev pub adding : Entry → Operation
adding e = record { version = e.version; act = AddEntry e.kind e.id e.owner e.flags e.dnet e.name }

-- behind the numbers of an entry's row stand the very words of a valid name
abbrev pub row_named : List ℕ → Bool
row_named r = holds_name (drop entry_numbers r)
