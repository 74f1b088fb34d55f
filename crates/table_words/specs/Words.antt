-- A replica (the paper's station; paper 01, "The station"; paper 02, A3) as a run of words: version, host and the two counts; rows of entries; rows of
-- memberships; rows of pending operations. Unused words are zero.
use Rattle.std.specs.Prelude.{ℕ, List, [], ◌∷◌, ◌++◌, map, take, drop, get_or, replicate}
use Rattle.table_rules.specs.declared.Membership.{Membership}
use Rattle.table_rules.specs.Operations.{Operation, number_count, act_numbers, act_name, act_said}
use Rattle.table_rules.specs.NameTable.{Entry, NameTable}
use Rattle.names.specs.Words.{name_words, name_of}
use Rattle.rows.specs.Rows.{places}
use Rattle.table_words.specs.Layout.{entry_numbers, entry_width, membership_width, operation_width, window_size}
use Rattle.table_words.specs.Layout.{entry_room, membership_room, entries_at, memberships_at, word_count}

-- version 0 and nothing in it
unfoldable pub fresh_words : List ℕ
fresh_words = replicate word_count 0

abbrev pub version_of : List ℕ → ℕ
version_of l = get_or l 0 0

abbrev pub host_of : List ℕ → ℕ
host_of l = get_or l 1 0

abbrev pub entry_count : List ℕ → ℕ
entry_count l = get_or l 2 0

abbrev pub membership_count : List ℕ → ℕ
membership_count l = get_or l 3 0

-- what a row says, and the row of what is said
abbrev pub entry_of : List ℕ → Entry
entry_of r = record {
  kind = get_or r 0 0;
  id = get_or r 1 0;
  owner = get_or r 2 0;
  flags = get_or r 3 0;
  version = get_or r 4 0;
  dnet = get_or r 5 0;
  name = name_of (drop entry_numbers r);
}

abbrev pub entry_words : Entry → List ℕ
entry_words e = e.kind ∷ e.id ∷ e.owner ∷ e.flags ∷ e.version ∷ e.dnet ∷ name_words e.name

abbrev pub membership_of : List ℕ → Membership
membership_of r = record { group = get_or r 0 0; player = get_or r 1 0 }

abbrev pub membership_words : Membership → List ℕ
membership_words m = m.group ∷ m.player ∷ []

-- the row of an operation that adds an entry is, but for its first word, the row of that entry
unfoldable pub of_row : List ℕ → Operation
of_row r = record { version = get_or r 5 0; act = act_said r (name_of (drop number_count r)) }

unfoldable pub row_of : Operation → List ℕ
row_of o = act_numbers o.version o.act ++ name_words (act_name o.act)

-- the four parts
abbrev pub join : ℕ → ℕ → ℕ → ℕ → List ℕ → List ℕ → List ℕ → List ℕ
join v h n m es ms rest = v ∷ h ∷ n ∷ m ∷ (es ++ (ms ++ rest))

abbrev pub entry_part : List ℕ → List ℕ
entry_part l = take entry_room (drop entries_at l)

abbrev pub membership_part : List ℕ → List ℕ
membership_part l = take membership_room (drop memberships_at l)

abbrev pub entries_in : ℕ → List ℕ → List Entry
entries_in n p = map entry_of (places entry_width n p)

abbrev pub memberships_in : ℕ → List ℕ → List Membership
memberships_in m p = map membership_of (places membership_width m p)

-- the name table that the words hold
unfoldable pub table_of : List ℕ → NameTable
table_of l = record {
  version = version_of l;
  host = host_of l;
  entries = entries_in (entry_count l) (entry_part l);
  memberships = memberships_in (membership_count l) (membership_part l);
}

-- the operations in the places of the window
abbrev pub window_in : List ℕ → List Operation
window_in s = map of_row (places operation_width window_size s)
