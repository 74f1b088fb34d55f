-- Where a replica's parts stand in its words. All widths, places and limits in words have their one home here and in the papers' limits.
use Rattle.std.specs.Prelude.{ℕ, ◌+◌, ◌*◌}
use Rattle.names.specs.Words.{name_width}
use Rattle.table_rules.specs.Operations.{number_count}
use Rattle.table_rules.specs.NameTable.{max_entries, max_memberships}

-- words in the row of an entry, of a membership, of an operation: numbers, and behind them a name
abbrev pub entry_numbers : ℕ
entry_numbers = 6

abbrev pub entry_width : ℕ
entry_width = entry_numbers + name_width

abbrev pub membership_width : ℕ
membership_width = 2

abbrev pub operation_width : ℕ
operation_width = number_count + name_width

-- places for pending operations: one for each version from the replica's + 2 to its + 32
abbrev pub window_size : ℕ
window_size = 31

-- words of each part
abbrev pub entry_room : ℕ
entry_room = entry_width * max_entries

abbrev pub membership_room : ℕ
membership_room = membership_width * max_memberships

abbrev pub window_room : ℕ
window_room = operation_width * window_size

-- version, host and the two counts come first
abbrev pub entries_at : ℕ
entries_at = 4

abbrev pub memberships_at : ℕ
memberships_at = entries_at + entry_room

abbrev pub window_at : ℕ
window_at = memberships_at + membership_room

abbrev pub word_count : ℕ
word_count = window_at + window_room
