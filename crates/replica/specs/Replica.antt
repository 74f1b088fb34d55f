-- The replica (the paper's station; paper 01, "The station"): what its words hold, and the words of what a replica holds.
use Rattle.std.specs.Prelude.{ℕ, ◌+◌, List, [], length, drop}
use Rattle.table_rules.specs.Operations.{Operation}
use Rattle.table_rules.specs.NameTable.{NameTable}
use Rattle.rows.specs.Rows.{packed}
use Rattle.table_words.specs.Layout.{window_size, entry_room, membership_room, window_at}
use Rattle.table_words.specs.Words.{entry_words, membership_words, join, table_of, window_in, row_of}
use Rattle.table_window.specs.Window.{pending_of, window_of}
use Rattle.lists.specs.Lists.{flat_map}

-- a name table, and the operations that wait for an earlier version, rising by version
pub record Model : Type 0 where
  pub table : NameTable
  pub pending : List Operation

abbrev pub window_part : List ℕ → List ℕ
window_part l = drop window_at l

unfoldable pub view : List ℕ → Model
view l = record { table = table_of l; pending = pending_of (window_in (window_part l)) }

-- the words of a name table and of the operations in the places of its window
unfoldable pub words_of : NameTable → List Operation → List ℕ
words_of t os =
    join t.version t.host (length t.entries) (length t.memberships)
    (packed entry_words entry_room t.entries)
    (packed membership_words membership_room t.memberships)
    (flat_map row_of os)

unfoldable pub pack : Model → List ℕ
pack m = words_of m.table (window_of (m.table.version + 2) window_size m.pending)

-- a name table with nothing pending
abbrev pub at_start : NameTable → Model
at_start t = record { table = t; pending = [] }
