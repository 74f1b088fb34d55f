-- The rule for adding as paper 01 had it ("The station") until paper 02, A6: a no-op as well where an entry has the operation's version.
-- It is here for the statements of this crate alone.
use Rattle.std.specs.Prelude.{ℕ, Bool, true, false, ◌&&◌, ◌||◌, List, eqb}
use Rattle.lists.specs.Lists.{any}
use Rattle.table_rules.specs.Operations.{Act, Empty, AddEntry, RemoveEntry, Join, Leave, Operation}
use Rattle.table_rules.specs.NameTable.{Entry, NameTable, is_noop}

-- an entry has that version
unfoldable pub has_version : ℕ → List Entry → Bool
has_version v es = any (λ e. eqb e.version v) es

-- the act adds an entry, a player or a group
abbrev pub adds_entry : Act → Bool
adds_entry Empty = false
adds_entry (AddEntry k i o f d n) = true
adds_entry (RemoveEntry k i) = false
adds_entry (Join g p) = false
adds_entry (Leave g p) = false

-- a no-op by the rule in force; or an entry is added, and its version stands in another already
unfoldable pub old_noop : NameTable → Operation → Bool
old_noop t op = is_noop t op || (adds_entry op.act && has_version op.version t.entries)
