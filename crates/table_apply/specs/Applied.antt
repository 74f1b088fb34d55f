-- What applying an operation leaves of a replica's words (paper 01, "The station").
use Rattle.std.specs.Prelude.{◌≡◌, ℕ, Bool, cond, not, List, eqb}
use Rattle.lists.specs.Lists.{passing}
use Rattle.table_rules.specs.Operations.{player, Operation}
use Rattle.table_rules.specs.declared.Membership.{Membership}
use Rattle.table_rules.specs.NameTable.{NameTable, is_noop, change, apply, other_entry}
use Rattle.rows.specs.Rows.{words_are}
use Rattle.table_words.specs.Words.{table_of, membership_words}
use Rattle.table_words.specs.Inner.{with_table}

-- an operation applied: whether it was a no-op, and the words after it
pub record AppliedTo (l : List ℕ) (op : Operation) (noop : Bool) (after : List ℕ) : Type 0 where
  pub said : noop ≡ is_noop (table_of l) op
  pub left : after ≡ with_table (apply (table_of l) op) l

-- what an operation that is no no-op does
abbrev pub changed : NameTable → Operation → NameTable
changed t op = change t op.version op.act

-- a table without the entry of that kind and id, and without the memberships that pass a test
abbrev pub without_entry : ℕ → ℕ → NameTable → NameTable
without_entry k i t = record { version = t.version; host = t.host; entries = passing (other_entry k i) t.entries; memberships = t.memberships }

abbrev pub without_pairs : (Membership → Bool) → NameTable → NameTable
without_pairs u t = record { version = t.version; host = t.host; entries = t.entries; memberships = passing (λ m. not (u m)) t.memberships }

-- a membership with a in one column and b in another; its group stands in the first, its player in the second
abbrev pub pair_is : ℕ → ℕ → ℕ → ℕ → Membership → Bool
pair_is c a d b m = words_are c a d b (membership_words m)

-- the column of a membership that names its entry of that kind
abbrev pub member_column : ℕ → ℕ
member_column k = cond (eqb k player) 1 0
