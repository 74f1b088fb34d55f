-- Both rules worked out on single name tables (paper 02, A6), as one list. They part only where the table is not valid, or the operation's
-- version is not above the table's.
use Rattle.std.specs.Prelude.{◌≡◌, ℕ, Bool, true, false, ◌&&◌, List, [], ◌∷◌, eqb}
use Rattle.lists.specs.Lists.{every, bit}
use Rattle.table_rules.specs.Operations.{Act, AddEntry, Join, Operation}
use Rattle.table_rules.specs.NameTable.{NameTable, is_noop}
use Rattle.table_rules.specs.Valid.{valid_table}
use Rattle.table_rules.specs.Cases.{entry, table_t}
use Rattle.add_rule.specs.OldRule.{old_noop}

-- at version 5 with an entry of version 6
abbrev pub ahead_of_itself : NameTable
ahead_of_itself = record { version = 5; host = 0; entries = entry 1 100 1 ∷ entry 1 200 6 ∷ []; memberships = [] }

-- a table, whether it is valid, an operation, and whether it is a no-op by the old rule and by the rule in force
pub record RuleCase : Type 0 where
  pub table : NameTable
  pub valid : Bool
  pub version : ℕ
  pub act : Act
  pub old : Bool
  pub noop : Bool

unfoldable pub cases : List RuleCase
cases =
    -- a player and a group, of the next version and of one further on
    record { table = table_t; valid = true; version = 6; act = AddEntry 1 400 0 0 7 []; old = false; noop = false }
    ∷ record { table = table_t; valid = true; version = 6; act = AddEntry 2 400 0 0 7 []; old = false; noop = false }
    ∷ record { table = table_t; valid = true; version = 37; act = AddEntry 1 400 0 0 7 []; old = false; noop = false }
    -- an id that is there
    ∷ record { table = table_t; valid = true; version = 6; act = AddEntry 1 300 0 0 7 []; old = true; noop = true }
    -- not above the table's version: 4 is that of group 300, and such an operation is refused with 14; 2 is nobody's
    ∷ record { table = table_t; valid = true; version = 4; act = AddEntry 1 400 0 0 7 []; old = true; noop = false }
    ∷ record { table = table_t; valid = true; version = 2; act = AddEntry 1 400 0 0 7 []; old = false; noop = false }
    -- not valid: such a replica is refused with 28
    ∷ record { table = ahead_of_itself; valid = false; version = 6; act = AddEntry 1 400 0 0 7 []; old = true; noop = false }
    ∷ record { table = ahead_of_itself; valid = false; version = 6; act = AddEntry 2 400 0 0 7 []; old = true; noop = false }
    -- what adds no entry never went by the version
    ∷ record { table = table_t; valid = true; version = 4; act = Join 300 100; old = false; noop = false }
    ∷ []

abbrev same : Bool → Bool → Bool
same a b = eqb (bit a) (bit b)

abbrev pub case_holds : RuleCase → Bool
case_holds c =
    let op : Operation = record { version = c.version; act = c.act } in
    same (valid_table c.table) c.valid && (same (old_noop c.table op) c.old && same (is_noop c.table op) c.noop)

-- the statement
abbrev pub CasesHold : Type 0
CasesHold = every case_holds cases ≡ true
