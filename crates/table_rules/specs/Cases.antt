-- Worked cases of the name table (paper 01, "Easy to get wrong" and "Cases on each side"; paper 02, A5), as one list.
use Rattle.std.specs.Prelude.{◌≡◌, ℕ, Bool, true, false, ◌&&◌, List, [], ◌∷◌, length, eqb}
use Rattle.lists.specs.Lists.{every, bit}
use Rattle.table_rules.specs.Operations.{Act, AddEntry, RemoveEntry, Join, Leave, Operation}
use Rattle.table_rules.specs.NameTable.{Entry, NameTable, is_noop, apply, next_host_of}

-- a player or a group, with nothing but its id and version
abbrev pub entry : ℕ → ℕ → ℕ → Entry
entry kind id version = record { kind = kind; id = id; owner = 0; flags = 0; version = version; dnet = 7; name = [] }

-- version 5, host 100; player 100 (version 1), player 200 (3), group 300 (4); membership (300, 200)
abbrev pub table_t : NameTable
table_t = record {
  version = 5;
  host = 100;
  entries = entry 1 100 1 ∷ entry 1 200 3 ∷ entry 2 300 4 ∷ [];
  memberships = record { group = 300; player = 200 } ∷ [];
}

-- the next host of a table with this host and these entries
pub record HostCase : Type 0 where
  pub host : ℕ
  pub entries : List Entry
  pub next : ℕ

unfoldable pub host_cases : List HostCase
host_cases =
    record { host = 100; entries = entry 1 100 1 ∷ entry 1 200 3 ∷ entry 2 300 4 ∷ []; next = 200 }
    -- by version: not by place, not by id
    ∷ record { host = 0; entries = entry 1 200 9 ∷ entry 1 300 2 ∷ entry 1 100 5 ∷ []; next = 300 }
    -- neither the host nor a group
    ∷ record { host = 100; entries = entry 1 100 1 ∷ entry 2 300 2 ∷ []; next = 0 }
    ∷ []

abbrev pub host_holds : HostCase → Bool
host_holds c = eqb (next_host_of (record { version = 9; host = c.host; entries = c.entries; memberships = [] })) c.next

-- an act of version 6 on that table: whether it is a no-op, and the host, the entries and the memberships that stand after it
pub record ActCase : Type 0 where
  pub act : Act
  pub noop : Bool
  pub host : ℕ
  pub entries : ℕ
  pub memberships : ℕ

unfoldable pub act_cases : List ActCase
act_cases =
    record { act = AddEntry 1 400 0 0 7 []; noop = false; host = 100; entries = 4; memberships = 1 }
    ∷ record { act = AddEntry 1 300 0 0 7 []; noop = true; host = 100; entries = 3; memberships = 1 }
    -- the player goes with its memberships
    ∷ record { act = RemoveEntry 1 200; noop = false; host = 100; entries = 2; memberships = 0 }
    ∷ record { act = RemoveEntry 1 100; noop = false; host = 0; entries = 2; memberships = 1 }
    -- a group's id is no player
    ∷ record { act = RemoveEntry 1 300; noop = true; host = 100; entries = 3; memberships = 1 }
    -- a group goes as a player does, with its memberships; the host stays
    ∷ record { act = RemoveEntry 2 300; noop = false; host = 100; entries = 2; memberships = 0 }
    -- a player's id is no group, the host's neither, and an absent id is none
    ∷ record { act = RemoveEntry 2 200; noop = true; host = 100; entries = 3; memberships = 1 }
    ∷ record { act = RemoveEntry 2 100; noop = true; host = 100; entries = 3; memberships = 1 }
    ∷ record { act = RemoveEntry 2 400; noop = true; host = 100; entries = 3; memberships = 1 }
    -- a group's creation goes by the id, whoever has it
    ∷ record { act = AddEntry 2 400 0 0 7 []; noop = false; host = 100; entries = 4; memberships = 1 }
    ∷ record { act = AddEntry 2 200 0 0 7 []; noop = true; host = 100; entries = 3; memberships = 1 }
    ∷ record { act = AddEntry 2 300 0 0 7 []; noop = true; host = 100; entries = 3; memberships = 1 }
    ∷ record { act = Join 300 100; noop = false; host = 100; entries = 3; memberships = 2 }
    ∷ record { act = Join 300 200; noop = true; host = 100; entries = 3; memberships = 1 }
    -- the pair goes, and nobody else; a pair that is not there, for whatever reason, is a no-op
    ∷ record { act = Leave 300 200; noop = false; host = 100; entries = 3; memberships = 0 }
    ∷ record { act = Leave 300 100; noop = true; host = 100; entries = 3; memberships = 1 }
    ∷ record { act = Leave 200 300; noop = true; host = 100; entries = 3; memberships = 1 }
    ∷ record { act = Leave 400 200; noop = true; host = 100; entries = 3; memberships = 1 }
    ∷ record { act = Leave 300 400; noop = true; host = 100; entries = 3; memberships = 1 }
    ∷ []

abbrev pub act_holds : ActCase → Bool
act_holds c =
    let op : Operation = record { version = 6; act = c.act } in
    eqb (bit (is_noop table_t op)) (bit c.noop)
    && (eqb (apply table_t op).host c.host
    && (eqb (length (apply table_t op).entries) c.entries
    && eqb (length (apply table_t op).memberships) c.memberships))

-- the statement
pub record CasesHold : Type 0 where
  pub hosts : every host_holds host_cases ≡ true
  pub acts : every act_holds act_cases ≡ true
