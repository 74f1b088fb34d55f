-- A valid (the paper's sound) name table: the one list of conditions (paper 01, "The station", in its order; kinds, and of paper 02, A3,
-- names stand last). Beside each condition stands the number with which a snapshot that does not meet it is refused (paper 01, "Numbers a call may answer").
use Rattle.std.specs.Prelude.{ℕ, Bool, true, not, ◌&&◌, ◌||◌, List, [], ◌∷◌, length, eqb, leb}
use Rattle.refusal.specs.Checks.{when, first_of}
use Rattle.lists.specs.Lists.{every, rising, distinct}
use Rattle.names.specs.Names.{valid_name}
use Rattle.table_rules.specs.declared.Membership.{Membership}
use Rattle.table_rules.specs.Operations.{player, group, is_kind}
use Rattle.table_rules.specs.NameTable.{Entry, NameTable, max_entries, max_memberships, present, before}

-- an id is never 0
unfoldable pub has_an_id : Entry → Bool
has_an_id e = not (eqb e.id 0)

-- distinct entry ids
abbrev pub ids_distinct : List Entry → Bool
ids_distinct es = distinct (λ e. e.id) es

-- the entries' versions rise strictly, up to hi at most
abbrev pub entries_rise : ℕ → List Entry → Bool
entries_rise hi es = rising (λ e. e.version) 0 hi es

-- memberships in strict order, by group and within a group by player; the first after m
unfoldable pub rises_after : Membership → List Membership → Bool
rises_after m [] = true
rises_after m (n ∷ ns) = before m n && rises_after n ns

unfoldable pub memberships_rise : List Membership → Bool
memberships_rise [] = true
memberships_rise (m ∷ ms) = rises_after m ms

-- its group and its player are among the entries
unfoldable pub names_present : List Entry → Membership → Bool
names_present es m = present group m.group es && present player m.player es

-- no host, or one of the players
unfoldable pub host_present : ℕ → List Entry → Bool
host_present h es = eqb h 0 || present player h es

-- kinds 1 or 2
unfoldable pub has_a_kind : Entry → Bool
has_a_kind e = is_kind e.kind

-- a name of at most 31 units, none of them 0
unfoldable pub has_a_name : Entry → Bool
has_a_name e = valid_name e.name

-- a condition, and the number of not meeting it
pub record Condition : Type 0 where
  pub number : ℕ
  pub met : Bool

abbrev condition : ℕ → Bool → Condition
condition n b = record { number = n; met = b }

unfoldable pub table_conditions : NameTable → List Condition
table_conditions t =
    condition 23 (leb (length t.entries) max_entries)
    ∷ condition 23 (leb (length t.memberships) max_memberships)
    ∷ condition 24 (every has_an_id t.entries)
    ∷ condition 24 (ids_distinct t.entries)
    ∷ condition 24 (entries_rise t.version t.entries)
    ∷ condition 26 (memberships_rise t.memberships)
    ∷ condition 26 (every (names_present t.entries) t.memberships)
    ∷ condition 25 (host_present t.host t.entries)
    ∷ condition 24 (every has_a_kind t.entries)
    ∷ condition 24 (every has_a_name t.entries)
    ∷ []

abbrev pub is_met : Condition → Bool
is_met c = c.met

unfoldable pub valid_table : NameTable → Bool
valid_table t = every is_met (table_conditions t)

-- the conditions of one number are met
abbrev pub meets : ℕ → NameTable → Bool
meets n t = every (λ c. not (eqb c.number n) || c.met) (table_conditions t)

-- 24 to 26 in the order of the numbers: the first that is not met, 0 where all are
unfoldable pub table_no : NameTable → ℕ
table_no t = first_of (when (not (meets 24 t)) 24 ∷ when (not (meets 25 t)) 25 ∷ when (not (meets 26 t)) 26 ∷ [])
