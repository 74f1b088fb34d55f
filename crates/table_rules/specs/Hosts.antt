-- Groups have no part in who hosts (paper 01, "The station"; paper 02, A5).
use Rattle.std.specs.Prelude.{◌≡◌, Bool, true, false, eqb}
use Rattle.table_rules.specs.Operations.{player, Act, Empty, AddEntry, RemoveEntry, Join, Leave, Operation}
use Rattle.table_rules.specs.NameTable.{NameTable, apply, next_host_of}
use Rattle.table_rules.specs.Valid.{valid_table}

-- the act adds or removes a player
abbrev pub moves_player : Act → Bool
moves_player Empty = false
moves_player (AddEntry k i o f d n) = eqb k player
moves_player (RemoveEntry k i) = eqb k player
moves_player (Join g p) = false
moves_player (Leave g p) = false

-- the statement: any other act leaves the host of a valid name table, and its next host
pub record OnlyPlayersHost : Type 0 where
  pub host_stays : (t : NameTable) (op : Operation) → valid_table t ≡ true → moves_player op.act ≡ false → (apply t op).host ≡ t.host
  pub next_stays : (t : NameTable) (op : Operation) → valid_table t ≡ true → moves_player op.act ≡ false → next_host_of (apply t op) ≡ next_host_of t
