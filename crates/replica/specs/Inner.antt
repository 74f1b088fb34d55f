-- What inner functions compute. No public contract cites it.
use Rattle.std.specs.Prelude.{◌≡◌, ℕ, ◌+◌, ◌*◌, cond, List, [], ◌∷◌, ◌++◌, take, drop}
use Rattle.table_rules.specs.Operations.{Operation}
use Rattle.table_rules.specs.NameTable.{Entry, apply_all, noops_in, may_host}
use Rattle.table_words.specs.Layout.{operation_width, window_at}
use Rattle.table_words.specs.Words.{table_of}
use Rattle.table_words.specs.Inner.{with_table}
use Rattle.replica.specs.Replica.{view}
use Rattle.replica.specs.Deliver.{Done, enter, pack_outcome}

-- operations applied one after another: how many were no-ops, and the words after them
pub record RunOver (l : List ℕ) (os : List Operation) (noops : ℕ) (after : List ℕ) : Type 0 where
  pub said : noops ≡ noops_in (table_of l) os
  pub left : after ≡ with_table (apply_all (table_of l) os) l

-- the first word of place k of the window
abbrev pub place_at : ℕ → ℕ
place_at k = window_at + operation_width * k

-- a row in place k of the window
unfoldable pub held_at : ℕ → List ℕ → List ℕ → List ℕ
held_at k row l = take (place_at k) l ++ (row ++ drop (place_at k + operation_width) l)

-- the outcome for the next version
unfoldable pub advanced_by : List ℕ → Operation → Done
advanced_by s op = pack_outcome (enter (view s) op)

-- the first that may host: the candidate where entries rise by version
unfoldable pub first_host : ℕ → List Entry → ℕ
first_host host [] = 0
first_host host (e ∷ es) = cond (may_host host e) e.id (first_host host es)
