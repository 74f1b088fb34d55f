-- What inner functions compute. No public contract cites it.
use Rattle.std.specs.Prelude.{ℕ, cond, List, eqb}
use Rattle.table_words.specs.Words.{row_of}
use Rattle.operations.specs.Received.{ReadOperation}

-- a row after the operation of a message, if it has one, was written into it
unfoldable pub row_after : List ℕ → ReadOperation → List ℕ
row_after l r = cond (eqb r.number 0) (row_of r.operation) l
