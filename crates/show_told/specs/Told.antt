-- What two traces tell: if they are equal, they come from equal replicas. Statements only.
use Rattle.std.specs.Prelude.{◌≡◌, ℕ, ◌+◌, Bool, true, cond, ◌&&◌, List, [], ◌∷◌, ◌++◌, eqb, leb}
use Rattle.lists.specs.Lists.{All, every, joined}
use Rattle.byte_words.specs.Bytes.{AllBytes}
use Rattle.show_text.specs.Text.{ascii}
use Rattle.table_words.specs.Words.{table_of}
use Rattle.replica.specs.Valid.{valid_of}
use Rattle.replica.specs.Deliver.{deliver_of}
use Rattle.snapshot_bytes.specs.Snapshot.{snapshot_no}
use Rattle.snapshot_bytes.specs.SnapshotLaws.{TableFits}
use Rattle.snapshot.specs.Saved.{loaded_of}
use Rattle.replay.specs.Run.{replica_after}
use Rattle.show_listing.specs.Listing.{cut_line}
use Rattle.show_trace.specs.Trace.{delivery_line, start_text}

-- the lines of messages that are delivered one after another, the first of them of that place in the list
unfoldable pub lines_from : ℕ → List ℕ → List (List ℕ) → List (List ℕ)
lines_from place l [] = []
lines_from place l (m ∷ ms) = delivery_line place m (deliver_of l m) ∷ lines_from (place + 1) (deliver_of l m).words ms

-- one line: printable characters, and the end of the line behind them
abbrev pub is_printable : ℕ → Bool
is_printable c = leb 32 c && leb c 126

pub record IsLine (s : List ℕ) : Type 0 where
  pub text : List ℕ
  pub prints : every is_printable text ≡ true
  pub is : s ≡ text ++ ascii "\n"

-- what is shown of the snapshot that the program reads
abbrev pub start_shown : List ℕ → List ℕ
start_shown s = start_text (loaded_of s).number (loaded_of s).words

-- all that the program `trace` writes of a snapshot and the messages behind it
abbrev pub trace_text : List ℕ → List (List ℕ) → Bool → List ℕ
trace_text s ms cut =
    start_shown s
    ++ cond (eqb (loaded_of s).number 0) (joined (lines_from 1 (loaded_of s).words ms) ++ cut_line cut) []

pub record TraceTells : Type 0 where
  -- a delivery has one line
  pub one_line : (place : ℕ) (l m : List ℕ) → IsLine (delivery_line place m (deliver_of l m))
  -- two messages with the same line, delivered to the same words, leave the same words
  pub step : (place : ℕ) (l m n : List ℕ) → AllBytes m → AllBytes n
      → delivery_line place m (deliver_of l m) ≡ delivery_line place n (deliver_of l n) → (deliver_of l m).words ≡ (deliver_of l n).words
  -- and so do lists of messages whose lines are equal
  pub lines : (place : ℕ) (l : List ℕ) (ms ns : List (List ℕ)) → All AllBytes ms → All AllBytes ns
      → lines_from place l ms ≡ lines_from place l ns → replica_after l ms ≡ replica_after l ns
  -- the start lines tell the whole name table
  pub start : (l k : List ℕ) → valid_of l ≡ true → valid_of k ≡ true → TableFits (table_of l) → TableFits (table_of k)
      → start_text 0 l ≡ start_text 0 k → table_of l ≡ table_of k
  -- two traces, of any two snapshots and any two lists of messages, from an accepted snapshot: the same text, so the same words
  pub whole : (s t : List ℕ) (ms ns : List (List ℕ)) (c d : Bool) → AllBytes s → AllBytes t → All AllBytes ms → All AllBytes ns
      → snapshot_no s ≡ 0 → trace_text s ms c ≡ trace_text t ns d → replica_after (loaded_of s).words ms ≡ replica_after (loaded_of t).words ns
