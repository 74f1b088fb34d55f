-- What inner functions compute. No public contract cites it.
use Rattle.std.specs.Prelude.{◌≡◌, ℕ, zero, suc, ◌-◌, ◌*◌, Bool, true, false, cond, not, ◌&&◌, List, [], ◌∷◌, ◌++◌, length, take, drop, get_or, replicate, eqb}
use Rattle.lists.specs.Lists.{every, pad, eqbs}
use Rattle.rows.specs.Rows.{is_zero, word_is, places}
use Rattle.names.specs.Inner.{holds_name}
use Rattle.table_rules.specs.Operations.{Operation, number_count, no_operation, names_entry, valid_operation}
use Rattle.table_words.specs.Layout.{operation_width, window_size, window_room}
use Rattle.table_words.specs.Words.{of_row, row_of}
use Rattle.table_window.specs.Window.{used, rest_zero}

-- an operation in the place of version v: its version is v and it is valid, or the place is unused and zero
unfoldable pub place_valid : ℕ → Operation → Bool
place_valid v o = cond (used o) (eqb o.version v && valid_operation o) (rest_zero o)

unfoldable pub places_from : ℕ → List Operation → Bool
places_from v [] = true
places_from v (o ∷ os) = place_valid v o && places_from (suc v) os

-- what has no use but in a row that adds an entry is zero: the word before the version, and all words behind it
abbrev pub tail_zero : List ℕ → Bool
tail_zero r = eqb (get_or r 4 0) 0 && every is_zero (take (operation_width - 6) (drop 6 r))

-- two ids, and zeros in the other words: the row of a valid operation that joins or leaves
abbrev pub pair_row_valid : List ℕ → Bool
pair_row_valid r = not (eqb (get_or r 2 0) 0) && (not (eqb (get_or r 3 0) 0) && (eqb (get_or r 1 0) 0 && tail_zero r))

-- a row is the very row of a valid operation, whatever its version
abbrev pub act_row_valid : List ℕ → Bool
act_row_valid r =
    cond (eqb (get_or r 0 0) 1) (names_entry (get_or r 1 0) (get_or r 2 0) && holds_name (drop number_count r))
    (cond (eqb (get_or r 0 0) 2) (names_entry (get_or r 1 0) (get_or r 2 0) && (eqb (get_or r 3 0) 0 && tail_zero r))
    (cond (eqb (get_or r 0 0) 3) (pair_row_valid r)
    (cond (eqb (get_or r 0 0) 4) (pair_row_valid r) false)))

-- a place as its row says it: the very row of its operation
unfoldable pub row_valid : ℕ → List ℕ → Bool
row_valid v r = eqbs (take operation_width r) (row_of (of_row r)) && place_valid v (of_row r)

-- n rows, the first for version v
unfoldable pub rows_valid : ℕ → ℕ → List ℕ → Bool
rows_valid v zero s = true
rows_valid v (suc n) s = row_valid v s && rows_valid (suc v) n (drop operation_width s)

-- where no row has an act there is nothing in the window
abbrev pub Tidy : List ℕ → Type 0
Tidy s = every (word_is 0 0) (places operation_width window_size s) ≡ true → s ≡ replicate window_room 0

-- the rows from number `by` on, and zeros at the end
unfoldable pub shifted : ℕ → List ℕ → List ℕ
shifted by s = drop (operation_width * by) s ++ replicate (length s - length (drop (operation_width * by) s)) 0

-- the window after p versions have passed
unfoldable pub moved_by : ℕ → List Operation → List Operation
moved_by p l = pad window_size no_operation (drop p l)

-- how many places at the front are used
unfoldable pub run_of : List Operation → ℕ
run_of [] = 0
run_of (o ∷ os) = cond (used o) (suc (run_of os)) 0
