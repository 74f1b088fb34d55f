-- The text of a table.
use mathlib.Core.Path.{◌≡◌}
use Prim.Native.Nat.{ℕ}
use mathlib.Core.Bool.{true}
use mathlib.Core.List.{List, ◌++◌}
use Rattle.table_words.specs.Words.{version_of, host_of, entry_count, entry_part, entries_in, table_of}
use Rattle.replica.specs.Valid.{valid_of}
use Rattle.replica.specs.Deliver.{next_host_answer}
use Rattle.show_listing.specs.Listing.{head_line, entry_line, table_text}
use Rattle.show_listing.specs.Inner.{id_in}
use Rattle.lists.specs.Lists.{flat_map}

-- what is put of the words of a valid replica is its table
pub table_lines_law : (l : List ℕ) (v h n : ℕ) → valid_of l ≡ true → v ≡ version_of l → h ≡ host_of l → n ≡ id_in (next_host_answer l)
    → head_line v h n ++ flat_map entry_line (entries_in (entry_count l) (entry_part l)) ≡ table_text (table_of l)
unfolding table_text next_host_answer table_of
table_lines_law l v h n valid a b d = rw (a, b, d, valid)
