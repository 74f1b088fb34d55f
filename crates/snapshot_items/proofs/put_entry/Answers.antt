-- `put_entry` meets its contract: the kind, five words and the name, one after another.
-- the name's bytes end where the entry's do
use mathlib.Core.Path.{◌≡◌, refl, ◌∙◌}
use Prim.Native.Nat.{ℕ, ◌+◌, ◌%◌}
use native.Mathlib.Omega.{arith}
use mathlib.Core.List.{List, [], ◌∷◌}
use lib.ListN.{length, take, drop, get_or}
use Rattle.names.specs.Words.{name_of}
use Rattle.rows.proofs.PlaceLaws.{behind_row, behind_row_law}
use Rattle.table_words.specs.Layout.{entry_numbers}
use Rattle.table_words.specs.Words.{entry_of}
use Rattle.snapshot_bytes.specs.Snapshot.{entry_item_size, name_bytes, entry_bytes}
use Rattle.snapshot_bytes.proofs.PutLaws.{length_name, length_entry, entry_put}
use Rattle.snapshot_items.proofs.ItemLaws.{five}
use borrow.Author.Rules.{rules}
use Rattle.snapshot_items.proofs.put_entry.Goals as goal

rest_long : (r : List ℕ) → length (name_bytes (name_of (behind_row entry_numbers r))) + entry_item_size ≡ length (entry_bytes (entry_of r))
rest_long r =
    rw (behind_row_law entry_numbers r) (omega (arith, length_name (entry_of r).name, length_entry (entry_of r)))

pub put_name-requires : goal.put_name-requires
put_name-requires c =
    let a = c.args in
    let long : length c.put_be_words.new.buf ≡ length a.buf.now = search rules in
    (search rules, omega (arith, c.requires, long, rest_long a.row.now))

pub returns : goal.returns
returns c =
    let a = c.args in let r = a.row.now in record {
      place = omega (arith, c.put_name.ensures.place, rest_long r);
      buffer = c.put_name.ensures.buffer
          ∙ rw (c.put_be_words.ensures, c.put_byte.ensures, behind_row_law entry_numbers r)
          (entry_put a.buf.now (get_or r 0 0 % 256 ∷ []) (take 5 (drop 1 r)) a.at (entry_of r) c.requires.1 refl (five r c.requires.0));
    }
