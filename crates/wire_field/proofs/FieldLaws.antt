-- Laws of fields.
use mathlib.Core.Path.{◌≡◌}
use Prim.Native.Nat.{ℕ, ◌+◌, ◌-◌, ◌≤◌}
use mathlib.Core.List.{List}
use lib.ListN.{length, take, drop}
use native.Mathlib.Nat.{add-sub_cancel_left}
use native.Mathlib.Omega.{arith}
use lib.Dec.{ltb, lit<}
use borrow.Author.Tests.{ltb-false}
use Rattle.refusal.proofs.CheckLaws.{passed, each_passed}
use Rattle.wire_text.proofs.TextLaws.{text_few, url_few}
use Rattle.wire_field.specs.declared.Form.{Form}
use Rattle.wire_field.specs.declared.Form.TheVariants.{Free, Text, Url}
use Rattle.wire_field.specs.declared.Offset.{Offset}
use Rattle.wire_field.specs.declared.Position.{Position}
use Rattle.wire_field.specs.Fields.{position_of, place_checks, place_no, characters_in}

-- parts of a list

-- a part from a to a + n
pub part_whole : (m : List ℕ) (a n : ℕ) → take (a + n - a) (drop a m) ≡ take n (drop a m)
part_whole m a n = rw (add-sub_cancel_left a n)

-- place_no

-- a field in its place ends within the message
pub in_place_law : (len : ℕ) (fixed : Position) (o : Offset) (size : ℕ) → place_no len fixed o size ≡ 0 → (position_of o).0 + size ≤ len
unfolding place_no place_checks
in_place_law len fixed o size e =
    ltb-false len ((position_of o).0 + size)
    (passed (ltb len ((position_of o).0 + size)) 9 (lit< tt) (each_passed (place_checks len fixed o size) 3 e))

-- and starts behind the fixed part
pub behind_fixed : (len : ℕ) (fixed : Position) (o : Offset) (size : ℕ) → place_no len fixed o size ≡ 0 → fixed.0 ≤ (position_of o).0
unfolding place_no place_checks
behind_fixed len fixed o size e =
    ltb-false (position_of o).0 fixed.0
    (passed (ltb (position_of o).0 fixed.0) 9 (lit< tt) (each_passed (place_checks len fixed o size) 2 e))

-- characters

-- no more than bytes
pub characters_few : (form : Form) (s : List ℕ) → characters_in form s ≤ length s
characters_few Free s = omega arith
characters_few Text s = text_few s
characters_few Url s = url_few s
