-- The statements of `FieldList` on a reader that moves and on what it shows.
use mathlib.Core.Path.{◌≡◌, refl, ap, ◌∙◌}
use Prim.Native.Nat.{ℕ, zero, suc, ◌<◌, ◌^◌}
use mathlib.Core.List.{List, [], ◌∷◌, map}
use native.Mathlib.Omega.{arith}
use borrow.Author.Tests.{lt-ltb}
use Rattle.wire_field.specs.Fields.{part_of, form_of, characters_in, count_of, field_named}
use Rattle.wire_field.specs.declared.Fields.{Fields}
use Rattle.wire_field.specs.declared.FieldName.{FieldName}
use Rattle.wire_read.specs.Read.{reading_of, fields_of}
use Rattle.wire_read.proofs.CountedLaws.{fields_counted}
use Rattle.wire_fields.specs.FieldList.{names_of, listed_as, at_place, listed_at, part_in, part_at, count_at, place_after, EachPlaceReached}
use Rattle.wire_fields.specs.FieldList.{ShownAsNamed, CountedAsShown}
use Rattle.std.specs.Prelude.{Option, None, Some}
use Rattle.wire_fields.specs.declared.Listed.{Listed}

one_more : (n : ℕ) → n < 0xFFFFFFFFFFFFFFFF → place_after n ≡ suc n
unfolding place_after
one_more n h = rw (lt-ltb n 0xFFFFFFFFFFFFFFFF h) (omega arith)

pub each_place_reached : EachPlaceReached
each_place_reached zero h = refl
each_place_reached (suc n) h =
    let k : n < 0xFFFFFFFFFFFFFFFF = omega arith in let b : n < 2 ^ 64 = omega arith in
    rw (each_place_reached n b) (one_more n k)

-- the part under the name of what stands in the list
abbrev under_name : List ℕ → Fields → Option Listed → List ℕ
under_name m fs None = []
under_name m fs (Some l) = part_of m (field_named l.name fs)

in_list : (m : List ℕ) (fs : Fields) (names : List FieldName) (place : ℕ)
    → part_in m (at_place (map (listed_as fs) names) place) ≡ under_name m fs (at_place (map (listed_as fs) names) place)
in_list m fs [] place = refl
in_list m fs (n ∷ ns) zero = refl
in_list m fs (n ∷ ns) (suc place) = in_list m fs ns place

pub shown_as_named : ShownAsNamed
unfolding listed_at part_at
shown_as_named m place which field e =
    let fs : Fields = fields_of (reading_of m) in
    in_list m fs (names_of (reading_of m)) place ∙ ap (under_name m fs) e

-- the count of what stands in the list is that of its part
abbrev Counted : List ℕ → Option Listed → Type 0
Counted m None = Unit {0}
Counted m (Some l) = count_of l.field ≡ characters_in (form_of l.name) (part_of m l.field)

all_counted : (m : List ℕ) (names : List FieldName) (place : ℕ) → Counted m (at_place (map (listed_as (fields_of (reading_of m))) names) place)
all_counted m [] place = tt
all_counted m (n ∷ ns) zero = fields_counted m n
all_counted m (n ∷ ns) (suc place) = all_counted m ns place

pub counted_as_shown : CountedAsShown
unfolding listed_at count_at part_at
counted_as_shown m place which field e =
    let g : Counted m (at_place (map (listed_as (fields_of (reading_of m))) (names_of (reading_of m))) place) = all_counted m (names_of (reading_of m)) place in
    rw e (rw e at g)
