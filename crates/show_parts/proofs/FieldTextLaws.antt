-- One turn of the loop over a message's fields, and its end.
use mathlib.Core.Path.{◌≡◌}
use Prim.Native.Nat.{ℕ, ◌+◌, ◌≤◌, ◌<◌}
use native.Mathlib.Omega.{arith}
use mathlib.Core.List.{List}
use lib.ListN.{length, take, length-map}
use lib.Seq.{take_all}
use Rattle.lists.specs.Lists.{flat_map}
use Rattle.wire_read.specs.Read.{reading_of, fields_of}
use Rattle.wire_fields.specs.FieldList.{field_count, field_list, listed_as, names_of, listed_at}
use Rattle.wire_fields.specs.declared.Listed.{Listed}
use Rattle.std.specs.Prelude.{Option, None}
use Rattle.show_text.specs.declared.Page.{Page}
use Rattle.show_text.specs.Page.{with_text}
use Rattle.show_text.proofs.PageLaws.{text_turn}
use Rattle.show_parts.specs.Parts.{listed_text}

module _ (m : List ℕ) where
  abbrev fields : List (Option Listed)
  fields = field_list (reading_of m)

  list_length : length fields ≡ field_count m
  unfolding field_count
  list_length = length-map (names_of (reading_of m)) (listed_as (fields_of (reading_of m)))

  pub field_more : (p : Page) (i : ℕ) → i < field_count m
      → with_text p (flat_map (listed_text m) (take (i + 1) (field_list (reading_of m))))
      ≡ with_text (with_text p (flat_map (listed_text m) (take i (field_list (reading_of m))))) (listed_text m (listed_at m i))
  unfolding listed_at
  field_more p i h = text_turn p (listed_text m) fields i None (omega (arith, list_length))

  pub all_fields : (i : ℕ) → field_count m ≤ i → take i (field_list (reading_of m)) ≡ field_list (reading_of m)
  all_fields i h = take_all i fields (omega (arith, list_length))

pub ruleset field_places = (field_more, all_fields)
