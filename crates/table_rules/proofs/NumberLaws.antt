-- The number of a name table in which an id stands twice.
use mathlib.Core.Path.{◌≡◌}
use mathlib.Core.Bool.{false, and-false}
use Rattle.lists.specs.Lists.{every}
use Rattle.table_rules.specs.NameTable.{NameTable}
use Rattle.table_rules.specs.Valid.{has_an_id, ids_distinct, table_conditions, table_no}

pub repeated_no_law : (t : NameTable) → ids_distinct t.entries ≡ false → table_no t ≡ 24
unfolding table_no table_conditions every
repeated_no_law t h = rw (h, and-false (every has_an_id t.entries))
