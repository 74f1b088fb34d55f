-- The worked cases of an id that stands twice hold, by computation.
use mathlib.Core.Path.{refl}
use Rattle.lists.specs.Lists.{any, every, distinct, rising}
use Rattle.byte_words.specs.Bytes.{word_at}
use Rattle.names.specs.Names.{valid_name}
use Rattle.table_rules.specs.NameTable.{is_entry, present}
use Rattle.table_rules.specs.Valid.{has_an_id, memberships_rise, host_present, has_a_kind, has_a_name, table_conditions, table_no}
use Rattle.snapshot_bytes.specs.Snapshot.{name_at, entry_item_at, next_entry, entries_end, stated_table, head_checks, head_no, sizes_no, snapshot_no}
use Rattle.snapshot_checks.specs.RepeatedIds.{repeats_id}
use Rattle.snapshot_checks.specs.Cases.{cases, CasesHold}

pub cases_hold : CasesHold
unfolding any every distinct rising word_at valid_name is_entry present has_an_id memberships_rise host_present has_a_kind has_a_name table_conditions table_no name_at entry_item_at next_entry entries_end stated_table head_checks head_no sizes_no snapshot_no repeats_id cases
cases_hold = record { told = refl; numbers = refl }
