-- The worked cases of both rules hold, by computation.
use mathlib.Core.Path.{refl}
use Rattle.lists.specs.Lists.{any, every, bit, rising, distinct}
use Rattle.names.specs.Names.{valid_name}
use Rattle.table_rules.specs.NameTable.{is_entry, present, has_id, is_pair, has_pair, before, is_noop_act, is_noop}
use Rattle.table_rules.specs.Valid.{has_an_id, rises_after, memberships_rise, names_present, host_present, has_a_kind, has_a_name, table_conditions, valid_table}
use Rattle.add_rule.specs.OldRule.{has_version, old_noop}
use Rattle.add_rule.specs.Cases.{cases, CasesHold}

pub cases_hold : CasesHold
unfolding cases any every bit rising distinct valid_name is_entry present has_id is_pair has_pair before is_noop_act is_noop has_an_id rises_after memberships_rise names_present host_present has_a_kind has_a_name table_conditions valid_table has_version old_noop
cases_hold = refl
