-- The worked cases of the name table hold, by computation.
use mathlib.Core.Path.{refl}
use Rattle.lists.specs.Lists.{any, every, passing, bit, insert_by}
use Rattle.table_rules.specs.NameTable.{is_entry, present, has_id, is_pair, has_pair, before, is_noop_act, is_noop, at_version, other_entry, member_id, other_member, other_pair, change, apply, may_host, smaller, candidate, id_of, next_host_of}
use Rattle.table_rules.specs.Cases.{host_cases, act_cases, CasesHold}

pub cases_hold : CasesHold
unfolding any every passing bit insert_by is_entry present has_id is_pair has_pair before is_noop_act is_noop at_version other_entry member_id other_member other_pair change apply may_host smaller candidate id_of next_host_of host_cases act_cases
cases_hold = record { hosts = refl; acts = refl }
