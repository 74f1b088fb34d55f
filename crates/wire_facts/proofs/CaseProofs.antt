-- The worked cases of reading hold, by computation.
use mathlib.Core.Path.{refl}
use Rattle.lists.specs.Lists.{every, eqbs}
use Rattle.byte_words.specs.Bytes.{word_at}
use Rattle.wire_text.specs.Text.{is_text, is_url}
use Rattle.wire_field.specs.Fields.{place_checks, place_no, stated_field, stated_no}
use Rattle.wire_layout.specs.Layout.{entry_pairs, entry_layout, exact_layout, connect_pairs, alternate_pair, connect_layout}
use Rattle.wire_layout.specs.Checks.{pair_no, field_at, flags_no, ids_no, pairs_no, layout_checks, layout_no, pair_fields}
use Rattle.wire_entry.specs.Entry.{entry_at}
use Rattle.wire_connect.specs.Connect.{guid_at, connect_values, connect_by}
use Rattle.wire_read.specs.Read.{answer, reading_of, no_fields}
use Rattle.wire_facts.specs.Cases.{CasesHold, cases}
use Rattle.wire_facts.specs.LayoutCases.{LayoutCasesHold, told_cases, shown_cases, length_cases}
use Rattle.wire_facts.specs.AbsentCases.{AbsentCasesHold, absent_cases, older_client_cases}
use Rattle.wire_facts.specs.CountCases.{CountCasesHold, count_cases}

all : CasesHold × LayoutCasesHold × AbsentCasesHold × CountCasesHold
unfolding every eqbs cases told_cases shown_cases length_cases absent_cases older_client_cases count_cases word_at is_text is_url place_checks place_no entry_pairs entry_layout exact_layout connect_pairs alternate_pair connect_layout stated_field stated_no pair_no field_at flags_no ids_no pairs_no layout_checks layout_no pair_fields entry_at guid_at connect_values connect_by answer reading_of no_fields
all = (refl, record { values = refl; fields = refl; lengths = refl }, record { answers = refl; shows = refl }, refl)

pub cases_hold : CasesHold
cases_hold = all.0

pub layout_cases_hold : LayoutCasesHold
layout_cases_hold = all.1

pub absent_cases_hold : AbsentCasesHold
absent_cases_hold = all.2

pub count_cases_hold : CountCasesHold
count_cases_hold = all.3
