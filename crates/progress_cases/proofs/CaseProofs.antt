-- The worked runs hold, by computation, and runs by each wrong way end short.
use mathlib.Core.Path.{refl}
use mathlib.Core.List.{[], ◌∷◌}
use Rattle.byte_words.specs.Bytes.{word_at}
use Rattle.framing.specs.Frames.{is_whole, none, with_first, framed, messages_in}
use Rattle.wire_text.specs.Text.{is_text, is_url}
use Rattle.wire_field.specs.Fields.{place_checks, place_no, stated_field, stated_no}
use Rattle.wire_layout.specs.Layout.{entry_pairs, entry_layout, exact_layout}
use Rattle.wire_layout.specs.Checks.{pair_no, field_at, flags_no, ids_no, pairs_no, layout_checks, layout_no, pair_fields}
use Rattle.wire_entry.specs.Entry.{entry_at}
use Rattle.wire_read.specs.Read.{answer, reading_of, no_fields}
use Rattle.lists.specs.Lists.{any, every, passing, bit, rising, distinct, insert_by, eqbs}
use Rattle.names.specs.Names.{valid_name}
use Rattle.names.specs.Words.{name_words, name_of}
use Rattle.table_rules.specs.Operations.{no_operation, act_numbers, act_name, kept, act_said, same_operation, is_act, valid_act, valid_operation, find}
use Rattle.table_rules.specs.NameTable.{is_entry, present, has_id, is_pair, has_pair, before, is_noop_act, is_noop, at_version, other_entry, member_id, other_member, other_pair, change, apply}
use Rattle.table_rules.specs.Valid.{has_an_id, rises_after, memberships_rise, names_present, host_present, has_a_kind, has_a_name, table_conditions, valid_table}
use Rattle.operations.specs.Received.{kept_name, operation_said, operation_of, operation_in}
use Rattle.rows.specs.Rows.{places}
use Rattle.table_words.specs.Words.{table_of, of_row, row_of}
use Rattle.table_window.specs.Window.{used, rest_zero, pending_of, in_place, window_of}
use Rattle.replica.specs.Replica.{view, words_of, pack}
use Rattle.replica.specs.Valid.{replica_conditions, valid_of}
use Rattle.replica.specs.Deliver.{drain, enter, pending_no, operation_no, refusal, pack_outcome, accepted_by, delivered_read, deliver_of}
use Rattle.replay.specs.Run.{replica_after}
use Rattle.replay.specs.Progress.{is_operation_of}
use Rattle.batch.specs.Batch.{batch_no, delivered_in, batch_words}
use Rattle.demand.specs.Calls.{in_turn, replica_left}
use Rattle.progress_cases.specs.Cases.{falling, cases, CasesHold}
use Rattle.progress_cases.specs.WrongWays.{narrow, drops_early, drains_one, each_by}
use Rattle.progress_cases.proofs.ShortRuns.{Short}

-- all that is worked out
pub record Computed : Type 0 where
  pub runs : CasesHold
  -- 37, the first to come, is refused; 7 is dropped; 8 is not drained
  pub window_of_31 : Short narrow 32 (falling 5 32)
  pub early_dropped : Short drops_early 2 (7 ∷ 6 ∷ [])
  pub one_drained : Short drains_one 3 (8 ∷ 7 ∷ 6 ∷ [])

pub computed : Computed
unfolding cases word_at is_whole none with_first framed messages_in is_text is_url place_checks place_no stated_field stated_no entry_pairs entry_layout exact_layout pair_no field_at flags_no ids_no pairs_no layout_checks layout_no pair_fields entry_at answer reading_of no_fields any every passing bit rising distinct insert_by eqbs valid_name name_words name_of no_operation act_numbers act_name kept act_said same_operation is_act valid_act valid_operation find is_entry present has_id is_pair has_pair before is_noop_act is_noop at_version other_entry member_id other_member other_pair change apply has_an_id rises_after memberships_rise names_present host_present has_a_kind has_a_name table_conditions valid_table kept_name operation_said operation_of operation_in places table_of of_row row_of used rest_zero pending_of in_place window_of view words_of pack replica_conditions valid_of drain enter pending_no operation_no refusal pack_outcome accepted_by delivered_read deliver_of replica_after is_operation_of batch_no delivered_in batch_words in_turn replica_left each_by
computed = record {
  runs = refl;
  window_of_31 = record { valid = refl; complete = refl; short = refl };
  early_dropped = record { valid = refl; complete = refl; short = refl };
  one_drained = record { valid = refl; complete = refl; short = refl };
}
