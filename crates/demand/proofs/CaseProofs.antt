-- The worked cases hold, by computation.
use mathlib.Core.Path.{refl}
use Rattle.byte_words.specs.Bytes.{word_at, put}
use Rattle.framing.specs.Frames.{is_whole, none, with_first, framed, messages_in, is_cut}
use Rattle.wire_text.specs.Text.{is_text, is_url}
use Rattle.wire_field.specs.Fields.{place_checks, place_no, stated_field, stated_no}
use Rattle.wire_layout.specs.Layout.{entry_pairs, entry_layout, exact_layout, connect_pairs, alternate_pair, connect_layout}
use Rattle.wire_layout.specs.Checks.{pair_no, field_at, flags_no, ids_no, pairs_no, layout_checks, layout_no, pair_fields}
use Rattle.wire_entry.specs.Entry.{entry_at}
use Rattle.wire_connect.specs.Connect.{connect_by}
use Rattle.wire_read.specs.Read.{answer, reading_of, no_fields}
use Rattle.lists.specs.Lists.{any, every, passing, bit, rising, distinct, insert_by, eqbs}
use Rattle.names.specs.Names.{valid_name}
use Rattle.names.specs.Words.{name_words, name_of}
use Rattle.table_rules.specs.Operations.{no_operation, act_numbers, act_name, kept, act_said, same_operation, is_act, valid_act, valid_operation, find}
use Rattle.operations.specs.Received.{kept_name, operation_said, operation_of, operation_in}
use Rattle.rows.specs.Rows.{places}
use Rattle.table_words.specs.Words.{table_of, fresh_words, of_row, row_of}
use Rattle.table_rules.specs.NameTable.{is_entry, present, has_id, is_pair, has_pair, before, is_noop_act, is_noop, at_version, other_entry, member_id, other_member, other_pair, change, apply, apply_all}
use Rattle.table_rules.specs.Valid.{has_an_id, rises_after, memberships_rise, names_present, host_present, has_a_kind, has_a_name, table_conditions, valid_table, table_no}
use Rattle.table_window.specs.Window.{used, rest_zero, pending_of, in_place, window_of}
use Rattle.replica.specs.Replica.{view, words_of, pack}
use Rattle.replica.specs.Valid.{replica_conditions, valid_of}
use Rattle.replica.specs.Deliver.{drain, enter, pending_no, operation_no, refusal, pack_outcome, accepted_by, delivered_read, deliver_of}
use Rattle.snapshot_bytes.specs.Snapshot.{name_units, table_size, name_bytes, entry_bytes, membership_bytes, head_of, snapshot_of, name_at, entry_item_at, next_entry, entries_end, membership_item_at, next_membership, stated_table, head_checks, head_no, sizes_no, snapshot_no}
use Rattle.snapshot.specs.Saved.{loaded_of, save_no, saved_buffer}
use Rattle.replay.specs.Run.{replica_after, answers_given}
use Rattle.batch.specs.Batch.{batch_no, delivered_in, batch_answer, batch_answers, batch_records}
use Rattle.wire_facts.specs.Cases as read
use Rattle.replica.specs.Cases as delivered
use Rattle.replay.specs.Replay.{watermark, up_to, table_at, repeated_no, version_no, message_no, accepted_after, accepted_from, accepted_of, table_after}
use Rattle.demand.specs.Cases.{cases, CasesHold, ReplayOfT}

both : CasesHold × ReplayOfT
unfolding cases read.cases delivered.cases word_at is_text is_url place_checks place_no stated_field stated_no entry_pairs entry_layout exact_layout connect_pairs alternate_pair connect_layout pair_no field_at flags_no ids_no pairs_no layout_checks layout_no pair_fields entry_at connect_by answer reading_of no_fields any every passing bit rising distinct insert_by eqbs valid_name name_words name_of no_operation act_numbers act_name kept act_said of_row row_of same_operation is_act valid_act valid_operation find kept_name operation_said operation_of operation_in places is_entry present has_id is_pair has_pair before is_noop_act is_noop at_version other_entry member_id other_member other_pair change apply has_an_id rises_after memberships_rise names_present host_present has_a_kind has_a_name table_conditions valid_table used rest_zero pending_of in_place window_of table_of view words_of pack replica_conditions valid_of drain enter pending_no operation_no refusal pack_outcome accepted_by delivered_read deliver_of fresh_words name_units table_size name_bytes entry_bytes membership_bytes head_of snapshot_of name_at entry_item_at next_entry entries_end membership_item_at next_membership stated_table head_checks head_no sizes_no table_no snapshot_no loaded_of save_no saved_buffer put apply_all watermark up_to table_at repeated_no version_no message_no accepted_after accepted_from accepted_of table_after is_whole none with_first framed messages_in is_cut replica_after answers_given batch_no delivered_in batch_answer batch_answers batch_records
both = (refl, record { accepted = refl; plain = refl; leads = refl; regrouped = refl })

pub cases_hold : CasesHold
cases_hold = both.0

pub replay_of_t : ReplayOfT
replay_of_t = both.1
