-- The worked listings hold: of the paper's own the replay leads to its name table, and the text is computed; the other is computed.
use mathlib.Core.Path.{refl}
use Rattle.lists.specs.Lists.{any, every, passing, rising, distinct}
use Rattle.byte_words.specs.Bytes.{word_at}
use Rattle.framing.specs.Frames.{is_whole, none, with_first, framed, messages_in, is_cut}
use Rattle.names.specs.Names.{valid_name}
use Rattle.table_rules.specs.NameTable.{is_entry, present, apply_all, smaller, may_host, candidate, id_of, next_host_of}
use Rattle.table_rules.specs.Valid.{has_an_id, memberships_rise, host_present, has_a_kind, has_a_name, table_conditions, table_no}
use Rattle.snapshot_bytes.specs.Snapshot.{name_bytes, name_at, entry_item_at, next_entry, entries_end, stated_table, head_checks, head_no, sizes_no, snapshot_no}
use Rattle.replay.specs.Replay.{watermark, up_to, table_at, accepted_from, accepted_of, table_after}
use Rattle.demand.proofs.CaseProofs.{replay_of_t}
use Rattle.show_text.specs.Text.{ascii, decimal, named}
use Rattle.show_listing.specs.Listing.{head_text, head_line, entry_line, table_text, table_listed, listing_taken, listing_of}
use Rattle.show_listing.specs.Cases.{ListingHolds}

pub listing_holds : ListingHolds
unfolding name_bytes any every passing rising distinct word_at is_whole none with_first framed messages_in is_cut valid_name is_entry present apply_all smaller may_host candidate id_of next_host_of has_an_id memberships_rise host_present has_a_kind has_a_name table_conditions table_no name_at entry_item_at next_entry entries_end stated_table head_checks head_no sizes_no snapshot_no watermark up_to table_at accepted_from accepted_of table_after ascii decimal named head_text head_line entry_line table_text table_listed listing_taken listing_of
listing_holds = record { paper = rw (replay_of_t.accepted, replay_of_t.leads); characters = refl }
