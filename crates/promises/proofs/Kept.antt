-- Every promise is kept: each is cited from where it is proved.
use Rattle.byte_words.proofs.ByteLaws.{width_law}
use Rattle.framing.proofs.FramedProofs.{frames_back}
use Rattle.characters.proofs.CountLaws.{bounds}
use Rattle.characters.proofs.CaseProofs as count
use Rattle.wire_connect.proofs.GuidLaws.{guid_bytes_kept}
use Rattle.wire_read.proofs.ShownLaws.{fields_whole}
use Rattle.wire_read.proofs.CountedLaws.{fields_counted}
use Rattle.wire_facts.proofs.CaseProofs.{layout_cases_hold, absent_cases_hold, count_cases_hold}
use Rattle.wire_facts.proofs.AbsentProofs.{absent_fields}
use Rattle.wire_fields.proofs.ReaderProofs.{each_place_reached, shown_as_named, counted_as_shown}
use Rattle.wire_draft.proofs.DraftLaws.{all_reasons}
use Rattle.wire_draft.proofs.EmptyProofs.{empty_refused}
use Rattle.wire_draft.proofs.RoundTripProofs.{round_trip}
use Rattle.table_rules.proofs.CaseProofs as table
use Rattle.table_rules.proofs.HostProofs.{only_players_host}
use Rattle.table_views.proofs.ViewLaws.{views_agree}
use Rattle.operations.proofs.NotKeptProofs.{asked_not_kept}
use Rattle.operations.proofs.KeptCountProofs.{kept_counts}
use Rattle.replica.proofs.OutcomeLaws.{outcomes}
use Rattle.snapshot_bytes.proofs.SnapshotProofs.{snapshots}
use Rattle.snapshot_checks.proofs.IdProofs.{repeated_ids}
use Rattle.snapshot_checks.proofs.CaseProofs as ids
use Rattle.snapshot.proofs.ReplicaLaws.{replica_snapshots}
use Rattle.show_listing.proofs.FitLaws.{all_fit}
use Rattle.show_listing.proofs.CaseProofs.{listing_holds}
use Rattle.show_told.proofs.WholeLaws.{trace_tells}
use Rattle.replay.proofs.StatementProof.{faithful, stays_valid}
use Rattle.batch.proofs.BatchProofs.{batches}
use Rattle.demand.proofs.DemandProof.{whole_demand}
use Rattle.demand.proofs.ProgressProof.{nothing_waits}
use Rattle.demand.proofs.CaseProofs as worked
use Rattle.progress_cases.proofs.CaseProofs.{computed}
use Rattle.progress_cases.proofs.WrongWayProofs.{wrong_ways}
use Rattle.add_rule.proofs.AddRuleProofs.{versions_new, rules_agree}
use Rattle.add_rule.proofs.CaseProofs as rules
use Rattle.promises.specs.Promises.{Promises}

pub promises : Promises
promises = record {
  each_width = width_law;
  guid_bytes = guid_bytes_kept;
  fields_whole = fields_whole;
  count_bounds = bounds;
  count_cases = count.cases_hold;
  fields_counted = fields_counted;
  field_count_cases = count_cases_hold;
  layout_cases = layout_cases_hold;
  absent_fields = absent_fields;
  absent_cases = absent_cases_hold;
  each_place = each_place_reached;
  shown_as_named = shown_as_named;
  counted_as_shown = counted_as_shown;
  all_reasons = all_reasons;
  empty_refused = empty_refused;
  round_trip = round_trip;
  views = views_agree;
  outcomes = outcomes;
  stays_valid = stays_valid;
  asked_not_kept = asked_not_kept;
  only_players_host = only_players_host;
  kept_counts = kept_counts;
  versions_new = versions_new;
  rules_agree = rules_agree;
  rule_cases = rules.cases_hold;
  frames_back = frames_back;
  batches = batches;
  snapshots = snapshots;
  replica_snapshots = replica_snapshots;
  repeated_ids = repeated_ids;
  repeated_cases = ids.cases_hold;
  all_fit = all_fit;
  trace_tells = trace_tells;
  whole_demand = whole_demand;
  faithful = faithful;
  nothing_waits = nothing_waits;
  wrong_ways = wrong_ways;
  run_cases = computed.runs;
  table_cases = table.cases_hold;
  worked_cases = worked.cases_hold;
  replay_of_t = worked.replay_of_t;
  listing_holds = listing_holds;
}
