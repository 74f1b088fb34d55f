-- All that is proved beside the functions' contracts (docs/PROMISES.md, in its order): one field for each statement, so that none can be
-- dropped without this page saying so. What a statement says stands where it is defined.
use Rattle.std.specs.Prelude.{ℕ, List}
use Rattle.byte_words.specs.declared.Order.{Order}
use Rattle.byte_words.specs.Bytes.{EachWidth}
use Rattle.framing.specs.Frames.{FramesBack}
use Rattle.characters.specs.Characters.{CountBounds}
use Rattle.characters.specs.Cases as count
use Rattle.wire_connect.specs.Connect.{GuidBytesKept}
use Rattle.wire_read.specs.Read.{FieldsWhole, FieldsCounted}
use Rattle.wire_facts.specs.LayoutCases.{LayoutCasesHold}
use Rattle.wire_facts.specs.CountCases.{CountCasesHold}
use Rattle.wire_facts.specs.Absent.{AbsentFields}
use Rattle.wire_facts.specs.AbsentCases.{AbsentCasesHold}
use Rattle.wire_fields.specs.FieldList.{EachPlaceReached, ShownAsNamed, CountedAsShown}
use Rattle.wire_draft.specs.Reasons.{AllReasons, EmptyRefused}
use Rattle.wire_draft.specs.RoundTrip.{RoundTrip}
use Rattle.table_rules.specs.Cases as table
use Rattle.table_rules.specs.Hosts.{OnlyPlayersHost}
use Rattle.table_views.specs.Views.{ViewsAgree}
use Rattle.operations.specs.NotKept.{AskedNotKept}
use Rattle.operations.specs.KeptCounts.{KeptCounts}
use Rattle.replica.specs.Outcomes.{Outcomes}
use Rattle.snapshot_bytes.specs.SnapshotLaws.{Snapshots}
use Rattle.snapshot_checks.specs.RepeatedIds.{RepeatedIds}
use Rattle.snapshot_checks.specs.Cases as ids
use Rattle.snapshot.specs.Replicas.{ReplicaSnapshots}
use Rattle.show_listing.specs.Listing.{AllFit}
use Rattle.show_listing.specs.Cases.{ListingHolds}
use Rattle.show_told.specs.Told.{TraceTells}
use Rattle.replay.specs.Run.{StaysValid}
use Rattle.replay.specs.Faithful.{Faithful}
use Rattle.batch.specs.Batches.{Batches}
use Rattle.demand.specs.Demand.{WholeDemand}
use Rattle.demand.specs.Progress.{NothingWaits}
use Rattle.demand.specs.Cases as worked
use Rattle.progress_cases.specs.Cases as runs
use Rattle.progress_cases.specs.WrongWays.{WrongWays}
use Rattle.add_rule.specs.AddRule.{VersionsNew, RulesAgree}
use Rattle.add_rule.specs.Cases as rules

pub record Promises : Type 0 where
  -- ---- messages
  -- a number and its bytes, in both orders, at every width
  pub each_width : (o : Order) (w : ℕ) → EachWidth o w
  -- a GUID that was read is the message's 16 bytes
  pub guid_bytes : GuidBytesKept
  -- a field that is shown lies whole in the message
  pub fields_whole : FieldsWhole
  -- how many characters units have: at most one a unit, at least one for two; worked cases
  pub count_bounds : (us : List ℕ) → CountBounds us
  pub count_cases : count.CasesHold
  -- what reading says of a field's characters is the count of the part that it shows; worked cases
  pub fields_counted : FieldsCounted
  pub field_count_cases : CountCasesHold
  -- each value and each field of each type at its position, worked out by hand
  pub layout_cases : LayoutCasesHold
  -- when a field is absent: in 0xC1, which is never refused with 8, and in 0xD0 and 0xD7
  pub absent_fields : AbsentFields
  pub absent_cases : AbsentCasesHold
  -- the field reader comes to every place, shows there what the field's name shows, and says the count of what it shows
  pub each_place : EachPlaceReached
  pub shown_as_named : ShownAsNamed
  pub counted_as_shown : CountedAsShown
  -- every reason for which a writer answers 11
  pub all_reasons : AllReasons
  -- a field that is given without bytes is one of them
  pub empty_refused : EmptyRefused
  -- what was written is read back, and written the same again
  pub round_trip : RoundTrip
  -- ---- the replica
  -- views of the words are the name table's entries, names, memberships and pending operations
  pub views : (l : List ℕ) (i : ℕ) → ViewsAgree l i
  -- what a delivery can answer, and what it depends on
  pub outcomes : Outcomes
  pub stays_valid : StaysValid
  -- of a message on groups who asked for it is not kept; no group hosts, and none has a part in who does
  pub asked_not_kept : AskedNotKept
  pub only_players_host : OnlyPlayersHost
  -- a name that is kept has the characters of its field unless it was cut; worked cases of the cut
  pub kept_counts : KeptCounts
  -- no operation that is applied has the version of an entry; by the rule that asked for it, and by the rule in force, all is the same
  pub versions_new : VersionsNew
  pub rules_agree : RulesAgree
  pub rule_cases : rules.CasesHold
  -- messages in frames; what a record tells, and what a batch does, record by record
  pub frames_back : FramesBack
  pub batches : Batches
  -- ---- the snapshot: of name tables, and of replicas
  pub snapshots : Snapshots
  pub replica_snapshots : ReplicaSnapshots
  -- the test of the bytes says yes exactly if two entries have one id
  pub repeated_ids : RepeatedIds
  pub repeated_cases : ids.CasesHold
  -- ---- text
  pub all_fit : AllFit
  -- equal traces come from equal replicas
  pub trace_tells : TraceTells
  -- ---- demand 3
  pub whole_demand : WholeDemand
  pub faithful : Faithful
  -- a replica that was given every version up to a target comes to it, and one that is behind lacks the next version; three wrong ways to
  -- deliver that this rules out; worked runs
  pub nothing_waits : NothingWaits
  pub wrong_ways : WrongWays
  pub run_cases : runs.CasesHold
  -- ---- the worked cases: of the name table's rules, and the paper's own of reading, delivering and saving
  pub table_cases : table.CasesHold
  pub worked_cases : worked.CasesHold
  -- the paper's own example: the replay, and the listing; and a listing of names with halves of characters
  pub replay_of_t : worked.ReplayOfT
  pub listing_holds : ListingHolds
