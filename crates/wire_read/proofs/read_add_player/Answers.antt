-- `read_add_player` meets its contract: the check refuses, or the entry, its fields and every word are what their calls promise.
use Rattle.wire_layout.specs.Layout.{entry_layout}
use Rattle.wire_entry.proofs.EntryLaws.{entry_whole}
use Rattle.wire_read.proofs.ReadLaws.{refused_by, accepted}
use Rattle.wire_read.proofs.read_add_player.Goals as goal

pub returns-in_err-counts : goal.returns-in_err-counts
returns-in_err-counts c = refused_by _ _ _ _ _ c.from_residual.ensures.1 (c.in_err-counts.ensures.number _)

pub entry_at-entry-requires-clause-entry_size_bound : goal.entry_at-entry-requires-clause-entry_size_bound
entry_at-entry-requires-clause-entry_size_bound c = entry_whole _ _ _ _ (c.in_ok-counts.ensures.number 0)

pub entry_not_used-not_used-requires-clause-entry_size_bound : goal.entry_not_used-not_used-requires-clause-entry_size_bound
entry_not_used-not_used-requires-clause-entry_size_bound c = entry_whole _ _ _ _ (c.in_ok-counts.ensures.number 0)

pub entry_fields-requires-clause-entry_size_bound : goal.entry_fields-requires-clause-entry_size_bound
entry_fields-requires-clause-entry_size_bound c = entry_whole _ _ _ _ (c.in_ok-counts.ensures.number 0)

pub returns : goal.returns
unfolding entry_layout
returns c =
    accepted _ _ _ (c.in_ok-counts.ensures.number _)
    (rw (← c.entry_at-entry.ensures _, ← c.entry_not_used-not_used.ensures _)) (c.entry_fields.ensures _ (c.in_ok-counts.ensures.counts _))
