-- `read_connect_info` meets its contract: the check refuses, or its numbers and fields are what their calls promise.
use Rattle.wire_connect.proofs.ConnectLaws.{form_whole}
use Rattle.wire_read.proofs.ReadLaws.{refused_by, accepted}
use Rattle.wire_read.proofs.read_connect_info.Goals as goal

pub returns-in_err-counts : goal.returns-in_err-counts
returns-in_err-counts c = refused_by _ _ _ _ _ c.from_residual.ensures.1 (c.in_err-counts.ensures.number _)

pub connect_values-values-requires : goal.connect_values-values-requires
connect_values-values-requires c = (form_whole _ (λ kind. c.in_ok-counts.ensures.number kind)).0

pub connect_fields-requires : goal.connect_fields-requires
connect_fields-requires c =
    let h = form_whole _ (λ kind. c.in_ok-counts.ensures.number kind) in
    record { plain_end_bound = h.0; fixed_whole = h.1 }

pub returns : goal.returns
returns c =
    accepted _ _ _ (c.in_ok-counts.ensures.number _) (rw (← c.connect_values-values.ensures _)) (c.connect_fields.ensures _ (c.in_ok-counts.ensures.counts _))
