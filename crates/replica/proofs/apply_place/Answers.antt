-- `apply_place` meets its contract: the row is copied out before it is applied, so the words are lent once at a time.
use mathlib.Core.Path.{◌≡◌, ap, ◌∙◌}
use lib.ListN.{take, drop}
use Rattle.table_words.specs.Layout.{operation_width}
use Rattle.table_words.specs.Words.{of_row}
use Rattle.table_words.proofs.OperationRows.{taken_same, taken_exact}
use Rattle.replica.specs.Inner.{place_at}
use Rattle.replica.proofs.HoldLaws.{place_row, copied}
use Rattle.replica.proofs.apply_place.Goals as goal

pub apply-requires : goal.apply-requires
apply-requires c =
    let l = c.args.w.now in let k = c.args.k in let p = c.requires in
    let r = drop (place_at k) l in
    let e : c.put.new.s ≡ take operation_width r = c.put.ensures ∙ copied l k p.0.long p.1 p.2 in
    rw e (p.0, taken_exact r (place_row l k p.0.long p.1 p.2))

pub returns : goal.returns
returns c =
    let l = c.args.w.now in let k = c.args.k in let p = c.requires in
    let r = drop (place_at k) l in
    let e : of_row c.put.new.s ≡ of_row r =
    ap of_row (c.put.ensures ∙ copied l k p.0.long p.1 p.2) ∙ taken_same r (place_row l k p.0.long p.1 p.2) in
    rw e at c.apply.ensures
