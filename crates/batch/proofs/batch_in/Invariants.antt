-- After i turns: place, words and records are those that i turns make (`LoopLaws.antt`).
use Rattle.std.proofs.Common.{◌≡◌}
use Rattle.batch.proofs.LoopLaws.{start, turns, written}
use Rattle.batch.proofs.batch_in.Given as goal

abbrev pub invariant-loop-i : goal.invariant-loop-i
invariant-loop-i l =
    (l.at ≡ (turns l.i l.fn.m (start l.fn.w)).at)
    × (l.w ≡ (turns l.i l.fn.m (start l.fn.w)).words)
    × (l.records ≡ written l.i l.fn.m (start l.fn.w) l.fn.records)
