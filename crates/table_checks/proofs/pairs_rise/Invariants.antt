-- `pairs_rise` meets its contract: what the test says of the rows that are left, after the last one, is what it says of all.
use Rattle.std.proofs.Common.{◌≡◌, length, map}
use Rattle.table_rules.specs.Valid.{rises_after, memberships_rise}
use Rattle.table_words.specs.Layout.{membership_width}
use Rattle.table_words.specs.Words.{membership_of, memberships_in}
use Rattle.rows.proofs.EachLaws.{Left}
use Rattle.table_checks.proofs.pairs_rise.Given as goal

abbrev pub invariant-loop-pair : goal.invariant-loop-pair
invariant-loop-pair l = (length l.last ≡ membership_width)
    × Left l.pair-iterator membership_width (λ ys. rises_after (membership_of l.last) (map membership_of ys)) (memberships_rise (memberships_in l.pairs.count l.pairs.words.now))
