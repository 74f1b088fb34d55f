-- `alternate_address` meets its contract: by the DNET version.
use mathlib.Core.Path.{◌∙◌}
use Rattle.wire_layout.specs.Layout.{extended_from, connect_absence, connect_pairs, alternate_pair, connect_layout}
use Rattle.wire_layout.specs.Checks.{pair_fields}
use Rattle.wire_layout.proofs.PairLaws.{free_again}
use Rattle.wire_connect.specs.Connect.{connect_by}
use borrow.Author.Tests.{le-ltb}
use native.Mathlib.Omega.{arith}
use Rattle.refusal.proofs.CheckLaws.{tests}
use Rattle.wire_connect.proofs.alternate_address.Goals as goal

pub returns-then-word_at-lt-EXTENDED_FROM : goal.returns-then-word_at-lt-EXTENDED_FROM
unfolding connect_by pair_fields connect_layout connect_pairs
returns-then-word_at-lt-EXTENDED_FROM c = λ kind. rw (← c.word_at.ensures kind) (search (tests, arith))

pub field_at-requires : goal.field_at-requires
unfolding connect_by connect_layout
field_at-requires c =
    let w = c.word_at in let h = rw (← w.ensures 0, le-ltb w.result extended_from c.if-word_at-lt-EXTENDED_FROM.false) at (c.requires 0) in record {
      type_word_le_at = omega arith;
      at_in_bounds = omega arith;
    }

pub returns : goal.returns
unfolding connect_by pair_fields connect_layout connect_pairs alternate_pair
returns c =
    let w = c.word_at in
    λ kind. rw (← w.ensures kind, le-ltb w.result extended_from c.if-word_at-lt-EXTENDED_FROM.false) (c.field_at.ensures kind ∙ free_again connect_absence _ _)
