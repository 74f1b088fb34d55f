-- `rises_to` meets its contract: what the test says of the rows that are left is what it says of all.
use Rattle.lists.specs.Lists.{rising}
use Rattle.rows.specs.Rows.{places, word_in}
use Rattle.rows.proofs.EachLaws.{Left}
use Rattle.rows.proofs.rises_to.Given as goal

abbrev pub invariant-loop-row : goal.invariant-loop-row
invariant-loop-row l = Left l.row-iterator l.width (rising (word_in l.c) l.low l.high) (rising (word_in l.c) 0 l.high (places l.width l.count l.s))
