-- `holds_name` meets its contract: by the length, the words with two units, and those behind them.
use mathlib.Core.Path.{refl, sym, ◌∙◌}
use native.Mathlib.Omega.{arith}
use lib.ListN.{get_or}
use Rattle.names.proofs.TestLaws.{holds_long, holds_parts}
use Rattle.names.proofs.holds_name.Goals as goal

pub returns-then-n-gt-NAME : goal.returns-then-n-gt-NAME
returns-then-n-gt-NAME c = sym (holds_long c.args.row.now c.requires (omega arith))

pub returns-then-not-all_full : goal.returns-then-not-all_full
returns-then-not-all_full c =
    sym (holds_parts c.args.row.now (get_or c.args.row.now 0 0) refl c.requires (λ i. omega (arith, c.type_inv.row i)) (omega arith)
    ∙ rw (← c.all_full.ensures, c.if-not-all_full.true))

pub returns : goal.returns
returns c =
    sym (holds_parts c.args.row.now (get_or c.args.row.now 0 0) refl c.requires (λ i. omega (arith, c.type_inv.row i)) (omega arith)
    ∙ rw (← c.all_full.ensures, c.if-not-all_full.false) (sym c.rest_holds.ensures))
