-- `all_zero` meets its contract: the number is 0 if each word so far is.
use mathlib.Core.Path.{ap, sym, ◌∙◌}
use native.Mathlib.Omega.{arith}
use Rattle.std.proofs.Common.{ℕ, eqb, List}
use Rattle.std.proofs.lemmas.List.{take_all}
use Rattle.std.specs.List.{fold}
use Rattle.std.proofs.lemmas.List.Sums.{fold_more}
use lib.Bits.{bit_or}
use Rattle.rows.proofs.EachLaws.{or_words}
use Rattle.rows.proofs.all_zero.Goals as goal

pub loop-i-preserved : goal.loop-i-preserved
loop-i-preserved c =
    let l = c.loop-i in let s = c.args.s.now in
    rw l.invariant (sym (fold_more bit_or 0 s l.i 0 (omega arith)))

pub returns : goal.returns
returns c =
    let l = c.loop-i in let s = c.args.s.now in
    ap (λ (n : ℕ). eqb n 0) (l.invariant ∙ ap (λ (y : List ℕ). fold bit_or 0 y) (take_all l.i s (omega arith))) ∙ or_words 0 s
