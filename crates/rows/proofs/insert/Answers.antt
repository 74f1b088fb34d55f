-- `insert` meets its contract: the words from the place on are moved up, and the row is put over them.
use mathlib.Core.Path.{◌≡◌, ap, ◌∙◌}
use Prim.Native.Nat.{ℕ, ◌+◌, ◌-◌}
use native.Mathlib.Omega.{arith}
use lib.ListN.{length}
use Rattle.rows.specs.Rows.{moved}
use Rattle.rows.proofs.MoveLaws.{open_law}
use Rattle.rows.proofs.insert.Goals as goal

pub returns : goal.returns
returns c =
    let l = c.args.s.now in let at = c.args.at in let w = length c.args.row.now in
    let e : length l - w - at ≡ length l - (at + w) = omega arith in
    open_law l c.copy_within.new.self c.args.row.now c.put.new.s at (omega (arith, c.requires)) (c.copy_within.ensures.after ∙ ap (λ (n : ℕ). moved l (at + w) at n) e) c.put.ensures
