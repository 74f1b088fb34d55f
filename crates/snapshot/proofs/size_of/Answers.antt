-- `size_of` meets its contract: by the counts and the units of the names.
use mathlib.Core.Path.{◌∙◌}
use native.Mathlib.Omega.{arith}
use Rattle.snapshot.proofs.SaveLaws.{size_is}
use Rattle.snapshot.proofs.size_of.Goals as goal

pub size_after-requires : goal.size_after-requires
size_after-requires c =
    let n = c.entries-rows.ensures.1 in let m = c.small.ensures in
    (omega (arith, n, c.requires.entries_fit), omega (arith, n, c.requires.entries_fit, c.name_units-units.ensures.1), omega (arith, m, c.requires.memberships_fit))

pub returns : goal.returns
returns c =
    let l = c.args.w.now in let n = c.entries-rows.ensures.1 in let m = c.small.ensures in (
      c.size_after.ensures ∙ size_is l c.entries-rows.result.count c.name_units-units.result c.small.result n (rw c.entries-rows.ensures.0 at c.name_units-units.ensures.0) m,
      omega (arith, n, m, c.requires.entries_fit, c.requires.memberships_fit, c.name_units-units.ensures.1, c.size_after.ensures),
    )
