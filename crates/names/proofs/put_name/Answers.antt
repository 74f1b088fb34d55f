-- `put_name` meets its contract: all words are cleared, the units are put behind the first, and the first is their number.
use mathlib.Core.Path.{◌≡◌, ap, ◌∙◌}
use Prim.Native.Nat.{ℕ}
use mathlib.Core.List.{List}
use lib.ListN.{length, take, replicate}
use Rattle.names.specs.Names.{units_of}
use Rattle.names.specs.Words.{name_width}
use Rattle.names.proofs.UnitLaws.{length_first, name_put}
use Rattle.names.proofs.put_name.Goals as goal

cleared : (z : List ℕ) (n : ℕ) → z ≡ replicate n 0 → n ≡ name_width → z ≡ replicate name_width 0
cleared z n e h = e ∙ ap (λ (k : ℕ). replicate k 0) h

pub returns : goal.returns
returns c =
    let a = c.args in
    let z = cleared c.clear.new.s (length a.row.now) c.clear.ensures c.requires.0 in
    name_put c.clear.new.s c.put_pairs.new.w (take a.n (units_of a.order a.s.now)) a.n z c.put_pairs.ensures
    (length_first a.order a.s.now a.n c.requires.2)
