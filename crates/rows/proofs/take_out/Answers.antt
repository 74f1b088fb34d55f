-- `take_out` meets its contract: what is kept so far, and what is kept of the rows to come, is what is kept of all.
use mathlib.Core.Path.{◌≡◌, refl, ap, sym, ◌∙◌}
use Prim.Native.Nat.{◌+◌, ◌-◌, ◌*◌, ◌≤◌}
use native.Mathlib.Omega.{arith}
use lib.ListN.{drop}
use lib.Seq.{drop-drop}
use Rattle.rows.specs.Rows.{words_are}
use Rattle.rows.proofs.PlaceLaws.{next_fits}
use Rattle.rows.proofs.MoveLaws.{Turn, turn, out_end}
use Rattle.rows.proofs.take_out.Goals as goal

pub loop-k-preserved : goal.loop-k-preserved
loop-k-preserved c =
    let a = c.args in let l = c.loop-k in
    let t = words_are a.c a.a a.d a.b in let from = a.width * l.k in
    let h : from + a.width ≤ a.width * a.count = next_fits a.width l.k a.count (omega arith) in
    let n : from + a.width ≡ a.width * (l.k + 1) = omega arith in
    let m : a.count - l.k - 1 ≡ a.count - (l.k + 1) = omega arith in
    let u : Turn t a.width l.to from (a.count - l.k) l.s c.keep-to.new.s c.keep-to.result =
    turn t a.width l.to from (a.count - l.k) l.s c.keep-to.new.s c.keep-to.result (omega arith) (omega arith) (omega arith) c.keep-to.ensures.0 c.keep-to.ensures.1 in
    rw (← n, ← m) (
      u.below,
      u.same_length ∙ l.invariant.1,
      u.same_rest ∙ sym (drop-drop a.width from l.s) ∙ ap (drop a.width) l.invariant.2 ∙ drop-drop a.width from a.s.now,
      l.invariant.3 ∙ u.same_kept,
    )

pub returns : goal.returns
returns c =
    let a = c.args in let l = c.loop-k in
    let e : l.k ≡ a.count = omega arith in
    let i = rw e at l.invariant in
    out_end (words_are a.c a.a a.d a.b) a.width l.to (a.width * a.count) a.count (a.count - a.count) a.s.now l.s c.clear.new.s
    (omega arith) i.0 refl (omega (arith, i.1)) i.3 i.2 c.clear.ensures
