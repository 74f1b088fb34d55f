-- `place_check` meets its contract: each return by the tests that led there; both sides of the last count from the end of the type word.
use Rattle.wire_field.specs.Fields.{position_of, place_no, place_checks}
use native.Mathlib.Omega.{arith}
use Rattle.refusal.proofs.CheckLaws.{tests}
use Prim.Native.Nat.{◌+◌, ◌≤◌, ◌<◌}
use Rattle.wire_field.proofs.place_check.Goals.{then-offset-eq0-via-then-offset-eq0, then-offset-eq0-via-else-offset-eq0+then-size-eq0}
use Rattle.wire_field.proofs.place_check.Goals.{then-start-fixed-via-then-start-fixed, then-start-fixed-via-else-start-fixed+then-after-offset}
use Rattle.wire_field.proofs.place_check.Goals as goal

pub returns-then-offset-eq0 : goal.returns-then-offset-eq0
unfolding place_no place_checks
returns-then-offset-eq0 c =
    elim c.then-offset-eq0.branch [
      | then-offset-eq0-via-then-offset-eq0 w ↦ let h = w.if-offset-eq0 in search (tests, arith)
      | then-offset-eq0-via-else-offset-eq0+then-size-eq0 w ↦ let h = w.if-offset-eq0 in let k = w.if-size-eq0 in search (tests, arith)
    ]

pub returns-then-start-fixed : goal.returns-then-start-fixed
unfolding place_no place_checks
returns-then-start-fixed c =
    let a = c.args in
    elim c.then-start-fixed.branch [
      | then-start-fixed-via-then-start-fixed w ↦ let h = w.if-start-fixed in rw (← c.position_of-start.ensures) (search (tests, arith))
      | then-start-fixed-via-else-start-fixed+then-after-offset w ↦
          let h : 4 + a.after < (position_of a.offset).0 + a.size = omega (arith, w.if-after-offset) in
          let k : a.fixed.0 ≤ (position_of a.offset).0 = omega (arith, w.if-start-fixed, c.position_of-start.ensures) in
          search (tests, arith)
    ]

pub returns : goal.returns
unfolding place_no place_checks
returns c =
    let a = c.args in
    let h : (position_of a.offset).0 + a.size ≤ 4 + a.after = omega arith in
    let k : a.fixed.0 ≤ (position_of a.offset).0 = omega (arith, c.position_of-start.ensures) in
    search (tests, arith)
