-- `copy_in` meets its contract: the loop has pasted the first i bytes; all of them are one put; without room nothing is stored.
use native.Mathlib.Omega.{arith}
use lib.ListN.{length, length-set}
use mathlib.Core.Path.{sym, ◌≡◌, refl, ◌∙◌}
use native.Mathlib.Numerals.{add-one}
use lib.Seq.{paste-zero, paste-suc}
use Rattle.byte_words.proofs.ByteLaws.{put_out, paste_all}
use Rattle.byte_words.proofs.copy_in.Goals as goal

pub returns-then-buf-src : goal.returns-then-buf-src
returns-then-buf-src c = let a = c.args in sym (put_out a.buf.now a.at a.src.now (omega arith))

pub loop-i-init : goal.loop-i-init
loop-i-init c = let a = c.args in (refl, paste-zero a.buf.now a.at a.src.now)

pub loop-i-preserved : goal.loop-i-preserved
loop-i-preserved c =
    let a = c.args in
    let l = c.loop-i in (
      simp length-set l.invariant.0,
      rw (l.invariant.1, add-one) (paste-suc a.buf.now a.at a.src.now l.i 0 (omega arith) (omega arith)),
    )

pub returns : goal.returns
returns c =
    let a = c.args in
    let l = c.loop-i in
    let e : l.i ≡ length a.src.now = omega arith in
    l.invariant.1 ∙ rw e (paste_all a.buf.now a.at a.src.now (omega arith))
