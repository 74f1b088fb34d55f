-- `apply_run` meets its contract: what is left to apply to what there is comes to what there was to apply.
use mathlib.Core.Path.{refl, sym, ◌∙◌}
use Prim.Native.Nat.{◌<◌}
use native.Mathlib.Omega.{arith}
use lib.ListN.{drop}
use Rattle.table_words.specs.Layout.{window_at}
use Rattle.table_words.specs.Words.{window_in}
use Rattle.table_words.proofs.OperationRows.{row_fits}
use Rattle.replica.specs.Inner.{place_at}
use Rattle.replica.proofs.RunLaws.{bit_small}
use Rattle.replica.proofs.WordRun.{after_packed, turn_noops, turn_words, turn_window, run_none, run_same}
use borrow.Author.Rules.{rules}
use borrow.Author.Rules.{rules}
use Rattle.replica.proofs.apply_run.Goals as goal

pub loop-k-init : goal.loop-k-init
loop-k-init c =
    (search rules, c.requires.1, search rules, c.requires.0, refl, omega arith, refl, refl, c.requires.2)

pub apply_place-requires : goal.apply_place-requires
apply_place-requires c =
    let l = c.loop-k in
    (l.invariant.3, omega arith, rw l.invariant.4 l.invariant.8)

pub overflow_add-noops : goal.overflow_add-noops
overflow_add-noops c = omega (arith, c.one_if-noops.ensures, bit_small c.apply_place.result)

pub loop-k-preserved : goal.loop-k-preserved
loop-k-preserved c =
    let a = c.args in
    let l = c.loop-k in
    let f = c.apply_place in
    let h : l.k < a.n = omega arith in (
      search rules,
      l.invariant.1,
      omega (arith, c.one_if-noops.ensures, bit_small f.result),
      after_packed l.w _ f.result f.new.w l.invariant.3 f.ensures (row_fits (drop (place_at l.k) l.w)),
      turn_window a.w.now a.n l.k l.noops l.w h l.invariant.1 l.invariant.3 l.invariant.4 f.result f.new.w f.ensures,
      l.invariant.5 ∙ turn_noops a.w.now a.n l.k l.noops l.w h l.invariant.1 l.invariant.3 l.invariant.4 f.result f.new.w f.ensures ∙ rw c.one_if-noops.ensures,
      l.invariant.6 ∙ turn_words a.w.now a.n l.k l.noops l.w h l.invariant.1 l.invariant.3 l.invariant.4 f.result f.new.w f.ensures,
      f.auto.w ∙ l.invariant.7,
      l.invariant.8,
    )

pub returns : goal.returns
returns c =
    let a = c.args in
    let l = c.loop-k in
    record {
      said = sym (l.invariant.5 ∙ run_none a.n l.k l.noops l.w (window_in (drop window_at a.w.now)) (omega arith) (omega arith));
      left = sym (l.invariant.6 ∙ run_same a.n l.k l.w (window_in (drop window_at a.w.now)) (omega arith) (omega arith) l.invariant.3);
    }
