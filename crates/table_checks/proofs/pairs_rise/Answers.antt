-- `pairs_rise` meets its contract: what the test says of the rows that are left, after the last one, is what it says of all.
use mathlib.Core.Path.{◌≡◌, refl, ap, sym, ◌∙◌}
use Prim.Native.Nat.{ℕ}
use mathlib.Core.Bool.{Bool, true, false, ◌&&◌}
use mathlib.Core.List.{List, ◌∷◌, map}
use lib.ListN.{take}
use Rattle.std.proofs.Common.{rules, tests}
use Rattle.table_rules.specs.declared.Membership.{Membership}
use Rattle.table_rules.specs.NameTable.{before}
use Rattle.table_rules.specs.Valid.{rises_after, memberships_rise}
use Rattle.table_words.specs.Layout.{membership_width}
use Rattle.table_words.specs.Words.{membership_of}
use Rattle.table_words.proofs.CutRows.{membership_cut}
use Rattle.rows.proofs.EachLaws.{left_all, left_next, left_found, left_none}
use Rattle.table_checks.proofs.pairs_rise.Goals as goal

said : (x y : List ℕ) → take membership_width y ≡ x → membership_of y ≡ membership_of x
said x y e = sym (membership_cut y) ∙ ap membership_of e

abbrev rise : List (List ℕ) → Bool
rise ys = memberships_rise (map membership_of ys)

abbrev rise_behind : List ℕ → List (List ℕ) → Bool
rise_behind x ys = rises_after (membership_of x) (map membership_of ys)

first : (x y : List ℕ) (ys : List (List ℕ)) → take membership_width y ≡ x → rise (y ∷ ys) ≡ rise_behind x ys
unfolding memberships_rise
first x y ys e = ap (λ (m : Membership). rises_after m (map membership_of ys)) (said x y e)

next : (x y z : List ℕ) (ys : List (List ℕ)) → take membership_width y ≡ z → rise_behind x (y ∷ ys) ≡ (before (membership_of x) (membership_of z) && rise_behind z ys)
unfolding rises_after
next x y z ys e = ap (λ (m : Membership). before (membership_of x) m && rises_after m (map membership_of ys)) (said z y e)

pub returns-in_default : goal.returns-in_default
unfolding memberships_rise
returns-in_default c = left_none (left_all rise c.each-rest.ensures.rows refl) c.next.new.self c.in_default.ensures.steps

pub loop-pair-init : goal.loop-pair-init
loop-pair-init c =
    let x = c.in-Some.last in (
      search (rules, tests),
      rw c.into_iter-pair-iterator.ensures.into_iter_gives
          (left_next (left_all rise c.each-rest.ensures.rows refl) c.next.new.self x c.in-Some.ensures.steps (rise_behind x.now) (first x.now)),
    )

pub returns-then-not-stands_before : goal.returns-then-not-stands_before
returns-then-not-stands_before c =
    let l = c.loop-pair in let x = c.in-Some-pair.pair in
    let e : before (membership_of l.last.now) (membership_of x.now) ≡ false = sym c.stands_before.ensures ∙ c.if-not-stands_before.true in
    left_found l.invariant.1 c.next-in-loop-pair.new.self x c.in-Some-pair.ensures.steps false (λ y ys h. next l.last.now y x.now ys h ∙ rw e)

pub loop-pair-preserved : goal.loop-pair-preserved
loop-pair-preserved c =
    let l = c.loop-pair in let x = c.in-Some-pair.pair in
    let e : before (membership_of l.last.now) (membership_of x.now) ≡ true = sym c.stands_before.ensures ∙ c.if-not-stands_before.false in (
      search (rules, tests),
      left_next l.invariant.1 c.next-in-loop-pair.new.self x c.in-Some-pair.ensures.steps (rise_behind x.now) (λ y ys h. next l.last.now y x.now ys h ∙ rw e),
    )

pub returns : goal.returns
unfolding rises_after
returns c = left_none c.loop-pair.invariant.1 c.next-in-loop-pair.new.self c.in-None.ensures.steps
