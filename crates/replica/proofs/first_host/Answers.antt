-- `first_host` meets its contract: the first of the rows that are left is the first of all.
use mathlib.Core.Path.{◌≡◌, ap, sym, ◌∙◌}
use Prim.Native.Nat.{ℕ}
use mathlib.Core.Bool.{true, false, cond}
use mathlib.Core.List.{List, ◌∷◌, map}
use lib.ListN.{take}
use Rattle.table_rules.specs.NameTable.{Entry, may_host}
use Rattle.table_words.specs.Layout.{entry_width}
use Rattle.table_words.specs.Words.{entry_of}
use Rattle.table_words.proofs.CutRows.{entry_cut}
use Rattle.rows.proofs.EachLaws.{left_all, left_next, left_found, left_none}
use Rattle.replica.specs.Inner.{first_host}
use Rattle.replica.proofs.first_host.Goals as goal

abbrev first : ℕ → List (List ℕ) → ℕ
first host ys = first_host host (map entry_of ys)

next : (host : ℕ) (x y : List ℕ) (ys : List (List ℕ)) → take entry_width y ≡ x → first host (y ∷ ys) ≡ cond (may_host host (entry_of x)) (entry_of x).id (first host ys)
unfolding first_host
next host x y ys h = ap (λ (e : Entry). cond (may_host host e) e.id (first host ys)) (sym (entry_cut y) ∙ ap entry_of h)

pub loop-row-init : goal.loop-row-init
loop-row-init c = left_all (first c.args.host) c.each-row-items.ensures.rows c.into_iter-row-iterator.ensures.into_iter_gives

pub returns-then-may_host : goal.returns-then-may_host
returns-then-may_host c =
    let x = c.in-Some.row in let host = c.args.host in
    let e : may_host host (entry_of x.now) ≡ true = sym c.may_host.ensures ∙ c.if-may_host.true in
    left_found c.loop-row.invariant c.next.new.self x c.in-Some.ensures.steps (entry_of x.now).id (λ y ys h. next host x.now y ys h ∙ rw e)

pub loop-row-preserved : goal.loop-row-preserved
loop-row-preserved c =
    let x = c.in-Some.row in let host = c.args.host in
    let e : may_host host (entry_of x.now) ≡ false = sym c.may_host.ensures ∙ c.if-may_host.false in
    left_next c.loop-row.invariant c.next.new.self x c.in-Some.ensures.steps (first host) (λ y ys h. next host x.now y ys h ∙ rw e)

pub returns : goal.returns
unfolding first_host
returns c = left_none c.loop-row.invariant c.next.new.self c.in-None.ensures.steps
