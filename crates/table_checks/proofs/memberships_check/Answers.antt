-- `memberships_check` meets its contract: each return by the tests that led there.
use Rattle.table_checks.proofs.memberships_check.Goals as goal

pub returns-then-not-pairs_rise : goal.returns-then-not-pairs_rise
returns-then-not-pairs_rise c = rw (← c.pairs_rise.ensures, c.if-not-pairs_rise.true)

pub returns-then-not-all_name : goal.returns-then-not-all_name
returns-then-not-all_name c =
    let p = c.pairs_rise in let a = c.all_name in
    rw (← p.ensures, c.if-not-pairs_rise.false, ← a.ensures, c.if-not-all_name.true)

pub returns : goal.returns
returns c =
    let p = c.pairs_rise in let a = c.all_name in
    rw (← p.ensures, c.if-not-pairs_rise.false, ← a.ensures, c.if-not-all_name.false)
