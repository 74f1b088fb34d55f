-- `entry_pairs` meets its contract: the first check that fails is the table's answer; where all pass each has its characters.
use Rattle.refusal.proofs.AnswerLaws.{not_accepted, passed_on}
use Rattle.wire_layout.specs.Layout.{entry_pairs}
use Rattle.wire_layout.specs.Checks.{pairs_no, pair_fields}
use Rattle.wire_entry.proofs.entry_pairs.Goals as goal

pub returns-in_err-name-clause-number : goal.returns-in_err-name-clause-number
unfolding pairs_no entry_pairs
returns-in_err-name-clause-number c =
    λ kind. let e = c.in_err-name.ensures.number kind in passed_on _ _ c.from_residual.ensures.1 (rw (not_accepted _ e) e)

pub returns-in_err-pair_check-clause-number : goal.returns-in_err-pair_check-clause-number
unfolding pairs_no entry_pairs
returns-in_err-pair_check-clause-number c =
    λ kind.
    let e = c.in_err-pair_check.ensures.number kind in
    passed_on _ _ c.from_residual-in_err-pair_check.ensures.1 (rw (← c.in_ok-name.ensures.number kind, not_accepted _ e) e)

pub returns-in_err-url-clause-number : goal.returns-in_err-url-clause-number
unfolding pairs_no entry_pairs
returns-in_err-url-clause-number c =
    λ kind.
    let e = c.in_err-url.ensures.number kind in
    passed_on _ _ c.from_residual-in_err-url.ensures.1
    (rw (← c.in_ok-name.ensures.number kind, ← c.in_ok-pair_check.ensures.number kind, not_accepted _ e) e)

pub returns : goal.returns
unfolding pairs_no entry_pairs pair_fields
returns c =
    let name = c.in_ok-name.ensures in
    let url = c.in_ok-url.ensures in record {
      number = λ kind. rw (← name.number kind, ← c.in_ok-pair_check.ensures.number kind, ← url.number kind);
      counts = λ kind. record { name = name.characters kind; url = url.characters kind };
    }
