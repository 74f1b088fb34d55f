-- `connect_pairs` meets its contract: the first check that fails is the table's answer; where all pass each has its characters.
use lib.Dec.{ltb}
use Rattle.refusal.proofs.AnswerLaws.{not_accepted, passed_on}
use Rattle.wire_field.specs.Words.{whole, word}
use Rattle.wire_layout.specs.Layout.{second, extended_from, connect_pairs}
use Rattle.wire_layout.specs.Checks.{pairs_no}
use Rattle.wire_connect.specs.Connect.{connect_by}
use Rattle.wire_connect.proofs.ConnectLaws.{five_fields}
use Rattle.wire_connect.proofs.connect_pairs.Goals as goal

pub returns-in_err-name-clause-number : goal.returns-in_err-name-clause-number
unfolding pairs_no connect_pairs
returns-in_err-name-clause-number c =
    λ kind. let e = c.in_err-name.ensures.number kind in passed_on _ _ c.from_residual.ensures.1 (rw (not_accepted _ e) e)

pub returns-in_err-pair_check-clause-number : goal.returns-in_err-pair_check-clause-number
unfolding pairs_no connect_pairs
returns-in_err-pair_check-clause-number c =
    λ kind.
    let e = c.in_err-pair_check.ensures.number kind in
    passed_on _ _ c.from_residual-in_err-pair_check.ensures.1 (rw (← c.in_ok-name.ensures.number kind, not_accepted _ e) e)

pub returns-in_err-password-clause-number : goal.returns-in_err-password-clause-number
unfolding pairs_no connect_pairs
returns-in_err-password-clause-number c =
    λ kind.
    let e = c.in_err-password.ensures.number kind in
    passed_on _ _ c.from_residual-in_err-password.ensures.1
    (rw (← c.in_ok-name.ensures.number kind, ← c.in_ok-pair_check.ensures.number kind, not_accepted _ e) e)

pub returns-in_err-pair_check-2-clause-number : goal.returns-in_err-pair_check-2-clause-number
unfolding pairs_no connect_pairs
returns-in_err-pair_check-2-clause-number c =
    λ kind.
    let e = c.in_err-pair_check-2.ensures.number kind in
    passed_on _ _ c.from_residual-in_err-pair_check-2.ensures.1
    (rw (← c.in_ok-name.ensures.number kind, ← c.in_ok-pair_check.ensures.number kind, ← c.in_ok-password.ensures.number kind, not_accepted _ e) e)

pub returns-in_err-url-clause-number : goal.returns-in_err-url-clause-number
unfolding pairs_no connect_pairs
returns-in_err-url-clause-number c =
    λ kind.
    let e = c.in_err-url.ensures.number kind in
    passed_on _ _ c.from_residual-in_err-url.ensures.1
    (rw (
      ← c.in_ok-name.ensures.number kind,
      ← c.in_ok-pair_check.ensures.number kind,
      ← c.in_ok-password.ensures.number kind,
      ← c.in_ok-pair_check-2.ensures.number kind,
      not_accepted _ e,
    ) e)

pub returns-clause-number : goal.returns-clause-number
unfolding pairs_no connect_pairs
returns-clause-number c =
    λ kind.
    rw (
      ← c.in_ok-name.ensures.number kind,
      ← c.in_ok-pair_check.ensures.number kind,
      ← c.in_ok-password.ensures.number kind,
      ← c.in_ok-pair_check-2.ensures.number kind,
      ← c.in_ok-url.ensures.number kind,
    )

pub returns-clause-counts : goal.returns-clause-counts
unfolding connect_by
returns-clause-counts c =
    λ kind.
    let m = whole kind c.args.rest.now in
    let five = five_fields (ltb (word m second) extended_from) m in record {
      name = rw five (c.in_ok-name.ensures.characters kind);
      password = rw five (c.in_ok-password.ensures.characters kind);
      url = rw five (c.in_ok-url.ensures.characters kind);
    }
