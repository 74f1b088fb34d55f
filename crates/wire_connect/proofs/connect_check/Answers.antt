-- `connect_check` meets its contract: by the DNET version; the extended form has one field more.
use mathlib.Core.Path.{sym, ◌∙◌}
use Rattle.refusal.proofs.AnswerLaws.{not_accepted, passed_on}
use Rattle.wire_field.specs.Words.{whole}
use Rattle.wire_field.proofs.WholeLaws.{length_whole}
use Rattle.wire_layout.specs.Layout.{connect_layout}
use Rattle.wire_layout.proofs.LieLaws.{fixed_whole}
use Rattle.wire_connect.specs.Connect.{connect_by}
use Rattle.wire_connect.proofs.ConnectLaws.{five_decide, address_decides}
use borrow.Author.Tests.{lt-ltb, le-ltb}
use native.Mathlib.Omega.{arith}
use Rattle.wire_connect.proofs.connect_check.Goals as goal

pub returns-then-word_at-lt-EXTENDED_FROM-clause-number : goal.returns-then-word_at-lt-EXTENDED_FROM-clause-number
unfolding connect_by
returns-then-word_at-lt-EXTENDED_FROM-clause-number c =
    let w = c.word_at in
    λ kind. rw (← w.ensures kind, lt-ltb w.result 7 c.if-word_at-lt-EXTENDED_FROM.true) (c.form_check.ensures.number kind)

pub returns-in_err-five-clause-number : goal.returns-in_err-five-clause-number
unfolding connect_by
returns-in_err-five-clause-number c =
    let w = c.word_at in
    λ kind.
    let e = c.in_err-five.ensures.number kind in
    passed_on _ _ c.from_residual.ensures.1
    (rw (← w.ensures kind, le-ltb w.result 7 c.if-word_at-lt-EXTENDED_FROM.false) (e ∙ five_decide _ (not_accepted _ e)))

pub pair_check-requires : goal.pair_check-requires
unfolding connect_layout
pair_check-requires c =
    let h = rw length_whole at (fixed_whole (whole 0 c.args.rest.now) _ (sym (c.in_ok-five.ensures.number 0))) in record {
      type_word_le_at = omega arith;
      at_in_bounds = omega arith;
    }

pub returns-in_err-pair_check-clause-number : goal.returns-in_err-pair_check-clause-number
unfolding connect_by
returns-in_err-pair_check-clause-number c =
    let w = c.word_at in
    λ kind.
    passed_on _ _ c.from_residual-in_err-pair_check.ensures.1
    (rw (← w.ensures kind, le-ltb w.result 7 c.if-word_at-lt-EXTENDED_FROM.false)
    (c.in_err-pair_check.ensures.number kind ∙ address_decides _ (c.in_ok-five.ensures.number kind)))

pub returns : goal.returns
unfolding connect_by
returns c =
    let w = c.word_at in record {
      number = λ kind.
          rw (← w.ensures kind, le-ltb w.result 7 c.if-word_at-lt-EXTENDED_FROM.false)
          (c.in_ok-pair_check.ensures.number kind ∙ address_decides _ (c.in_ok-five.ensures.number kind));
      counts = c.in_ok-five.ensures.counts;
    }
