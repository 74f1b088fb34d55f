-- `check_url` meets its contract: what stands before the first zero.
use Rattle.std.proofs.Common.{◌≡◌, sym, ◌∙◌, rules, tests, eqb}
use Rattle.std.specs.List.{position}
use Rattle.std.proofs.lemmas.Iterator.{YieldsList-from_slice}
use Rattle.std.proofs.lemmas.Iterator.Search.{position_from_yields_List}
use Rattle.wire_text.proofs.TextLaws.{said, url_found, url_none}
use Rattle.wire_text.proofs.check_url.Goals as goal

pub returns-in_err-zero : goal.returns-in_err-zero
returns-in_err-zero c =
    let s = c.args.s.now in
    let p : c.position.result ≡ position (λ x. eqb x 0) s =
    position_from_yields_List (λ x. eqb x 0) _ _ _ c.position.ensures.ran (YieldsList-from_slice s cc) (λ x b q k. search (rules, tests)) in
    c.from_residual.ensures ∙ url_none s (sym p ∙ c.in_err-zero.was)

pub returns : goal.returns
returns c =
    let s = c.args.s.now in
    let p : c.position.result ≡ position (λ x. eqb x 0) s =
    position_from_yields_List (λ x. eqb x 0) _ _ _ c.position.ensures.ran (YieldsList-from_slice s cc) (λ x b q k. search (rules, tests)) in
    c.then_some.ensures ∙ said _ _ ∙ url_found s c.in_ok-zero.zero (sym p ∙ c.in_ok-zero.was)
