-- `put_start` meets its contract: by the number, then by whether the words are valid.
use mathlib.Core.Path.{◌≡◌, sym, ◌∙◌}
use mathlib.Core.Bool.{true, false}
use borrow.Author.Tests.{eq-eqb, ne_eqb}
use Rattle.show_text.specs.Text.{ascii}
use Rattle.show_text.proofs.PageLaws.{put_then}
use Rattle.replica.specs.Valid.{valid_of}
use Rattle.show_trace.specs.Trace.{start_text}
use Rattle.show_trace.proofs.put_start.Goals as goal

pub returns-then-number-ne0 : goal.returns-then-number-ne0
unfolding ascii start_text
returns-then-number-ne0 c =
    rw (ne_eqb c.args.number 0 c.if-number-ne0.true) (put_then _ _ _ c.text.ensures c.put_refused_line.ensures)

pub returns-then-not-is_valid : goal.returns-then-not-is_valid
unfolding ascii start_text
returns-then-not-is_valid c =
    let v : valid_of c.args.w.now ≡ false = sym c.is_valid.ensures ∙ c.if-not-is_valid.true in
    rw (eq-eqb c.args.number 0 c.if-number-ne0.false, v) (put_then _ _ _ c.text.ensures (c.put_refused_line-then-not-is_valid.ensures ∙ rw c.number.ensures))

pub put_table-requires : goal.put_table-requires
put_table-requires c = sym c.is_valid.ensures ∙ c.if-not-is_valid.false

pub returns : goal.returns
unfolding ascii start_text
returns c =
    let v : valid_of c.args.w.now ≡ true = sym c.is_valid.ensures ∙ c.if-not-is_valid.false in
    rw (eq-eqb c.args.number 0 c.if-number-ne0.false, v) (put_then _ _ _ c.text.ensures c.put_table.ensures)
