-- `table_check` meets its contract: the ids, then the other conditions.
use mathlib.Core.Path.{◌≡◌, sym, ◌∙◌}
use mathlib.Core.Bool.{true, false}
use Rattle.table_rules.specs.Valid.{ids_distinct}
use Rattle.table_rules.proofs.NumberLaws.{repeated_no_law}
use Rattle.table_words.specs.Words.{table_of}
use Rattle.table_checks.proofs.CheckLaws.{table_ids}
use Rattle.table_checks.proofs.table_check.Goals as goal

pub returns-then-not-distinct_by : goal.returns-then-not-distinct_by
returns-then-not-distinct_by c =
    let d = c.distinct_by in
    let l = c.args.w.now in
    let e : ids_distinct (table_of l).entries ≡ false = sym (table_ids l) ∙ sym (d.ensures ∙ rw (c.entries-rows.ensures.0, c.entries-rows.ensures.1)) ∙ c.if-not-distinct_by.true in
    sym (repeated_no_law (table_of l) e)

pub other_check-requires : goal.other_check-requires
other_check-requires c =
    let d = c.distinct_by in
    let l = c.args.w.now in
    let e : ids_distinct (table_of l).entries ≡ true = sym (table_ids l) ∙ sym (d.ensures ∙ rw (c.entries-rows.ensures.0, c.entries-rows.ensures.1)) ∙ c.if-not-distinct_by.false in record {
      w_len = c.requires.w_len;
      w_value = (c.requires.w_value, e);
    }
