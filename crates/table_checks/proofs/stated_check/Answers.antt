-- `stated_check` meets its contract: the names, then the other conditions.
use mathlib.Core.Path.{◌≡◌, sym, ◌∙◌}
use mathlib.Core.Bool.{true, false}
use Rattle.lists.specs.Lists.{every}
use Rattle.table_rules.specs.Valid.{has_a_name}
use Rattle.table_words.specs.Words.{table_of}
use Rattle.table_checks.proofs.CheckLaws.{names_are, name_no_law}
use Rattle.table_checks.proofs.stated_check.Goals as goal

pub returns-then-not-names_valid : goal.returns-then-not-names_valid
returns-then-not-names_valid c =
    let v = c.names_valid in
    let l = c.args.w.now in
    let e : every has_a_name (table_of l).entries ≡ false =
    sym (names_are l c.requires.0) ∙ sym (v.ensures ∙ rw (c.entries-rows.ensures.0, c.entries-rows.ensures.1)) ∙ c.if-not-names_valid.true in
    name_no_law (table_of l) e

pub other_check-requires : goal.other_check-requires
other_check-requires c =
    let v = c.names_valid in
    let l = c.args.w.now in
    let p = c.requires.0 in
    let e : every has_a_name (table_of l).entries ≡ true =
    sym (names_are l p) ∙ sym (v.ensures ∙ rw (c.entries-rows.ensures.0, c.entries-rows.ensures.1)) ∙ c.if-not-names_valid.false in record {
      w_len = (p.long, p.entries_fit, p.memberships_fit);
      w_value = (e, c.requires.1);
    }
