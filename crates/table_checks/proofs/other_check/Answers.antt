-- `other_check` meets its contract: each return by the conditions of the numbers up to its own.
use mathlib.Core.Path.{◌≡◌, sym, ◌∙◌}
use mathlib.Core.Bool.{true, false}
use Rattle.table_rules.specs.Valid.{meets}
use Rattle.table_words.specs.Words.{entry_count, table_of}
use Rattle.table_checks.proofs.CheckLaws.{meets_entries, meets_host, meets_memberships, entry_no, host_no, membership_no}
use Rattle.table_checks.proofs.other_check.Goals as goal

pub returns-then-not-entries_valid : goal.returns-then-not-entries_valid
returns-then-not-entries_valid c =
    let l = c.args.w.now in
    let n = c.entries-rows.ensures in
    let e : meets 24 (table_of l) ≡ false =
    meets_entries l c.requires.w_value.0 c.requires.w_value.1 ∙ sym (c.entries_valid.ensures ∙ rw (n.0, n.1)) ∙ c.if-not-entries_valid.true in
    entry_no (table_of l) e

pub returns-then-not-host_valid : goal.returns-then-not-host_valid
returns-then-not-host_valid c =
    let l = c.args.w.now in
    let n = c.entries-rows.ensures in
    let e : meets 24 (table_of l) ≡ true =
    meets_entries l c.requires.w_value.0 c.requires.w_value.1 ∙ sym (c.entries_valid.ensures ∙ rw (n.0, n.1)) ∙ c.if-not-entries_valid.false in
    let h : meets 25 (table_of l) ≡ false = meets_host l ∙ sym (c.host_valid.ensures ∙ rw (n.0, n.1)) ∙ c.if-not-host_valid.true in
    host_no (table_of l) e h

pub returns : goal.returns
returns c =
    let l = c.args.w.now in
    let n = c.entries-rows.ensures in
    let e : meets 24 (table_of l) ≡ true =
    meets_entries l c.requires.w_value.0 c.requires.w_value.1 ∙ sym (c.entries_valid.ensures ∙ rw (n.0, n.1)) ∙ c.if-not-entries_valid.false in
    let h : meets 25 (table_of l) ≡ true = meets_host l ∙ sym (c.host_valid.ensures ∙ rw (n.0, n.1)) ∙ c.if-not-host_valid.false in
    c.memberships_check.ensures ∙ rw (n.0, n.1, c.memberships.ensures.0, c.memberships.ensures.1, ← meets_memberships l) (membership_no (table_of l) e h)
