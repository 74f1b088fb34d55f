-- `drop_memberships` meets its contract: where no row passes all stay, else the rows that stay are the memberships that stay.
use mathlib.Core.Path.{◌≡◌, sym, ◌∙◌}
use mathlib.Core.Bool.{true, false}
use native.Mathlib.Omega.{arith}
use lib.ListN.{length}
use Rattle.lists.specs.Lists.{any}
use Rattle.rows.specs.Rows.{taken_out, kept_words, words_are}
use Rattle.table_words.specs.Layout.{membership_width}
use Rattle.table_words.specs.Words.{membership_count, membership_part, table_of}
use Rattle.table_apply.specs.Applied.{pair_is}
use Rattle.table_apply.proofs.ApplyLaws.{has_pairs, no_pairs, dropped_pairs, pairs_left}
use Rattle.table_apply.proofs.drop_memberships.Goals as goal

pub returns-then-not-has_row : goal.returns-then-not-has_row
returns-then-not-has_row c =
    let a = c.args in let l = a.w.now in
    let none : any (pair_is a.c a.a a.d a.b) (table_of l).memberships ≡ false =
    sym (has_pairs a.c a.a a.d a.b c.requires.1 c.requires.2 l c.requires.0) ∙ sym (c.has_row.ensures ∙ rw (c.memberships.ensures.0, c.memberships.ensures.1)) ∙ c.if-not-has_row.true in
    (sym none, no_pairs a.c a.a a.d a.b c.requires.1 c.requires.2 l c.requires.0 none)

pub short-requires : goal.short-requires
short-requires c =
    let a = c.args in let l = a.w.now in
    let n : c.small-m.result ≡ membership_count l = c.small-m.ensures in
    let r : c.take_out-kept.result ≡ length (kept_words (words_are a.c a.a a.d a.b) membership_width (membership_count l) (membership_part l)) = c.take_out-kept.ensures.0 ∙ rw n in
    omega (arith, r, pairs_left a.c a.a a.d a.b c.requires.1 c.requires.2 l c.requires.0)

pub returns : goal.returns
returns c =
    let a = c.args in let l = a.w.now in
    let n : c.small-m.result ≡ membership_count l = c.small-m.ensures in
    let some : any (pair_is a.c a.a a.d a.b) (table_of l).memberships ≡ true =
    sym (has_pairs a.c a.a a.d a.b c.requires.1 c.requires.2 l c.requires.0) ∙ sym (c.has_row.ensures ∙ rw (c.memberships.ensures.0, c.memberships.ensures.1)) ∙ c.if-not-has_row.false in
    let r : c.take_out-kept.result ≡ length (kept_words (words_are a.c a.a a.d a.b) membership_width (membership_count l) (membership_part l)) = c.take_out-kept.ensures.0 ∙ rw n in
    let z : c.take_out-kept.new.s ≡ taken_out (words_are a.c a.a a.d a.b) membership_width (membership_count l) (membership_part l) = c.take_out-kept.ensures.1 ∙ rw n in
    (sym some, rw c.short.ensures (dropped_pairs a.c a.a a.d a.b c.requires.1 c.requires.2 l c.requires.0 c.take_out-kept.new.s c.take_out-kept.result r z))
