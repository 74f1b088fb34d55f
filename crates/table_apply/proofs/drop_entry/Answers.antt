-- `drop_entry` meets its contract: the rows that stay are the entries that stay, and fewer of them where the entry was there.
use mathlib.Core.Path.{◌≡◌, ◌∙◌}
use native.Mathlib.Omega.{arith}
use lib.ListN.{length}
use Rattle.table_apply.proofs.ApplyLaws.{was_there, dropped_entry, entries_left}
use Rattle.rows.specs.Rows.{taken_out, kept_words, words_are}
use Rattle.table_words.specs.Layout.{entry_width}
use Rattle.table_words.specs.Words.{entry_count, entry_part}
use Rattle.table_apply.proofs.drop_entry.Goals as goal

pub short-requires : goal.short-requires
short-requires c =
    let l = c.args.w.now in
    let n : c.small-n.result ≡ entry_count l = c.small-n.ensures in
    let r : c.take_out-kept.result ≡ length (kept_words (words_are 0 c.args.kind 1 c.args.id) entry_width (entry_count l) (entry_part l)) = c.take_out-kept.ensures.0 ∙ rw n in
    omega (arith, r, entries_left l c.args.kind c.args.id c.requires)

pub returns : goal.returns
returns c =
    let l = c.args.w.now in let k = c.args.kind in let i = c.args.id in
    let n : c.small-n.result ≡ entry_count l = c.small-n.ensures in
    let r : c.take_out-kept.result ≡ length (kept_words (words_are 0 k 1 i) entry_width (entry_count l) (entry_part l)) = c.take_out-kept.ensures.0 ∙ rw n in
    let z : c.take_out-kept.new.s ≡ taken_out (words_are 0 k 1 i) entry_width (entry_count l) (entry_part l) = c.take_out-kept.ensures.1 ∙ rw n in
    (rw n (was_there l k i c.requires c.take_out-kept.result r), rw c.short.ensures (dropped_entry l k i c.requires c.take_out-kept.new.s c.take_out-kept.result r z))
