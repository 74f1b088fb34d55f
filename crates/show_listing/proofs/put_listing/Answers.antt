-- `put_listing` meets its contract: what is read and followed is the replay of the input's parts.
use mathlib.Core.Path.{ap, sym, ◌∙◌}
use Rattle.refusal.specs.Numbers.{no_of}
use Rattle.refusal.proofs.NumberLaws.{no_of_ok, no_of_err, no_of_err_some}
use mathlib.Core.Bool.{Bool}
use mathlib.Core.List.{◌++◌}
use lib.ListN.{take}
use Rattle.show_text.specs.Page.{with_text}
use Rattle.show_text.proofs.PageLaws.{put_then}
use Rattle.table_words.specs.Words.{fresh_words, table_of}
use Rattle.snapshot.specs.Saved.{Load}
use Rattle.show_listing.specs.Listing.{max_input, refused_listing, table_text, cut_line}
use Rattle.show_listing.proofs.ListingLaws.{read_is, back_is, refused_listing_law, followed_valid, accepted_listing}
use Rattle.show_listing.proofs.put_listing.Goals as goal

pub returns-in-Err : goal.returns-in-Err
unfolding fresh_words
returns-in-Err c =
    let input = c.args.input.now in let l : Load = record { number = no_of c.read_in.result; words = c.read_in.new.w } in
    let r = c.front-s.result.now in let end = c.first_end-end.result in
    let e = read_is r (take max_input input) c.front.result.now end c.front-s.ensures c.first_end-end.ensures l c.front.ensures c.read_in.ensures in
    c.put_refused.ensures ∙ ap (with_text c.args.page.now) (ap refused_listing (c.number.ensures ∙ sym (no_of_err c.read_in.result c.in-Err.refusal c.in-Err.is)) ∙ refused_listing_law input l e (no_of_err_some c.read_in.result c.in-Err.refusal c.in-Err.is))

pub put_table-requires : goal.put_table-requires
unfolding fresh_words
put_table-requires c =
    let input = c.args.input.now in let l : Load = record { number = no_of c.read_in.result; words = c.read_in.new.w } in
    let r = c.front-s.result.now in let end = c.first_end-end.result in
    let e = read_is r (take max_input input) c.front.result.now end c.front-s.ensures c.first_end-end.ensures l c.front.ensures c.read_in.ensures in
    followed_valid input l e c.follow-tail.new.w c.back.result.now c.follow-tail.ensures.words

pub returns : goal.returns
unfolding fresh_words
returns c =
    let input = c.args.input.now in let l : Load = record { number = no_of c.read_in.result; words = c.read_in.new.w } in
    let r = c.front-s.result.now in let end = c.first_end-end.result in
    let e = read_is r (take max_input input) c.front.result.now end c.front-s.ensures c.first_end-end.ensures l c.front.ensures c.read_in.ensures in
    let q = c.back.result.now in let w = c.follow-tail.new.w in
    put_then _ _ _ c.put_table.ensures c.put_cut.ensures
    ∙ ap (with_text c.args.page.now) (ap (λ (b : Bool). table_text (table_of w) ++ cut_line b) c.is_cut.ensures
    ∙ accepted_listing input l e w q c.follow-tail.ensures.words c.follow-tail.result (no_of_ok c.read_in.result _ c.in_default.is) (back_is r (take max_input input) q end c.front-s.ensures c.first_end-end.ensures c.back.ensures) c.follow-tail.ensures.tail)
