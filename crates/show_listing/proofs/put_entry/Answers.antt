-- `put_entry` meets its contract: its parts are put one after another.
use borrow.Author.Rules.{rules}
use mathlib.Core.Path.{ap, ◌∙◌}
use mathlib.Core.List.{List}
use Prim.Native.Nat.{ℕ}
use Rattle.characters.specs.Characters.{characters}
use Rattle.names.specs.Words.{name_of}
use Rattle.rows.proofs.PlaceLaws.{behind_row_law}
use Rattle.table_words.specs.Layout.{entry_numbers}
use Rattle.show_text.specs.Text.{ascii, named}
use Rattle.show_text.specs.Page.{with_text}
use Rattle.show_text.proofs.PageLaws.{put_then}
use Rattle.show_listing.specs.Listing.{entry_line}
use Rattle.show_listing.proofs.put_entry.Goals as goal

pub returns : goal.returns
unfolding ascii entry_line
returns c =
    let r = ap (λ (y : List ℕ). characters (name_of y)) (behind_row_law entry_numbers c.args.row.now) in
    put_then _ _ _ c.kind.ensures (put_then _ _ _ c.decimal.ensures (put_then _ _ _ c.named.ensures
    (put_then _ _ _ (c.named-2.ensures ∙ ap (λ (n : ℕ). with_text c.named.new.self (named (ascii " ") n)) (search rules ∙ r)) c.text.ensures)))
