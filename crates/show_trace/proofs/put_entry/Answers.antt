-- `put_entry` meets its contract: its parts are put one after another.
use mathlib.Core.Path.{ap, ◌∙◌}
use mathlib.Core.List.{List}
use Prim.Native.Nat.{ℕ}
use native.Mathlib.Omega.{arith}
use Rattle.names.specs.Words.{name_of}
use Rattle.rows.proofs.PlaceLaws.{behind_row_law}
use Rattle.table_words.specs.Layout.{entry_numbers}
use Rattle.show_text.specs.Text.{ascii}
use Rattle.show_text.specs.Page.{with_text}
use Rattle.show_text.proofs.PageLaws.{put_then}
use Rattle.show_trace.specs.Trace.{name_start, entry_start}
use Rattle.show_trace.proofs.put_entry.Goals as goal

pub put_name-requires : goal.put_name-requires
put_name-requires c = omega (arith, c.requires)

pub returns : goal.returns
unfolding ascii entry_start
returns c =
    let n = ap (λ (y : List ℕ). with_text c.named-4.new.self (name_start (name_of y))) (behind_row_law entry_numbers c.args.row.now) in
    put_then _ _ _ c.put_kind.ensures (put_then _ _ _ c.named.ensures (put_then _ _ _ c.named-2.ensures (put_then _ _ _ c.named-3.ensures
    (put_then _ _ _ c.named-4.ensures (c.put_name.ensures ∙ n)))))
