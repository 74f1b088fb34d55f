-- `put_added` meets its contract: the numbers, and behind them the name.
use mathlib.Core.Path.{◌≡◌, refl, ap, ◌∙◌}
use Prim.Native.Nat.{ℕ}
use mathlib.Core.List.{List, [], ◌∷◌}
use lib.ListN.{take}
use Rattle.rows.specs.Rows.{put_words}
use Rattle.rows.proofs.MoveLaws.{lent}
use Rattle.names.specs.Words.{name_width, name_words}
use Rattle.names.proofs.NameLaws.{name_wide}
use Rattle.table_rules.specs.Operations.{number_count, act_numbers, act_name}
use Rattle.table_rules.specs.WordsSaid.{kind_word}
use Rattle.table_words.specs.Words.{row_of}
use Rattle.operations.specs.Received.{kept_name}
use Rattle.operations.proofs.NameLaws.{units_little}
use Rattle.operations.proofs.RowLaws.{named_row}
use Rattle.operations.proofs.put_added.Goals as goal

pub returns : goal.returns
unfolding row_of act_numbers act_name
returns c =
    let s = c.args.name.now in let e = c.args.e in let row = c.args.row.now in
    let ns : List ℕ = 1 ∷ kind_word c.args.kind ∷ e.dpnid ∷ e.owner ∷ e.flags ∷ e.version ∷ e.dnet_version ∷ [] in
    let n : c.put_name.new.row ≡ name_words (kept_name s) =
    c.put_name.ensures ∙ ap (λ (us : List ℕ). name_words (take c.kept_units-n.result us)) (units_little s) ∙ ap name_words (c.kept_units-n.ensures.by_index s refl) in
    ap (λ (y : List ℕ). lent number_count name_width y c.put_name.new.row) (rw (c.from.ensures, c.from-2.ensures) at c.put.ensures)
    ∙ ap (λ (y : List ℕ). lent number_count name_width (put_words row 0 ns) y) n
    ∙ named_row row ns (name_words (kept_name s)) c.told-row refl (name_wide (kept_name s))
