-- `apply` meets its contract: by cases on what the row says that the operation does.
use mathlib.Core.Path.{◌≡◌, ap, ◌∙◌}
use Prim.Native.Nat.{ℕ}
use native.Mathlib.Omega.{arith}
use mathlib.Core.List.{List}
use lib.ListN.{length, take, drop, get_or, length-drop}
use lib.Seq.{take_all}
use Rattle.table_rules.specs.WordsSaid.{act_word}
use Rattle.table_rules.specs.declared.Act.TheVariants.{Add, Remove, Join, Leave}
use Rattle.table_words.specs.Layout.{entry_width, operation_width}
use Rattle.table_apply.proofs.ApplyLaws.{noop_applied, empty_noop}
use Rattle.table_words.proofs.OperationRows.{entry_behind, adds_entry_law, removes_entry, joins_pair, leaves_pair, does_nothing}
use Rattle.table_apply.proofs.apply.Goals as goal

part_all : (r : List ℕ) → length r ≡ operation_width → take entry_width (drop 1 r) ≡ drop 1 r
part_all r h = take_all entry_width (drop 1 r) (omega (arith, length-drop 1 r))

pub add_entry-requires : goal.add_entry-requires
add_entry-requires c =
    let r = c.args.row.now in
    rw (part_all r c.told-row) (c.requires.0, length-drop 1 r ∙ omega (arith, c.told-row), entry_behind r (c.in-Ok-Add.ensures ∙ ap act_word c.in-Ok-Add.field-0-is) c.requires.1)

pub returns-in-Ok-Add : goal.returns-in-Ok-Add
returns-in-Ok-Add c =
    let r = c.args.row.now in
    rw (adds_entry_law r (c.in-Ok-Add.ensures ∙ ap act_word c.in-Ok-Add.field-0-is) c.requires.1) (rw (part_all r c.told-row) at c.add_entry.ensures)

pub returns-in-Ok-Remove : goal.returns-in-Ok-Remove
returns-in-Ok-Remove c = rw (removes_entry c.args.row.now (c.in-Ok-Remove.ensures ∙ ap act_word c.in-Ok-Remove.field-0-is)) c.remove_entry.ensures

pub returns-in-Ok-Join : goal.returns-in-Ok-Join
returns-in-Ok-Join c = rw (joins_pair c.args.row.now (c.in-Ok-Join.ensures ∙ ap act_word c.in-Ok-Join.field-0-is)) c.join.ensures

pub returns-in-Ok-Leave : goal.returns-in-Ok-Leave
returns-in-Ok-Leave c = rw (leaves_pair c.args.row.now (c.in-Ok-Leave.ensures ∙ ap act_word c.in-Ok-Leave.field-0-is)) c.leave.ensures

pub returns-in-Err : goal.returns-in-Err
returns-in-Err c =
    let r = c.args.row.now in let l = c.args.w.now in let e = c.in-Err.ensures.1 in
    rw (does_nothing r (e Add) (e Remove) (e Join) (e Leave)) (noop_applied l _ c.requires.0 (empty_noop l (get_or r 5 0)))
