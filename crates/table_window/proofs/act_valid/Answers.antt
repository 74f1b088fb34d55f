-- `act_valid` meets its contract: no act has that word.
use Rattle.table_window.proofs.RowTests.{no_act}
use Rattle.table_window.proofs.act_valid.Goals as goal

pub returns-in-Err : goal.returns-in-Err
returns-in-Err c = no_act c.args.row.now c.in-Err.field-0 c.in-Err.ensures
