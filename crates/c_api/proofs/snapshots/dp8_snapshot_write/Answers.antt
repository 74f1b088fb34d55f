-- `dp8_snapshot_write` meets its contract: the struct of the library's answer, and the buffer that it leaves.
use mathlib.Core.Path.{ap, ◌∙◌}
use Rattle.c_types.specs.Answers.{written_data}
use Rattle.c_api.proofs.snapshots.dp8_snapshot_write.Goals as goal

pub returns : goal.returns
returns c =
    let e = c.write_from.ensures in record {
      answer = c.written_data.ensures ∙ ap written_data e.answer;
      buffer = e.buffer;
    }
