-- `by_value_snapshot_write` meets its contract: the struct of the library's answer, and the buffer that it leaves.
use mathlib.Core.Path.{ap, ◌∙◌}
use Rattle.c_types.specs.Answers.{written_data}
use Rattle.by_value.proofs.by_value_snapshot_write.Goals as goal

pub returns : goal.returns
returns c =
    let e = c.write.ensures in record {
      answer = c.written_data.ensures ∙ ap written_data e.answer;
      buffer = e.buffer;
    }
