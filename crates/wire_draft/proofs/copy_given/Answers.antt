-- `copy_given` meets its contract: a field that is not given has no bytes to put.
use mathlib.Core.Path.{sym}
use Rattle.byte_words.proofs.RunLaws.{put_none}
use Rattle.wire_draft.proofs.copy_given.Goals as goal

pub returns-in-None-clause-buffer : goal.returns-in-None-clause-buffer
returns-in-None-clause-buffer c = rw c.in-None.is (sym (put_none c.args.buf.now c.args.at))
