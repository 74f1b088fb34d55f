-- after i turns the first i words stand there
use Rattle.std.proofs.Common.{◌≡◌, length, take}
use Rattle.byte_words.specs.Bytes.{put, words}
use Rattle.byte_words.proofs.put_words.Given as goal

abbrev pub invariant-loop-i : goal.invariant-loop-i
invariant-loop-i l = (length l.buf ≡ length l.initial.buf) × (l.buf ≡ put l.initial.buf l.at (words l.order (take l.i l.ws)))
