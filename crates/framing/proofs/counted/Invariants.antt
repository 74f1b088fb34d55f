-- `counted` meets its contract: the messages so far and those that are left are all of them.
use mathlib.Core.Path.{◌≡◌}
use Prim.Native.Nat.{◌+◌}
use lib.ListN.{length}
use Rattle.framing.specs.Frames.{messages_in, messages_left}
use Rattle.framing.proofs.FrameLaws.{taken}
use Rattle.framing.proofs.counted.Given as goal

abbrev pub invariant-loop-message : goal.invariant-loop-message
invariant-loop-message l =
    (l.messages + length (messages_left l.message-iterator) ≡ length (messages_in l.s))
    × (l.end + taken (messages_left l.message-iterator) ≡ taken (messages_in l.s))
