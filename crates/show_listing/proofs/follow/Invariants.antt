-- `follow` meets its contract: what is left to do, from the words so far, is the whole.
use mathlib.Core.Path.{◌≡◌}
use lib.ListN.{length}
use Rattle.framing.specs.Frames.{messages_in, messages_left}
use Rattle.replay.specs.Run.{replica_after}
use Rattle.show_listing.proofs.follow.Given as goal

abbrev pub invariant-loop-message : goal.invariant-loop-message
invariant-loop-message l =
    (length l.w ≡ length l.initial.w)
    × (replica_after l.initial.w (messages_in l.s) ≡ replica_after l.w (messages_left l.message-iterator))
