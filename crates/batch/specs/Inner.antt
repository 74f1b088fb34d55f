-- What inner functions compute. No public contract cites it.
use Rattle.std.specs.Prelude.{ℕ, List, drop}
use Rattle.framing.specs.Frames.{first_message, next_place}
use Rattle.replica.specs.Deliver.{deliver_of}
use Rattle.batch.specs.declared.Turn.{Turn}
use Rattle.batch.specs.Batch.{record_of}

-- the message at a place
abbrev pub message_at : List ℕ → ℕ → List ℕ
message_at s at = first_message (drop at s)

-- its delivery, and the place of the next
unfoldable pub turn_of : List ℕ → List ℕ → ℕ → Turn
turn_of l s at = record { at = next_place s at; answer = record_of (deliver_of l (message_at s at)).answer }
