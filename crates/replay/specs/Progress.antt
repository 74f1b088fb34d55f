-- The messages that paper 02, A11, counts: operations of a version that reading does not refuse.
use Rattle.std.specs.Prelude.{ℕ, Bool, ◌&&◌, List, eqb}
use Rattle.operations.specs.Received.{operation_in}

-- an operation of version v: neither refused by reading (1 to 10) nor a message that is no operation (13)
unfoldable pub is_operation_of : ℕ → List ℕ → Bool
is_operation_of v m = eqb (operation_in m).number 0 && eqb (operation_in m).operation.version v
