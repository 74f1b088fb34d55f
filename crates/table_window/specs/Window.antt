-- Pending operations (the paper's waiting operations; paper 01, "The station"): the window of places that holds them, and the list
-- of them that the paper speaks of.
use Rattle.std.specs.Prelude.{ℕ, zero, suc, Bool, true, cond, ◌&&◌, List, [], ◌∷◌, eqb}
use Rattle.table_rules.specs.Operations.{Operation, no_operation, is_act}

-- the place holds an operation
unfoldable pub used : Operation → Bool
used o = is_act o.act

-- all but the act is zero
unfoldable pub rest_zero : Operation → Bool
rest_zero o = eqb o.version 0

-- the pending operations, rising by version where the window is valid
unfoldable pub pending_of : List Operation → List Operation
pending_of [] = []
pending_of (o ∷ os) = cond (used o) (o ∷ pending_of os) (pending_of os)

-- each operation stands in the place of its version, places from version v on, and the unused places are zero
unfoldable pub in_place : ℕ → List Operation → Bool
in_place v [] = true
in_place v (o ∷ os) = cond (used o) (eqb o.version v) (rest_zero o) && in_place (suc v) os

-- the n places from version v on that hold a rising list
unfoldable pub window_of : ℕ → ℕ → List Operation → List Operation
window_of v zero os = []
window_of v (suc n) [] = no_operation ∷ window_of (suc v) n []
window_of v (suc n) (o ∷ os) = cond (eqb o.version v) (o ∷ window_of (suc v) n os) (no_operation ∷ window_of (suc v) n (o ∷ os))
