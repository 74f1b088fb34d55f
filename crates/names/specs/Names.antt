-- The name of an entry (paper 02, A3): UTF-16 units without a terminator.
use Rattle.std.specs.Prelude.{ℕ, Bool, not, ◌&&◌, List, [], ◌∷◌, length, eqb, leb, ltb}
use Rattle.lists.specs.Lists.{every}
use Rattle.byte_words.specs.declared.Order.{Order}
use Rattle.byte_words.specs.Bytes.{value_of}

-- the most units that are kept
abbrev pub max_name : ℕ
max_name = 31

-- a unit has 16 bits
abbrev pub unit_limit : ℕ
unit_limit = 65536

-- a unit that may stand in a name: not 0
abbrev pub is_name_unit : ℕ → Bool
is_name_unit u = not (eqb u 0) && ltb u unit_limit

-- at most so many, none of them 0; the empty name is one
unfoldable pub valid_name : List ℕ → Bool
valid_name us = leb (length us) max_name && every is_name_unit us

-- the units of bytes, two bytes each, in an order; a byte left over counts for nothing
abbrev pub units_of : Order → List ℕ → List ℕ
units_of o [] = []
units_of o (a ∷ []) = []
units_of o (a ∷ (b ∷ bs)) = value_of o (a ∷ b ∷ []) ∷ units_of o bs
