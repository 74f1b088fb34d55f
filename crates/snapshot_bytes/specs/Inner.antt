-- What only inner functions and proofs need. No public contract cites it.
use Rattle.std.specs.Prelude.{ℕ, List, ◌++◌, length, drop}

-- no position is near this: sums of positions do not wrap
abbrev pub far : ℕ
far = 1048576

-- an entry has at most so many bytes: its numbers, the length byte, and as many as that says
abbrev pub most_entry : ℕ
most_entry = 277

-- words over those at the front
abbrev pub onto : List ℕ → List ℕ → List ℕ
onto l xs = xs ++ drop (length xs) l
