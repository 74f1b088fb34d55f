-- What an inner function computes. No public contract cites it.
use Rattle.std.specs.Prelude.{ℕ, Result, Ok, Err}
use Rattle.refusal.specs.declared.Refusal.{Refusal}

-- the id that an answer has; a replica that is listed is valid, and so its next host is never refused
abbrev pub id_in : Result ℕ Refusal → ℕ
id_in (Ok id) = id
id_in (Err why) = 0
