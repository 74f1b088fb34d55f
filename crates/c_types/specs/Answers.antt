-- What writing a message or a snapshot and the next host answer, as the structs of include/dp8.h. The replica itself is its words, so that
-- the library's definitions stand in the contracts as they are; the record of a delivery and the answer of a batch are crate batch's.
use Rattle.std.specs.Prelude.{ℕ, Result, Ok, Err}
use Rattle.refusal.specs.declared.Refusal.{Refusal}
use Rattle.refusal.specs.Numbers.{number}
use Rattle.c_types.specs.declared.WrittenData.{WrittenData}
use Rattle.c_types.specs.declared.NextHostData.{NextHostData}

-- Those named by take whatever a call was refused with, by the number of that; the library's own answers are refused with a refusal.

-- the number of an answer: 0 where it is accepted
abbrev pub number_by : {A E : Type 0} → (E → ℕ) → Result A E → ℕ
number_by by (Err why) = by why
number_by by (Ok a) = 0

-- of a message and of a snapshot: the number and no bytes, or 0 and how many bytes were written
abbrev pub written_by : {E : Type 0} → (E → ℕ) → Result ℕ E → WrittenData
written_by by (Err why) = record { number = by why; bytes = 0 }
written_by by (Ok n) = record { number = 0; bytes = n }

-- what the library's writers answer
abbrev pub written_data : Result ℕ Refusal → WrittenData
written_data = written_by number

-- the number, or 0 and the id
abbrev pub next_host_by : {E : Type 0} → (E → ℕ) → Result ℕ E → NextHostData
next_host_by by (Err why) = record { number = by why; id = 0 }
next_host_by by (Ok i) = record { number = 0; id = i }

-- what a replica answers
abbrev pub next_host_data : Result ℕ Refusal → NextHostData
next_host_data = next_host_by number
