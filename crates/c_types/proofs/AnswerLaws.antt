-- The structs of answers, part by part.
use mathlib.Core.Path.{◌≡◌, refl}
use Rattle.std.specs.Prelude.{ℕ, Result, Ok, Err}
use Rattle.std.specs.Result.{result_unwrap_or}
use Rattle.c_types.specs.Answers.{number_by, written_by, next_host_by}

pub written_parts : {E : Type 0} (by : E → ℕ) (r : Result ℕ E) → record { number = number_by by r; bytes = result_unwrap_or r 0 } ≡ written_by by r
written_parts by (Ok n) = refl
written_parts by (Err why) = refl

pub next_host_parts : {E : Type 0} (by : E → ℕ) (r : Result ℕ E) → record { number = number_by by r; id = result_unwrap_or r 0 } ≡ next_host_by by r
next_host_parts by (Ok n) = refl
next_host_parts by (Err why) = refl
