-- Laws of what a call answers, for the calls that pass a refusal on with `?`.
use mathlib.Core.Path.{◌≡◌, ap, ◌∙◌}
use Prim.Native.Nat.{ℕ}
use mathlib.Core.Bool.{false}
use lib.Dec.{eqb}
use native.Mathlib.Omega.{arith}
use borrow.Author.Tests.{ne_eqb}
use Rattle.std.specs.Prelude.{Result, Ok, Err, IsErrAnd}
use Rattle.refusal.specs.declared.Refusal.{Refusal}
use Rattle.refusal.specs.Numbers.{number, no_of}
use Rattle.refusal.proofs.NumberLaws.{number_positive}

-- the number of a refusal is not that of an accepted call
pub not_accepted : (why : Refusal) {n : ℕ} → number why ≡ n → eqb n 0 ≡ false
not_accepted why {n} e = ne_eqb n 0 (λ z. omega (arith, number_positive why, e, z))

-- what `?` passes on: the refusal, and its number
pub passed_why : {A : Type 0} (r : Result A Refusal) (why : Refusal) → IsErrAnd r (λ y. y ≡ why) → r ≡ Err why
passed_why (Ok a) why h = elim h [ ]
passed_why (Err y) why h = ap Err h

pub passed_on : {A : Type 0} (r : Result A Refusal) (why : Refusal) {n : ℕ} → IsErrAnd r (λ y. y ≡ why) → number why ≡ n → no_of r ≡ n
passed_on r why h e = ap no_of (passed_why r why h) ∙ e
