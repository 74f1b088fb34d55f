-- Laws of numbers and refusals.
use mathlib.Core.Path.{◌≡◌, refl, sym, ap, ◌∙◌}
use Prim.Native.Nat.{ℕ, ◌<◌}
use Rattle.std.specs.Prelude.{Bool, true, false, not, cond, List, [], ◌∷◌, Result, Ok, Err, is_err, eqb}
use borrow.Author.Tests.{eqb-true, ne_eqb}
use native.Mathlib.Omega.{arith}
use Rattle.refusal.specs.declared.Refusal.{Refusal}
use Rattle.refusal.specs.declared.Refusal.TheVariants as r
use Rattle.refusal.specs.Numbers.{number, refusals, refusal_among, refusal_of, no_of, refused}

-- a refusal is that of its number
pub of_number : (why : Refusal) → refusal_of (number why) ≡ why
of_number r.MessageTooLong = refl
of_number r.NoTypeWord = refl
of_number r.TypeNotListed = refl
of_number r.UnderFixedPart = refl
of_number r.OverFixedPart = refl
of_number r.ConnectFlags = refl
of_number r.IdZero = refl
of_number r.OffsetWithoutSize = refl
of_number r.FieldOutOfPlace = refl
of_number r.FieldIllFormed = refl
of_number r.NotReadable = refl
of_number r.BufferTooShort = refl
of_number r.NoOperation = refl
of_number r.VersionPassed = refl
of_number r.VersionTooFar = refl
of_number r.AlreadyPending = refl
of_number r.PendingDiffers = refl
of_number r.SnapshotLength = refl
of_number r.SnapshotFormat = refl
of_number r.SnapshotCounts = refl
of_number r.SnapshotEntry = refl
of_number r.SnapshotHost = refl
of_number r.SnapshotMembership = refl
of_number r.SnapshotBuffer = refl
of_number r.ReplicaNotValid = refl
of_number r.TooFewRecords = refl

-- no refusal has the number of an accepted call
pub number_positive : (why : Refusal) → 0 < number why
number_positive r.MessageTooLong = omega arith
number_positive r.NoTypeWord = omega arith
number_positive r.TypeNotListed = omega arith
number_positive r.UnderFixedPart = omega arith
number_positive r.OverFixedPart = omega arith
number_positive r.ConnectFlags = omega arith
number_positive r.IdZero = omega arith
number_positive r.OffsetWithoutSize = omega arith
number_positive r.FieldOutOfPlace = omega arith
number_positive r.FieldIllFormed = omega arith
number_positive r.NotReadable = omega arith
number_positive r.BufferTooShort = omega arith
number_positive r.NoOperation = omega arith
number_positive r.VersionPassed = omega arith
number_positive r.VersionTooFar = omega arith
number_positive r.AlreadyPending = omega arith
number_positive r.PendingDiffers = omega arith
number_positive r.SnapshotLength = omega arith
number_positive r.SnapshotFormat = omega arith
number_positive r.SnapshotCounts = omega arith
number_positive r.SnapshotEntry = omega arith
number_positive r.SnapshotHost = omega arith
number_positive r.SnapshotMembership = omega arith
number_positive r.SnapshotBuffer = omega arith
number_positive r.ReplicaNotValid = omega arith
number_positive r.TooFewRecords = omega arith

-- the refusal of a number that is not the last's has that number
by_test : (b : Bool) {n k : ℕ} (one other : Refusal) → (b ≡ true → n ≡ number one) → (number other ≡ k → n ≡ k) → number (cond b one other) ≡ k → n ≡ k
by_test true one other f g e = f refl ∙ e
by_test false one other f g e = g e

among_back : (n : ℕ) (rs : List Refusal) {k : ℕ} → number (refusal_among n rs) ≡ k → (k ≡ 29 → ⊥) → n ≡ k
among_back n [] e h = absurd (h (sym e))
among_back n (one ∷ more) e h = by_test (eqb n (number one)) one (refusal_among n more) (eqb-true n (number one)) (λ y. among_back n more y h) e

pub number_back : (n : ℕ) {k : ℕ} → number (refusal_of n) ≡ k → (k ≡ 29 → ⊥) → n ≡ k
number_back n e h = among_back n refusals e h

-- what is refused for a reason is refused with its number
pub as_refused : {A : Type 0} (why : Refusal) (n : ℕ) → number why ≡ n → refused {A = A} n ≡ Err why
as_refused why n e = ap Err (ap refusal_of (sym e) ∙ of_number why)

-- an accepted call has no number, a refused one has that of its refusal
pub no_of_ok : {A : Type 0} (r : Result A Refusal) (a : A) → r ≡ Ok a → no_of r ≡ 0
no_of_ok r a e = rw e

-- the test for an accepted call, by its number
pub accepted_no : {A : Type 0} (r : Result A Refusal) → eqb (no_of r) 0 ≡ not (is_err r)
accepted_no (Ok a) = refl
accepted_no (Err why) = ne_eqb (number why) 0 (λ e. omega (arith, e, number_positive why))

-- the number of a refused call is that of its refusal, and not 0
pub no_of_err : {A : Type 0} (r : Result A Refusal) (why : Refusal) → r ≡ Err why → no_of r ≡ number why
no_of_err r why e = rw e

pub no_of_err_some : {A : Type 0} (r : Result A Refusal) (why : Refusal) → r ≡ Err why → no_of r ≡ 0 → ⊥
no_of_err_some r why e z = omega (arith, number_positive why, no_of_err r why e)

-- the number of a refusal
abbrev pub Listed : ℕ → Type 0
Listed n = number (refusal_of n) ≡ n

pub number_listed : (why : Refusal) → Listed (number why)
number_listed why = ap number (of_number why)

-- refusals of one number are the same
pub number_same : (a b : Refusal) → number a ≡ number b → a ≡ b
number_same a b e = sym (of_number a) ∙ ap refusal_of e ∙ of_number b
