-- The numbers that a call may answer (paper 01, "Numbers a call may answer"; 29 is of paper 02, A2).
use Rattle.std.specs.Prelude.{ℕ, cond, List, [], ◌∷◌, Result, Ok, Err, eqb}
use Rattle.refusal.specs.declared.Refusal.{Refusal}
use Rattle.refusal.specs.declared.Refusal.TheVariants as r

-- the paper's number of a refusal
abbrev pub number : Refusal → ℕ
number r.MessageTooLong = 1
number r.NoTypeWord = 2
number r.TypeNotListed = 3
number r.UnderFixedPart = 4
number r.OverFixedPart = 5
number r.ConnectFlags = 6
number r.IdZero = 7
number r.OffsetWithoutSize = 8
number r.FieldOutOfPlace = 9
number r.FieldIllFormed = 10
number r.NotReadable = 11
number r.BufferTooShort = 12
number r.NoOperation = 13
number r.VersionPassed = 14
number r.VersionTooFar = 15
number r.AlreadyPending = 16
number r.PendingDiffers = 17
number r.SnapshotLength = 21
number r.SnapshotFormat = 22
number r.SnapshotCounts = 23
number r.SnapshotEntry = 24
number r.SnapshotHost = 25
number r.SnapshotMembership = 26
number r.SnapshotBuffer = 27
number r.ReplicaNotValid = 28
number r.TooFewRecords = 29

-- every refusal, by its number
abbrev pub refusals : List Refusal
refusals =
    r.MessageTooLong
    ∷ r.NoTypeWord
    ∷ r.TypeNotListed
    ∷ r.UnderFixedPart
    ∷ r.OverFixedPart
    ∷ r.ConnectFlags
    ∷ r.IdZero
    ∷ r.OffsetWithoutSize
    ∷ r.FieldOutOfPlace
    ∷ r.FieldIllFormed
    ∷ r.NotReadable
    ∷ r.BufferTooShort
    ∷ r.NoOperation
    ∷ r.VersionPassed
    ∷ r.VersionTooFar
    ∷ r.AlreadyPending
    ∷ r.PendingDiffers
    ∷ r.SnapshotLength
    ∷ r.SnapshotFormat
    ∷ r.SnapshotCounts
    ∷ r.SnapshotEntry
    ∷ r.SnapshotHost
    ∷ r.SnapshotMembership
    ∷ r.SnapshotBuffer
    ∷ r.ReplicaNotValid
    ∷ r.TooFewRecords
    ∷ []

-- the refusal of a number among these; the last where none has it
abbrev pub refusal_among : ℕ → List Refusal → Refusal
refusal_among n [] = r.TooFewRecords
refusal_among n (one ∷ more) = cond (eqb n (number one)) one (refusal_among n more)

-- the refusal of a number
abbrev pub refusal_of : ℕ → Refusal
refusal_of n = refusal_among n refusals

-- the number of what a call answers: 0 where it is accepted
abbrev pub no_of : {A : Type 0} → Result A Refusal → ℕ
no_of (Ok a) = 0
no_of (Err why) = number why

-- what a call answers that is refused with a number
abbrev pub refused : {A : Type 0} → ℕ → Result A Refusal
refused n = Err (refusal_of n)
