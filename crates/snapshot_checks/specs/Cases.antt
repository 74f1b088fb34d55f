-- Worked cases of an id that stands twice (paper 02, A4), by hand, in both formats.
use Rattle.std.specs.Prelude.{◌≡◌, ℕ, ◌+◌, Bool, true, false, cond, not, List, [], ◌∷◌, ◌++◌, length, eqb}
use Rattle.lists.specs.Lists.{every, joined}
use Rattle.byte_words.specs.Bytes.{big, bytes_of, words}
use Rattle.snapshot_bytes.specs.Snapshot.{snapshot_no}
use Rattle.snapshot_checks.specs.RepeatedIds.{repeats_id}

-- the bytes of a player of this id and version: in format 1, and in format 2 with a name of these bytes
abbrev pub plain : ℕ → ℕ → List ℕ
plain id version = 1 ∷ words big (id ∷ 0 ∷ 0 ∷ version ∷ 7 ∷ [])

abbrev pub named : ℕ → ℕ → List ℕ → List ℕ
named id version name = plain id version ++ (length name ∷ name)

-- a snapshot of these entries: version 9, no host, no memberships
abbrev pub snapshot : ℕ → List (List ℕ) → List ℕ
snapshot format entries =
    bytes_of big 4 (11 + length (joined entries)) ++ (format ∷ (words big (9 ∷ 0 ∷ []) ++ (length entries ∷ (0 ∷ joined entries))))

-- whether an id stands twice; the snapshot is refused with 24 exactly then
pub record Case : Type 0 where
  pub bytes : List ℕ
  pub twice : Bool

abbrev pub case : Bool → ℕ → List (List ℕ) → Case
case twice format entries = record { bytes = snapshot format entries; twice = twice }

unfoldable pub cases : List Case
cases =
    case false 1 []
    ∷ case false 2 (named 5 1 [] ∷ [])
    ∷ case false 1 (plain 5 1 ∷ plain 6 2 ∷ plain 7 3 ∷ [])
    -- the first two, the last two of an even and of an odd count, the first and the last
    ∷ case true 1 (plain 5 1 ∷ plain 5 2 ∷ plain 6 3 ∷ [])
    ∷ case true 1 (plain 5 1 ∷ plain 6 2 ∷ plain 7 3 ∷ plain 7 4 ∷ [])
    ∷ case true 1 (plain 5 1 ∷ plain 6 2 ∷ plain 6 3 ∷ [])
    ∷ case true 1 (plain 5 1 ∷ plain 6 2 ∷ plain 7 3 ∷ plain 5 4 ∷ [])
    -- with names of other lengths before, between and behind
    ∷ case true 2 (named 5 1 (0 ∷ 65 ∷ []) ∷ named 6 2 [] ∷ named 7 3 (0 ∷ 65 ∷ 0 ∷ 66 ∷ []) ∷ named 6 4 (0 ∷ 67 ∷ []) ∷ [])
    -- the bytes of a name are no id: 0x410042 stands once more where in format 1 the next id would
    ∷ case false 2 (named 0x410042 1 (0 ∷ 65 ∷ 0 ∷ 66 ∷ []) ∷ named 6 2 [] ∷ [])
    -- ids that differ in one byte alone
    ∷ case false 1 (plain 5 1 ∷ plain 0x105 2 ∷ plain 0x10005 3 ∷ plain 0x1000005 4 ∷ [])
    ∷ []

abbrev pub holds : Case → Bool
holds c = cond c.twice (repeats_id c.bytes) (not (repeats_id c.bytes))

abbrev pub number_holds : Case → Bool
number_holds c = eqb (snapshot_no c.bytes) (cond c.twice 24 0)

pub record CasesHold : Type 0 where
  pub told : every holds cases ≡ true
  pub numbers : every number_holds cases ≡ true
