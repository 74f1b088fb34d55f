-- The worked cases of absent fields (paper 02, A1 and A5), by hand: of 0xC1 in both forms each pair alone, and of 0xD0 and 0xD7.
use Rattle.std.specs.Prelude.{◌≡◌, ℕ, ◌-◌, ◌*◌, true, List, [], ◌∷◌, ◌++◌, replicate}
use Rattle.lists.specs.Lists.{every, flat_map}
use Rattle.byte_words.specs.Bytes.{little, words}
use Rattle.wire_field.specs.declared.FieldName.TheVariants.{Name, Password, Url}
use Rattle.wire_facts.specs.Cases.{Case, holds}
use Rattle.wire_facts.specs.LayoutCases.{Shown, shown_holds}

-- 0xC1 of these ten words of pairs, in header order, then two GUIDs of zeros; two zero bytes follow the fixed part, at offset 80
abbrev pub plain : List ℕ → List ℕ
plain pairs = words little (0xC1 ∷ (2 ∷ (6 ∷ (pairs ++ replicate 8 0)))) ++ (0 ∷ 0 ∷ [])

-- the extended form: offset and size of the alternate address besides; what follows stands at offset 88
abbrev pub extended : List ℕ → ℕ → ℕ → List ℕ
extended pairs offset size = words little (0xC1 ∷ (2 ∷ (7 ∷ (pairs ++ (replicate 8 0 ++ (offset ∷ size ∷ [])))))) ++ (0 ∷ 0 ∷ [])

-- of five pairs pair k alone states something
abbrev pub alone : ℕ → ℕ → ℕ → List ℕ
alone k offset size = replicate (2 * k) 0 ++ (offset ∷ (size ∷ replicate (8 - 2 * k) 0))

abbrev pub none : List ℕ
none = replicate 10 0

-- 0xD0 and 0xD7 of these six words of pairs, and nothing behind the fixed part
abbrev pub player : List ℕ → List ℕ
player pairs = words little (0xD0 ∷ 1 ∷ 0 ∷ 0 ∷ 6 ∷ 0 ∷ 7 ∷ pairs)

abbrev pub group : List ℕ → List ℕ
group pairs = words little (0xD7 ∷ 0 ∷ 0 ∷ 1 ∷ 0 ∷ 0 ∷ 6 ∷ 0 ∷ 7 ∷ pairs)

-- answered with this number, and no name is shown
abbrev pub case : ℕ → List ℕ → Case
case number message = record { message = message; number = number; name = [] }

-- pair k: an offset alone, where the field would start, in the fixed part, at the message's end, far outside; a size alone
abbrev pub pair_cases : ℕ → List Case
pair_cases k =
    case 0 (plain (alone k 80 0))
    ∷ case 0 (plain (alone k 1 0))
    ∷ case 0 (plain (alone k 82 0))
    ∷ case 0 (plain (alone k 0xFFFFFFFF 0))
    ∷ case 0 (plain (alone k 0 2))
    ∷ case 0 (extended (alone k 88 0) 0 0)
    ∷ case 0 (extended (alone k 0xFFFFFFFF 0) 0 0)
    ∷ case 0 (extended (alone k 0 0xFFFFFFFF) 0 0)
    -- with both it is present, and checked: it goes past the end
    ∷ case 9 (plain (alone k 81 2))
    ∷ case 9 (extended (alone k 88 3) 0 0)
    ∷ []

-- an entry keeps the other rule: each of its fields, an offset alone, where it would start, and a size alone
abbrev pub entry_cases : (List ℕ → List ℕ) → ℕ → List Case
entry_cases entry start =
    case 8 (entry (start ∷ 0 ∷ 0 ∷ 0 ∷ 0 ∷ 0 ∷ []))
    ∷ case 8 (entry (0 ∷ 1 ∷ 0 ∷ 0 ∷ 0 ∷ 0 ∷ []))
    ∷ case 8 (entry (0 ∷ 0 ∷ start ∷ 0 ∷ 0 ∷ 0 ∷ []))
    ∷ case 8 (entry (0 ∷ 0 ∷ 0 ∷ 1 ∷ 0 ∷ 0 ∷ []))
    ∷ case 8 (entry (0 ∷ 0 ∷ 0 ∷ 0 ∷ start ∷ 0 ∷ []))
    ∷ case 8 (entry (0 ∷ 0 ∷ 0 ∷ 0 ∷ 0 ∷ 1 ∷ []))
    -- far outside: 8 comes before 9
    ∷ case 8 (entry (0xFFFFFFFF ∷ 0 ∷ 0 ∷ 0 ∷ 0 ∷ 0 ∷ []))
    ∷ []

unfoldable pub absent_cases : List Case
absent_cases =
    flat_map pair_cases (0 ∷ 1 ∷ 2 ∷ 3 ∷ 4 ∷ [])
    ++ (case 0 (extended none 88 0)
    ∷ case 0 (extended none 0xFFFFFFFF 0)
    ∷ case 0 (extended none 0 1)
    ∷ case 9 (extended none 90 1)
    -- the fields after an absent one are checked: data past the end; a password of one byte
    ∷ case 9 (plain (80 ∷ 0 ∷ 81 ∷ 2 ∷ replicate 6 0))
    ∷ case 10 (plain (0 ∷ 7 ∷ 0 ∷ 0 ∷ 80 ∷ 1 ∷ replicate 4 0))
    ∷ (entry_cases player 48 ++ entry_cases group 56))

-- an older client's: a name of offset 80 and size 0; the empty password and the empty URL, which start there too
abbrev pub older_client : List ℕ
older_client = plain (80 ∷ 0 ∷ 0 ∷ 0 ∷ 80 ∷ 2 ∷ 0 ∷ 0 ∷ 80 ∷ 1 ∷ [])

unfoldable pub older_client_cases : List Shown
older_client_cases =
    record { message = older_client; field = Name; bytes = [] }
    ∷ record { message = older_client; field = Password; bytes = 0 ∷ 0 ∷ [] }
    ∷ record { message = older_client; field = Url; bytes = 0 ∷ [] }
    ∷ []

-- the statements: each case is answered so, and shows so
pub record AbsentCasesHold : Type 0 where
  pub answers : every holds absent_cases ≡ true
  pub shows : every shown_holds older_client_cases ≡ true
