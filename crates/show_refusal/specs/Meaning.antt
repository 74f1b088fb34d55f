-- What a refusal's number means, in words (paper 01, "Numbers a call may answer"), for programs that tell people.
use Rattle.std.specs.Prelude.{ℕ, List, [], ◌∷◌, get_or}
use Prim.Native.String.{String}
use Rattle.show_text.specs.Text.{ascii}

-- by number, from 0 on
abbrev pub meanings : List String
meanings =
    -- nothing was refused
    ""
    -- reading a message
    ∷ "message over 16384 bytes"
    ∷ "message under 4 bytes"
    ∷ "type not listed"
    ∷ "shorter than its fixed part"
    ∷ "longer than its fixed part"
    ∷ "flags neither client nor peer"
    ∷ "an id is 0"
    ∷ "one of offset and size is 0, the other not"
    ∷ "field not within the message behind its fixed part"
    ∷ "name, password or URL ill-formed"
    -- writing one
    ∷ "not readable once written"
    ∷ "buffer too short"
    -- delivering one
    ∷ "no operation"
    ∷ "version already passed"
    ∷ "version more than 32 ahead"
    ∷ "already pending"
    ∷ "another operation of this version is pending"
    -- no number of these
    ∷ ""
    ∷ ""
    ∷ ""
    -- the snapshot
    ∷ "snapshot length"
    ∷ "snapshot format"
    ∷ "snapshot counts"
    ∷ "snapshot entry"
    ∷ "snapshot host"
    ∷ "snapshot membership"
    ∷ "snapshot buffer too short"
    -- the replica
    ∷ "replica not valid"
    -- a batch (paper 02, A2)
    ∷ "more messages than records"
    ∷ []

-- nothing is said of any other number
unfoldable pub meaning : ℕ → List ℕ
meaning n = ascii (get_or meanings n "")
