-- The listing (paper 01, "The listing"; paper 02, A3 and A9): from all bytes of the input to all bytes of the output.
use Rattle.std.specs.Prelude.{ℕ, ◌+◌, ◌≤◌, Bool, cond, ◌||◌, List, [], ◌++◌, length, take, drop, eqb, ltb}
use Rattle.show_text.specs.Text.{ascii, decimal, named}
use Rattle.framing.specs.Frames.{length_word, messages_in, is_cut}
use Rattle.characters.specs.Characters.{characters}
use Rattle.table_rules.specs.NameTable.{Entry}
use Rattle.table_rules.specs.Operations.{player}
use Rattle.table_rules.specs.NameTable.{NameTable, next_host_of}
use Rattle.snapshot_bytes.specs.Snapshot.{stated_table, snapshot_no}
use Rattle.replay.specs.Replay.{table_after}
use Rattle.lists.specs.Lists.{flat_map}

-- ---- the lines

-- first line: version, host, next host
unfoldable pub head_text : ℕ → ℕ → ℕ → List ℕ
head_text version host next = named (ascii "version ") version ++ (named (ascii " host ") host ++ named (ascii " next ") next)

unfoldable pub head_line : ℕ → ℕ → ℕ → List ℕ
head_line version host next = head_text version host next ++ ascii "\n"

abbrev pub kind_word : ℕ → List ℕ
kind_word kind = cond (eqb kind player) (ascii "player ") (ascii "group ")

-- a line an entry: kind, id, entry version, how many characters its name has
unfoldable pub entry_line : Entry → List ℕ
entry_line e =
    kind_word e.kind ++ (decimal e.id ++ (named (ascii " ") e.version ++ (named (ascii " ") (characters e.name) ++ ascii "\n")))

unfoldable pub table_text : NameTable → List ℕ
table_text t = head_line t.version t.host (next_host_of t) ++ flat_map entry_line t.entries

abbrev pub cut_line : Bool → List ℕ
cut_line cut = cond cut (ascii "cut\n") []

-- a refused snapshot prints only this
unfoldable pub refused_listing : ℕ → List ℕ
refused_listing number = ascii "refused " ++ (decimal number ++ ascii "\n")

-- ---- the input

-- it takes 65,536 bytes at most
abbrev pub max_input : ℕ
max_input = 65536

-- one snapshot, as long as its first word says; a snapshot cut short is all there is, and so 21
abbrev pub snapshot_part : List ℕ → List ℕ
snapshot_part s = take (4 + length_word s) s

-- then messages
abbrev pub message_part : List ℕ → List ℕ
message_part s = drop (4 + length_word s) s

-- ---- the output

-- the name table of the replay, so what paper and pencil give
unfoldable pub table_listed : List ℕ → NameTable
table_listed s = table_after (stated_table (snapshot_part s)) (messages_in (message_part s))

-- of the bytes that are taken, and whether there were more
unfoldable pub listing_taken : List ℕ → Bool → List ℕ
listing_taken s more =
    cond (eqb (snapshot_no (snapshot_part s)) 0)
    (table_text (table_listed s) ++ cut_line (more || is_cut (message_part s)))
    (refused_listing (snapshot_no (snapshot_part s)))

unfoldable pub listing_of : List ℕ → List ℕ
listing_of input = listing_taken (take max_input input) (ltb max_input (length input))

-- the statement: a buffer of 2,304 bytes has room for every listing
abbrev pub max_listing : ℕ
max_listing = 2304

abbrev pub AllFit : Type 0
AllFit = (input : List ℕ) → length (listing_of input) ≤ max_listing
