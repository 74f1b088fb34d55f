-- What happens to a replica, told in lines: its whole name table at the start, then one line a delivery.
use Rattle.std.specs.Prelude.{ℕ, cond, List, [], ◌++◌, Ok, Err, eqb}
use Rattle.lists.specs.Lists.{flat_map}
use Rattle.characters.specs.Characters.{characters}
use Rattle.wire_read.specs.Read.{Reading, reading_of}
use Rattle.show_text.specs.Text.{ascii, decimal, named}
use Rattle.show_refusal.specs.Meaning.{meaning}
use Rattle.show_escaped.specs.Escaped.{quoted_units}
use Rattle.show_message.specs.Line.{said_text}
use Rattle.table_rules.specs.NameTable.{Entry}
use Rattle.table_rules.specs.declared.Membership.{Membership}
use Rattle.table_rules.specs.NameTable.{next_host_of}
use Rattle.table_words.specs.Words.{version_of, host_of, table_of}
use Rattle.refusal.specs.Numbers.{number}
use Rattle.replica.specs.declared.Delivery.TheVariants.{Pending, Applied}
use Rattle.replica.specs.Valid.{valid_of}
use Rattle.replica.specs.Deliver.{Answer, Done}
use Rattle.show_listing.specs.Listing.{head_text, kind_word}

-- ---- where a replica is

-- the id of its next host; 0 if there is none, and of words that are no valid replica
unfoldable pub next_shown : List ℕ → ℕ
next_shown l = cond (valid_of l) (next_host_of (table_of l)) 0

unfoldable pub state_text : List ℕ → List ℕ
state_text l = head_text (version_of l) (host_of l) (next_shown l)

-- ---- a delivery

-- a number and what it means
unfoldable pub refused_answer : ℕ → List ℕ
refused_answer number = ascii "refused " ++ (decimal number ++ (ascii " (" ++ (meaning number ++ ascii ")")))

unfoldable pub applied_answer : ℕ → ℕ → List ℕ
applied_answer passed noops = ascii "applied, " ++ (decimal passed ++ (ascii " versions, " ++ (decimal noops ++ ascii " no-ops")))

unfoldable pub answer_text : Answer → List ℕ
answer_text (Err why) = refused_answer (number why)
answer_text (Ok Pending) = ascii "pending"
answer_text (Ok (Applied passed noops)) = applied_answer passed noops

-- what the message says; one that reading refuses says nothing
unfoldable pub said_part : List ℕ → Reading → List ℕ
said_part m (Err why) = []
said_part m (Ok read) = said_text m read.message ++ ascii ": "

-- the line of a message, of that place in the list: what it says, what delivering it did, and where the replica is then
unfoldable pub delivery_line : ℕ → List ℕ → Done → List ℕ
delivery_line place m d =
    decimal place
    ++ (ascii ": "
    ++ (said_part m (reading_of m)
    ++ (answer_text d.answer
    ++ (ascii "; "
    ++ (state_text d.words
    ++ ascii "\n")))))

-- ---- the start

-- the end of an entry's line: its name, and how many characters that has (paper 02, A9)
unfoldable pub name_start : List ℕ → List ℕ
name_start us = ascii " name " ++ (quoted_units us ++ (named (ascii " ") (characters us) ++ ascii "\n"))

-- a line an entry and a line a membership, as tools/make-input takes them
unfoldable pub entry_start : Entry → List ℕ
entry_start e =
    named (kind_word e.kind) e.id
    ++ (named (ascii " version ") e.version
    ++ (named (ascii " owner ") e.owner
    ++ (named (ascii " flags ") e.flags
    ++ (named (ascii " dnet ") e.dnet
    ++ name_start e.name))))

unfoldable pub member_start : Membership → List ℕ
member_start m = named (ascii "member ") m.group ++ (named (ascii " ") m.player ++ ascii "\n")

-- the whole name table of a valid replica
unfoldable pub table_start : List ℕ → List ℕ
table_start l =
    state_text l
    ++ (ascii "\n" ++ (flat_map entry_start (table_of l).entries ++ flat_map member_start (table_of l).memberships))

unfoldable pub refused_start : ℕ → List ℕ
refused_start number = refused_answer number ++ ascii "\n"

-- before the first delivery: the snapshot's number, or the name table that it gave; 28 of words that are no valid replica
unfoldable pub start_text : ℕ → List ℕ → List ℕ
start_text number l = ascii "snapshot: " ++ cond (eqb number 0) (cond (valid_of l) (table_start l) (refused_start 28)) (refused_start number)
