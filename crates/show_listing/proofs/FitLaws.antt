-- Every listing fits: at most 51 bytes in front, 32 an entry, and 4 behind.
use mathlib.Core.Path.{◌≡◌, refl}
use Prim.Native.Nat.{ℕ, ◌+◌, ◌*◌, ◌/◌, ◌%◌, ◌≤◌, ◌<◌}
use native.Mathlib.Omega.{arith}
use native.Mathlib.Nat.{mul-suc, add_comm}
use mathlib.Core.Bool.{Bool, true, false, cond, ◌||◌}
use mathlib.Core.List.{List, [], ◌∷◌, ◌++◌}
use lib.ListN.{length, take, length-append}
use lib.Dec.{eqb, leb, ltb}
use borrow.Author.Tests.{eqb-true, leb-true}
use Rattle.show_text.specs.Text.{ascii, decimal, named}
use Rattle.show_text.proofs.TextLaws.{decimal_length}
use Rattle.framing.specs.Frames.{messages_in, is_cut}
use Rattle.table_rules.specs.NameTable.{Entry}
use Rattle.table_rules.specs.Operations.{player}
use Rattle.table_rules.specs.NameTable.{NameTable, max_entries, next_host_of}
use Rattle.table_rules.specs.Valid.{has_a_name}
use Rattle.table_rules.proofs.KeepsLaws.{ValidTable, table_parts}
use Rattle.characters.specs.Characters.{characters}
use Rattle.characters.proofs.CountLaws.{bounds}
use Rattle.names.specs.Names.{max_name, is_name_unit, valid_name}
use Rattle.table_words.specs.Words.{table_of}
use Rattle.replica.specs.Valid.{valid_of}
use Rattle.replica.proofs.ValidLaws.{valid_parts}
use Rattle.snapshot_bytes.specs.Snapshot.{snapshot_no}
use Rattle.snapshot.specs.Saved.{loaded_of}
use Rattle.replay.specs.Run.{replica_after}
use Rattle.show_listing.specs.Listing.{head_text, head_line, entry_line, table_text, cut_line, refused_listing, max_input, snapshot_part, message_part, table_listed, listing_taken, listing_of, max_listing, AllFit}
use Rattle.show_listing.proofs.ListingLaws.{listed_valid, listed_table}
use Rattle.lists.specs.Lists.{every, flat_map}
use Rattle.lists.proofs.ListLaws.{and_l, every_head, every_tail}

-- a text of at most n bytes
record AtMost (n : ℕ) (l : List ℕ) : Type 0 where
  bound : length l ≤ n

word : (l : List ℕ) → AtMost (length l) l
word l = record { bound = omega arith }

number : (n : ℕ) → AtMost 10 (decimal n)
number n = record { bound = decimal_length n }

-- a number of two digits
short : (n : ℕ) → n < 100 → AtMost 2 (decimal n)
unfolding decimal
short n h =
    let e : n / 10 / 10 ≡ 0 = omega arith in
    record { bound = rw e (go (eqb (48 + n / 10 % 10) 48)) }
  where
    go : (b : Bool) → length (cond b ((48 + n % 10) ∷ []) ((48 + n / 10 % 10) ∷ (48 + n % 10) ∷ [])) ≤ 2
    go true = omega arith
    go false = omega arith

-- a run of parts
then : {a b : List ℕ} {m n : ℕ} → AtMost m a → AtMost n b → AtMost (m + n) (a ++ b)
then {a} {b} h g = record { bound = rw (length-append a b) (omega (arith, h.bound, g.bound)) }

head_fits : (v h n : ℕ) → AtMost 51 (head_line v h n)
unfolding head_line head_text named ascii
head_fits v h n =
    then (then (then (word (ascii "version ")) (number v)) (then (then (word (ascii " host ")) (number h)) (then (word (ascii " next ")) (number n)))) (word (ascii "\n"))

kind_fits : (b : Bool) → AtMost 7 (cond b (ascii "player ") (ascii "group "))
unfolding ascii
kind_fits true = word (ascii "player ")
kind_fits false = record { bound = omega arith }

-- a valid name has at most 31 units, and no more characters
entry_fits : (e : Entry) → has_a_name e ≡ true → AtMost 32 (entry_line e)
unfolding entry_line named ascii has_a_name valid_name
entry_fits e h =
    let n : ℕ = length e.name in
    let m : n ≤ max_name = leb-true n max_name (and_l (leb n max_name) (every is_name_unit e.name) h) in
    then (kind_fits (eqb e.kind player)) (then (number e.id) (then (then (word (ascii " ")) (number e.version))
    (then (then (word (ascii " ")) (short (characters e.name) (omega (arith, (bounds e.name).most)))) (word (ascii "\n")))))

entries_fit : (es : List Entry) → every has_a_name es ≡ true → AtMost (32 * length es) (flat_map entry_line es)
entries_fit [] h = record { bound = omega arith }
entries_fit (e ∷ es) h =
    rw (mul-suc 32 (length es), add_comm (32 * length es) 32)
    (then (entry_fits e (every_head has_a_name e es h)) (entries_fit es (every_tail has_a_name e es h)))

table_fits : (t : NameTable) → ValidTable t → AtMost (51 + 32 * max_entries) (table_text t)
unfolding table_text
table_fits t p =
    let g = then (head_fits t.version t.host (next_host_of t)) (entries_fit t.entries p.names_valid) in
    record { bound = omega (arith, g.bound, p.few) }

cut_fits : (b : Bool) → AtMost 4 (cut_line b)
unfolding ascii
cut_fits true = word (ascii "cut\n")
cut_fits false = record { bound = omega arith }

refused_fits : (n : ℕ) → AtMost 19 (refused_listing n)
unfolding refused_listing ascii
refused_fits n = then (word (ascii "refused ")) (then (number n) (word (ascii "\n")))

valid_table_law : (l : List ℕ) → valid_of l ≡ true → ValidTable (table_of l)
valid_table_law l h = table_parts (table_of l) (valid_parts l h).table

listed_fits : (s : List ℕ) (more : Bool) → length (listing_taken s more) ≤ max_listing
unfolding listing_taken
listed_fits s more = go (eqb (snapshot_no (snapshot_part s)) 0) refl
  where
    go : (b : Bool) → eqb (snapshot_no (snapshot_part s)) 0 ≡ b
        → length (cond b (table_text (table_listed s) ++ cut_line (more || is_cut (message_part s))) (refused_listing (snapshot_no (snapshot_part s)))) ≤ max_listing
    go true h =
        let z = eqb-true (snapshot_no (snapshot_part s)) 0 h in
        let p : ValidTable (table_listed s) =
        rw (← listed_table s z) (valid_table_law (replica_after (loaded_of (snapshot_part s)).words (messages_in (message_part s))) (listed_valid (snapshot_part s) (messages_in (message_part s)))) in
        let a = then (table_fits (table_listed s) p) (cut_fits (more || is_cut (message_part s))) in
        omega (arith, a.bound)
    go false h = let a = refused_fits (snapshot_no (snapshot_part s)) in omega (arith, a.bound)

pub all_fit : AllFit
unfolding listing_of
all_fit input = listed_fits (take max_input input) (ltb max_input (length input))
