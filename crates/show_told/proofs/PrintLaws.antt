-- A delivery has one line: every part of it is printable, and the end of the line stands behind them.
use mathlib.Core.Path.{◌≡◌, refl}
use Prim.Native.Nat.{ℕ, zero, suc, ◌+◌, ◌/◌, ◌%◌, ◌<◌}
use native.Mathlib.Omega.{arith}
use Prim.Native.String.{String}
use mathlib.Core.Bool.{Bool, true, false, cond, not, ◌&&◌}
use mathlib.Core.List.{List, [], ◌∷◌, ◌++◌, append_assoc, reverse}
use lib.ListN.{length, take, drop, get_or}
use lib.Dec.{eqb, leb}
use borrow.Author.Tests.{le-leb}
use Rattle.lists.specs.Lists.{every, flat_map, without_last}
use Rattle.lists.proofs.ListLaws.{and_l, and_r, every_head, every_tail, every_append}
use Rattle.wire_field.specs.Fields.{part_of, form_of}
use Rattle.std.specs.Prelude.{Option, Some, None, Ok, Err}
use Rattle.wire_field.specs.Fields.{Field}
use Rattle.refusal.specs.Numbers.{number as refusal_number}
use Rattle.wire_field.specs.declared.FieldName.{FieldName}
use Rattle.wire_field.specs.declared.FieldName.TheVariants as names
use Rattle.wire_field.specs.declared.Form.{Form}
use Rattle.wire_field.specs.declared.Form.TheVariants.{Free, Text, Url}
use Rattle.wire_text.specs.Text.{units}
use Rattle.wire_connect.specs.declared.Guid.{Guid}
use Rattle.wire_connect.specs.Connect.{guid_bytes}
use Rattle.wire_read.specs.declared.Message.{Message}
use Rattle.wire_read.specs.declared.Message.TheVariants as said
use Rattle.wire_read.specs.Read.{Reading, reading_of}
use Rattle.wire_fields.specs.declared.Listed.{Listed}
use Rattle.wire_fields.specs.FieldList.{field_list}
use Rattle.table_words.specs.Words.{version_of, host_of}
use Rattle.replica.specs.declared.Delivery.TheVariants.{Pending, Applied}
use Rattle.replica.specs.Deliver.{Answer}
use Rattle.replica.specs.Deliver.{Done}
use Rattle.show_text.specs.Text.{ascii, decimal, named}
use Rattle.show_text.proofs.DecimalLaws.{decimal_every}
use Rattle.show_refusal.specs.Meaning.{meanings, meaning}
use Rattle.show_escaped.specs.Escaped.{hex_digit, hex_digits, hex_text, is_plain, escaped, escaped_byte, escaped_unit, quoted, quoted_units, bytes_text, units_text, url_text}
use Rattle.show_parts.specs.Parts.{guid_group, guid_text, guid_named, shown, name_text, count_text, field_text, listed_text, fields_text}
use Rattle.wire_entry.specs.declared.EntryBlock.{EntryBlock}
use Rattle.wire_read.specs.declared.MembershipChange.{MembershipChange}
use Rattle.show_message.specs.Line.{connect_info_text, entry_text, add_player_text, destroy_player_text, request_add_to_group_text}
use Rattle.show_message.specs.Line.{create_group_text, destroy_group_text, membership_change_text, add_to_group_text, delete_from_group_text, said_text}
use Rattle.show_listing.specs.Listing.{head_text}
use Rattle.show_trace.specs.Trace.{next_shown, state_text, refused_answer, applied_answer, answer_text, said_part, delivery_line}
use Rattle.show_told.specs.Told.{is_printable, IsLine}

-- a text that is printable
record Prints (s : List ℕ) : Type 0 where
  holds : every is_printable s ≡ true

prints_none : Prints []
unfolding every
prints_none = record { holds = refl }

word : (w : List ℕ) → every is_printable w ≡ true → Prints w
word w h = record { holds = h }

then : {a b : List ℕ} → Prints a → Prints b → Prints (a ++ b)
then {a} {b} f g = record { holds = every_append is_printable a b f.holds g.holds }

one : (c : ℕ) → is_printable c ≡ true → Prints (c ∷ [])
unfolding every
one c h = record { holds = rw h }

flat : {A : Type 0} (f : A → List ℕ) → ((x : A) → Prints (f x)) → (xs : List A) → Prints (flat_map f xs)
flat f h [] = prints_none
flat f h (x ∷ xs) = then (h x) (flat f h xs)

-- ---- numbers

number : (n : ℕ) → Prints (decimal n)
number n = record { holds = decimal_every is_printable (λ d h. rw (le-leb 32 (48 + d) (omega arith), le-leb (48 + d) 126 (omega arith))) n }

labelled : (w : List ℕ) → every is_printable w ≡ true → (n : ℕ) → Prints (named w n)
unfolding named
labelled w h n = then (word w h) (number n)

-- ---- hexadecimal digits and escapes

every_at : (l : List ℕ) → every is_printable l ≡ true → (i : ℕ) → i < length l → is_printable (get_or l i 0) ≡ true
every_at [] h i k = absurd (omega arith)
every_at (x ∷ l) h zero k = every_head is_printable x l h
every_at (x ∷ l) h (suc i) k = every_at l (every_tail is_printable x l h) i (omega arith)

hex_digit_law : (n : ℕ) → is_printable (hex_digit n) ≡ true
unfolding hex_digit ascii every
hex_digit_law n = every_at (ascii "0123456789ABCDEF") refl (n % 16) (omega arith)

hex : (k n : ℕ) → Prints (hex_digits k n)
hex zero n = prints_none
hex (suc k) n = then (hex k (n / 16)) (one (hex_digit n) (hex_digit_law n))

hex_text_law : (s : List ℕ) → Prints (hex_text s)
unfolding hex_text
hex_text_law s = flat (hex_digits 2) (hex 2) s

escape : (other : List ℕ) → Prints other → (n : ℕ) → Prints (escaped other n)
unfolding escaped is_plain
escape other h n = go (is_plain n) refl
  where
    go : (b : Bool) → is_plain n ≡ b → Prints (cond b (n ∷ []) other)
    go true e =
        let r : leb n 126 && (not (eqb n 34) && not (eqb n 92)) ≡ true = and_r (leb 32 n) _ e in
        one n (rw (and_l (leb 32 n) _ e, and_l (leb n 126) _ r))
    go false e = h

quote : (s : List ℕ) → Prints s → Prints (quoted s)
unfolding ascii every
quote s h = then (word (ascii "\"") refl) (then h (word (ascii "\"") refl))

bytes_print : (s : List ℕ) → Prints (bytes_text s)
unfolding bytes_text escaped_byte ascii every
bytes_print s = quote (flat_map escaped_byte s) (flat escaped_byte (λ b. escape (ascii "\\x" ++ hex_digits 2 b) (then (word (ascii "\\x") refl) (hex 2 b)) b) s)

units_print : (s : List ℕ) → Prints (units_text s)
unfolding units_text quoted_units escaped_unit ascii every
units_print s =
    quote (flat_map escaped_unit (without_last (units s))) (flat escaped_unit (λ u. escape (ascii "\\u" ++ hex_digits 4 u) (then (word (ascii "\\u") refl) (hex 4 u)) u) (without_last (units s)))

-- ---- GUIDs and fields

guid : (w : List ℕ) → every is_printable w ≡ true → (g : Guid) → Prints (guid_named w g)
unfolding guid_named guid_text guid_group ascii every
guid w h g =
    let b = guid_bytes g in
    let dash = word (ascii "-") refl in
    then (word w h) (then (then (hex_text_law (reverse (take 4 b))) dash) (then (then (hex_text_law (reverse (take 2 (drop 4 b)))) dash) (then (then (hex_text_law (reverse (take 2 (drop 6 b)))) dash) (then (then (hex_text_law (take 2 (drop 8 b))) dash) (hex_text_law (drop 10 b))))))

shown_print : (f : Form) (s : List ℕ) → Prints (shown f s)
unfolding shown url_text
shown_print Free s = bytes_print s
shown_print Text s = units_print s
shown_print Url s = bytes_print (without_last s)

name_print : (name : FieldName) → Prints (name_text name)
unfolding name_text ascii every
name_print names.Name = word (ascii " name ") refl
name_print names.Data = word (ascii " data ") refl
name_print names.Password = word (ascii " password ") refl
name_print names.ConnectData = word (ascii " connect-data ") refl
name_print names.Url = word (ascii " url ") refl
name_print names.AlternateAddress = word (ascii " alternate-address ") refl

count_print : (f : Form) (n : ℕ) → Prints (count_text f n)
unfolding count_text ascii every
count_print Free n = prints_none
count_print Text n = labelled (ascii " ") refl n
count_print Url n = labelled (ascii " ") refl n

field_print : (name : FieldName) (f : Field) (s : List ℕ) → Prints (field_text name f s)
unfolding field_text
field_print name None s = prints_none
field_print name (Some q) s = then (name_print name) (then (shown_print (form_of name) s) (count_print (form_of name) q.characters))

listed_print : (m : List ℕ) (f : Option Listed) → Prints (listed_text m f)
unfolding listed_text
listed_print m None = prints_none
listed_print m (Some l) = field_print l.name l.field (part_of m l.field)

fields_print : (m : List ℕ) → Prints (fields_text m)
unfolding fields_text
fields_print m = flat (listed_text m) (listed_print m) (field_list (reading_of m))

-- ---- what is said, what is answered, where the replica is

entry_print : (head : List ℕ) → every is_printable head ≡ true → (m : List ℕ) (e : EntryBlock) (u : ℕ) → Prints (entry_text head m e u)
unfolding entry_text ascii every
entry_print head h m e u =
    then (labelled head h e.dpnid) (then (labelled (ascii " owner ") refl e.owner) (then (labelled (ascii " flags ") refl e.flags) (then (labelled (ascii " version ") refl e.version) (then (labelled (ascii " not-used ") refl u) (then (labelled (ascii " dnet ") refl e.dnet_version) (fields_print m))))))

-- the last words of a message on groups
asked_print : (u requesting context : ℕ) → Prints (named (ascii " not-used ") u ++ (named (ascii " requesting ") requesting ++ named (ascii " context ") context))
unfolding ascii every
asked_print u r c = then (labelled (ascii " not-used ") refl u) (then (labelled (ascii " requesting ") refl r) (labelled (ascii " context ") refl c))

change_print : (head : List ℕ) → every is_printable head ≡ true → (v : MembershipChange) (u : ℕ) → Prints (membership_change_text head v u)
unfolding membership_change_text ascii every
change_print head h v u =
    then (labelled head h v.group) (then (labelled (ascii " player ") refl v.player) (then (labelled (ascii " version ") refl v.version) (asked_print u v.requesting v.context)))

said_print : (m : List ℕ) (a : Message) → Prints (said_text m a)
unfolding said_text connect_info_text add_player_text destroy_player_text request_add_to_group_text create_group_text destroy_group_text add_to_group_text delete_from_group_text ascii every
said_print m (said.ConnectInfo v) =
    then (labelled (ascii "0xC1 connect info flags ") refl v.flags) (then (labelled (ascii " dnet ") refl v.dnet_version) (then (guid (ascii " instance ") refl v.instance) (then (guid (ascii " application ") refl v.application) (fields_print m))))
said_print m (said.AddPlayer e u) = entry_print (ascii "0xD0 add player dpnid ") refl m e u
said_print m (said.DestroyPlayer v u) =
    then (labelled (ascii "0xD1 destroy player dpnid ") refl v.dpnid) (then (labelled (ascii " version ") refl v.version) (then (labelled (ascii " not-used ") refl u) (labelled (ascii " reason ") refl v.reason)))
said_print m (said.RequestAddToGroup v) =
    then (labelled (ascii "0xD3 request add to group context ") refl v.context) (then (labelled (ascii " group ") refl v.group) (labelled (ascii " player ") refl v.player))
said_print m (said.CreateGroup v u) =
    then (labelled (ascii "0xD7 create group requesting ") refl v.requesting) (then (labelled (ascii " context ") refl v.context) (entry_print (ascii " dpnid ") refl m v.entry u))
said_print m (said.DestroyGroup v u) =
    then (labelled (ascii "0xD8 destroy group group ") refl v.group) (then (labelled (ascii " version ") refl v.version) (asked_print u v.requesting v.context))
said_print m (said.AddToGroup v u) = change_print (ascii "0xD9 add to group group ") refl v u
said_print m (said.DeleteFromGroup v u) = change_print (ascii "0xDA delete from group group ") refl v u

part_print : (m : List ℕ) (r : Reading) → Prints (said_part m r)
unfolding said_part ascii every
part_print m (Err why) = prints_none
part_print m (Ok read) = then (said_print m read.message) (word (ascii ": ") refl)

abbrev plain_words : String → Bool
plain_words w = every is_printable (ascii w)

meaning_at : (ws : List String) → every plain_words ws ≡ true → (n : ℕ) → every is_printable (ascii (get_or ws n "")) ≡ true
unfolding ascii every
meaning_at [] h n = refl
meaning_at (w ∷ ws) h zero = and_l (plain_words w) (every plain_words ws) h
meaning_at (w ∷ ws) h (suc n) = meaning_at ws (and_r (plain_words w) (every plain_words ws) h) n

refused_print : (n : ℕ) → Prints (refused_answer n)
unfolding refused_answer meaning ascii every
refused_print n =
    then (word (ascii "refused ") refl) (then (number n) (then (word (ascii " (") refl) (then (word (meaning n) (meaning_at meanings refl n)) (word (ascii ")") refl))))

answer_print : (a : Answer) → Prints (answer_text a)
unfolding answer_text applied_answer ascii every
answer_print (Err why) = refused_print (refusal_number why)
answer_print (Ok Pending) = word (ascii "pending") refl
answer_print (Ok (Applied passed noops)) =
    then (word (ascii "applied, ") refl) (then (number passed) (then (word (ascii " versions, ") refl) (then (number noops) (word (ascii " no-ops") refl))))

state_print : (l : List ℕ) → Prints (state_text l)
unfolding state_text head_text ascii every
state_print l =
    then (labelled (ascii "version ") refl (version_of l)) (then (labelled (ascii " host ") refl (host_of l)) (labelled (ascii " next ") refl (next_shown l)))

-- ---- the line

abbrev line_text : ℕ → List ℕ → Done → List ℕ
line_text place m d =
    decimal place ++ (ascii ": " ++ (said_part m (reading_of m) ++ (answer_text d.answer ++ (ascii "; " ++ state_text d.words))))

line_prints : (place : ℕ) (m : List ℕ) (d : Done) → Prints (line_text place m d)
unfolding ascii every
line_prints place m d =
    then (number place) (then (word (ascii ": ") refl) (then (part_print m (reading_of m)) (then (answer_print d.answer) (then (word (ascii "; ") refl) (state_print d.words)))))

pub line_is : (place : ℕ) (m : List ℕ) (d : Done) → IsLine (delivery_line place m d)
unfolding delivery_line
line_is place m d = record { text = line_text place m d; prints = (line_prints place m d).holds; is = simp append_assoc }
