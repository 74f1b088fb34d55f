-- What a message says in its line tells the operation that it is.
use mathlib.Core.Path.{◌≡◌, refl, ap, ◌∙◌}
use Prim.Native.Nat.{ℕ, ◌<◌, ◌^◌}
use native.Mathlib.Omega.{arith}
use mathlib.Core.Bool.{true, cond}
use mathlib.Core.List.{List, [], ◌∷◌, ◌++◌, append_assoc}
use lib.ListN.{length, take, drop, get_or}
use lib.Seq.{drop_at}
use Rattle.lists.specs.Lists.{flat_map, eqbs}
use Rattle.byte_words.specs.Bytes.{AllBytes}
use Rattle.wire_field.specs.Fields.{part_of}
use Rattle.std.specs.Prelude.{Option, Some, None, Ok}
use Rattle.wire_field.specs.Fields.{Field}
use Rattle.wire_field.specs.declared.Fields.{Fields}
use Rattle.wire_field.specs.declared.FieldName.{FieldName}
use Rattle.wire_field.specs.declared.FieldName.TheVariants as names
use Rattle.wire_entry.specs.declared.EntryBlock.{EntryBlock}
use Rattle.wire_read.specs.declared.DestroyPlayer.{DestroyPlayer}
use Rattle.wire_read.specs.declared.CreateGroup.{CreateGroup}
use Rattle.wire_read.specs.declared.DestroyGroup.{DestroyGroup}
use Rattle.wire_read.specs.declared.MembershipChange.{MembershipChange}
use Rattle.wire_read.specs.declared.Message.{Message}
use Rattle.wire_read.specs.declared.Message.TheVariants as said
use Rattle.wire_read.specs.Read.{reading_of}
use Rattle.wire_fields.specs.declared.Listed.{Listed}
use Rattle.wire_layout.specs.Layout.{entry_pairs, entry_layout}
use Rattle.wire_fields.specs.FieldList.{names_said, field_list}
use Rattle.table_rules.specs.Operations.{player, group, Act, AddEntry, RemoveEntry, Join, Leave}
use Rattle.operations.specs.Received.{ReadOperation}
use Rattle.operations.specs.Received.{refused_read, accepted_read, operation_said}
use Rattle.show_text.specs.Text.{ascii, decimal, named}
use Rattle.show_text.proofs.DecimalLaws.{stops, number_from, number_read}
use Rattle.show_parts.specs.Parts.{field_text, name_text, listed_text, fields_text}
use Rattle.show_message.specs.Line.{connect_info_text, entry_text, add_player_text, destroy_player_text, request_add_to_group_text}
use Rattle.show_message.specs.Line.{create_group_text, destroy_group_text, membership_change_text, add_to_group_text, delete_from_group_text, said_text}
use Rattle.show_told.proofs.NameLaws.{name_told, fields_name}

-- ---- words and numbers in turn, read back

-- the numbers behind these words, and the text behind the last
pub record Values : Type 0 where
  pub values : List ℕ
  pub rest : List ℕ

unfoldable pub numbers_in : List (List ℕ) → List ℕ → Values
numbers_in [] s = record { values = []; rest = s }
numbers_in (w ∷ ws) s =
    let x = number_from 0 (drop (length w) s) in
    let t = numbers_in ws x.rest in
    record { values = x.value ∷ t.values; rest = t.rest }

-- a text that starts with these words and numbers
pub record Tells (ws : List (List ℕ)) (s vs r : List ℕ) : Type 0 where
  pub read : numbers_in ws s ≡ record { values = vs; rest = r }

pub tells_end : (s : List ℕ) → Tells [] s [] s
unfolding numbers_in
tells_end s = record { read = refl }

pub tells_next : {ws : List (List ℕ)} {s vs r : List ℕ} (w : List ℕ) (n : ℕ) → n < 256 ^ 4 → Tells ws s vs r → stops s ≡ true
    → Tells (w ∷ ws) (named w n ++ s) (n ∷ vs) r
unfolding numbers_in named
tells_next {s = s} w n h t g =
    let d : drop (length w) ((w ++ decimal n) ++ s) ≡ decimal n ++ s =
    ap (drop (length w)) (append_assoc w (decimal n) s) ∙ drop_at w (decimal n ++ s) (length w) refl in
    record { read = rw (d, number_read n s (omega arith) g, t.read) }

-- ---- what stands behind the last number of a message

module _ (p s : List ℕ) (h : stops s ≡ true) where
  field_stops : (name : FieldName) (f : Field) → stops (field_text name f p ++ s) ≡ true
  unfolding field_text name_text ascii
  field_stops name None = h
  field_stops names.Name (Some q) = refl
  field_stops names.Data (Some q) = refl
  field_stops names.Password (Some q) = refl
  field_stops names.ConnectData (Some q) = refl
  field_stops names.Url (Some q) = refl
  field_stops names.AlternateAddress (Some q) = refl

listed_stops : (m s : List ℕ) → stops s ≡ true → (f : Option Listed) → stops (listed_text m f ++ s) ≡ true
unfolding listed_text
listed_stops m s h None = h
listed_stops m s h (Some l) = field_stops _ s h l.name l.field

flat_stops : (m s : List ℕ) → stops s ≡ true → (fs : List (Option Listed)) → stops (flat_map (listed_text m) fs ++ s) ≡ true
flat_stops m s h [] = h
flat_stops m s h (f ∷ fs) =
    rw (append_assoc (listed_text m f) (flat_map (listed_text m) fs) s) (listed_stops m (flat_map (listed_text m) fs ++ s) (flat_stops m s h fs) f)

fields_stop : (m s : List ℕ) → stops s ≡ true → stops (fields_text m ++ s) ≡ true
unfolding fields_text
fields_stop m s h = flat_stops m s h (field_list (reading_of m))

-- ---- the types that are operations: the words before the numbers that tell one

-- of an entry; the head stands before its dpnid
abbrev entry_words : List ℕ → List (List ℕ)
entry_words head = head ∷ ascii " owner " ∷ ascii " flags " ∷ ascii " version " ∷ ascii " not-used " ∷ ascii " dnet " ∷ []

abbrev add_words : List (List ℕ)
add_words = entry_words (ascii "0xD0 add player dpnid ")

abbrev create_words : List (List ℕ)
create_words = ascii "0xD7 create group requesting " ∷ ascii " context " ∷ entry_words (ascii " dpnid ")

-- of a removal; the head stands before its id
abbrev remove_words : List ℕ → List (List ℕ)
remove_words head = head ∷ ascii " version " ∷ []

abbrev destroy_player_words : List (List ℕ)
destroy_player_words = remove_words (ascii "0xD1 destroy player dpnid ")

abbrev destroy_group_words : List (List ℕ)
destroy_group_words = remove_words (ascii "0xD8 destroy group group ")

-- of a change of a membership; the head stands before its group
abbrev change_words : List ℕ → List (List ℕ)
change_words head = head ∷ ascii " player " ∷ ascii " version " ∷ []

abbrev join_words : List (List ℕ)
join_words = change_words (ascii "0xD9 add to group group ")

abbrev leave_words : List (List ℕ)
leave_words = change_words (ascii "0xDA delete from group group ")

-- the numbers of a message that is an operation fit their words
abbrev pub BlockFits : EntryBlock → ℕ → Type 0
BlockFits e u =
    (e.dpnid < 256 ^ 4) × (e.owner < 256 ^ 4) × (e.flags < 256 ^ 4) × (e.version < 256 ^ 4) × (u < 256 ^ 4) × (e.dnet_version < 256 ^ 4)

abbrev pub ChangeFits : MembershipChange → Type 0
ChangeFits v = (v.group < 256 ^ 4) × (v.player < 256 ^ 4) × (v.version < 256 ^ 4)

abbrev pub NumbersFit : Message → Type 0
NumbersFit (said.ConnectInfo v) = Unit {0}
NumbersFit (said.AddPlayer e u) = BlockFits e u
NumbersFit (said.DestroyPlayer v u) = (v.dpnid < 256 ^ 4) × (v.version < 256 ^ 4)
NumbersFit (said.RequestAddToGroup v) = Unit {0}
NumbersFit (said.CreateGroup v u) = BlockFits v.entry u × (v.requesting < 256 ^ 4) × (v.context < 256 ^ 4)
NumbersFit (said.DestroyGroup v u) = (v.group < 256 ^ 4) × (v.version < 256 ^ 4)
NumbersFit (said.AddToGroup v u) = ChangeFits v
NumbersFit (said.DeleteFromGroup v u) = ChangeFits v

abbrev entry_numbers : EntryBlock → ℕ → List ℕ
entry_numbers e u = e.dpnid ∷ e.owner ∷ e.flags ∷ e.version ∷ u ∷ e.dnet_version ∷ []

module _ (s : List ℕ) where
  entry_parts : (head m : List ℕ) (e : EntryBlock) (u : ℕ) → BlockFits e u → stops s ≡ true
      → Tells (entry_words head) (named head e.dpnid ++ (named (ascii " owner ") e.owner ++ (named (ascii " flags ") e.flags ++ (named (ascii " version ") e.version ++ (named (ascii " not-used ") u ++ (named (ascii " dnet ") e.dnet_version ++ (fields_text m ++ s))))))) (entry_numbers e u) (fields_text m ++ s)
  unfolding named ascii
  entry_parts head m e u f h =
      tells_next head e.dpnid f.0 (tells_next (ascii " owner ") e.owner f.1 (tells_next (ascii " flags ") e.flags f.2 (tells_next (ascii " version ") e.version f.3 (tells_next (ascii " not-used ") u f.4 (tells_next (ascii " dnet ") e.dnet_version f.5 (tells_end (fields_text m ++ s)) (fields_stop m s h)) refl) refl) refl) refl) refl

  entry_tells : (head m : List ℕ) (e : EntryBlock) (u : ℕ) → BlockFits e u → stops s ≡ true
      → Tells (entry_words head) (entry_text head m e u ++ s) (entry_numbers e u) (fields_text m ++ s)
  unfolding entry_text
  entry_tells head m e u f h = simp append_assoc (entry_parts head m e u f h)

  entry_stops : (m : List ℕ) (e : EntryBlock) (u : ℕ) → stops (entry_text (ascii " dpnid ") m e u ++ s) ≡ true
  unfolding entry_text named ascii
  entry_stops m e u = refl

  create_parts : (m : List ℕ) (v : CreateGroup) (u : ℕ) → NumbersFit (said.CreateGroup v u) → stops s ≡ true
      → Tells create_words (named (ascii "0xD7 create group requesting ") v.requesting ++ (named (ascii " context ") v.context ++ (entry_text (ascii " dpnid ") m v.entry u ++ s))) (v.requesting ∷ v.context ∷ entry_numbers v.entry u) (fields_text m ++ s)
  unfolding named ascii
  create_parts m v u f h =
      tells_next (ascii "0xD7 create group requesting ") v.requesting f.1 (tells_next (ascii " context ") v.context f.2 (entry_tells (ascii " dpnid ") m v.entry u f.0 h) (entry_stops m v.entry u)) refl

  create_tells : (m : List ℕ) (v : CreateGroup) (u : ℕ) → NumbersFit (said.CreateGroup v u) → stops s ≡ true
      → Tells create_words (create_group_text m v u ++ s) (v.requesting ∷ v.context ∷ entry_numbers v.entry u) (fields_text m ++ s)
  unfolding create_group_text
  create_tells m v u f h = simp append_assoc (create_parts m v u f h)

  -- a removal, and what stands behind its version
  remove_parts : (head : List ℕ) (i v : ℕ) → i < 256 ^ 4 → v < 256 ^ 4 → stops s ≡ true
      → Tells (remove_words head) (named head i ++ (named (ascii " version ") v ++ s)) (i ∷ v ∷ []) s
  unfolding named ascii
  remove_parts head i v f g h = tells_next head i f (tells_next (ascii " version ") v g (tells_end s) h) refl

  abbrev player_rest : DestroyPlayer → ℕ → List ℕ
  player_rest v u = named (ascii " not-used ") u ++ (named (ascii " reason ") v.reason ++ s)

  abbrev change_rest : ℕ → ℕ → ℕ → List ℕ
  change_rest u requesting context = named (ascii " not-used ") u ++ (named (ascii " requesting ") requesting ++ (named (ascii " context ") context ++ s))

  change_parts : (head : List ℕ) (v : MembershipChange) (u : ℕ) → ChangeFits v
      → Tells (change_words head) (named head v.group ++ (named (ascii " player ") v.player ++ (named (ascii " version ") v.version ++ change_rest u v.requesting v.context))) (v.group ∷ v.player ∷ v.version ∷ []) (change_rest u v.requesting v.context)
  unfolding named ascii
  change_parts head v u f =
      tells_next head v.group f.0 (tells_next (ascii " player ") v.player f.1 (tells_next (ascii " version ") v.version f.2 (tells_end (change_rest u v.requesting v.context)) refl) refl) refl

  change_tells : (head : List ℕ) (v : MembershipChange) (u : ℕ) → ChangeFits v
      → Tells (change_words head) (membership_change_text head v u ++ s) (v.group ∷ v.player ∷ v.version ∷ []) (change_rest u v.requesting v.context)
  unfolding membership_change_text
  change_tells head v u f = simp append_assoc (change_parts head v u f)

not_used_stops : (u : ℕ) (r : List ℕ) → stops (named (ascii " not-used ") u ++ r) ≡ true
unfolding named ascii
not_used_stops u r = refl

module _ (s : List ℕ) where
  destroy_player_tells : (v : DestroyPlayer) (u : ℕ) → NumbersFit (said.DestroyPlayer v u)
      → Tells destroy_player_words (destroy_player_text v u ++ s) (v.dpnid ∷ v.version ∷ []) (player_rest s v u)
  unfolding destroy_player_text
  destroy_player_tells v u f =
      simp append_assoc (remove_parts (player_rest s v u) (ascii "0xD1 destroy player dpnid ") v.dpnid v.version f.0 f.1 (not_used_stops u _))

  destroy_group_tells : (v : DestroyGroup) (u : ℕ) → NumbersFit (said.DestroyGroup v u)
      → Tells destroy_group_words (destroy_group_text v u ++ s) (v.group ∷ v.version ∷ []) (change_rest s u v.requesting v.context)
  unfolding destroy_group_text
  destroy_group_tells v u f =
      simp append_assoc (remove_parts (change_rest s u v.requesting v.context) (ascii "0xD8 destroy group group ") v.group v.version f.0 f.1 (not_used_stops u _))

-- ---- the operation that a text tells; 13 where it tells none

-- the entry of that kind with these numbers and this name
abbrev added : ℕ → List ℕ → List ℕ → ReadOperation
added kind vs name = accepted_read (get_or vs 3 0) (AddEntry kind (get_or vs 0 0) (get_or vs 1 0) (get_or vs 2 0) (get_or vs 5 0) name)

abbrev add_in : ℕ → ℕ → Values → ReadOperation
add_in kind before t = added kind (drop before t.values) (name_told t.rest)

abbrev remove_in : ℕ → Values → ReadOperation
remove_in kind t = accepted_read (get_or t.values 1 0) (RemoveEntry kind (get_or t.values 0 0))

abbrev change_in : (ℕ → ℕ → Act) → Values → ReadOperation
change_in act t = accepted_read (get_or t.values 2 0) (act (get_or t.values 0 0) (get_or t.values 1 0))

-- how a line is read that starts with these four bytes
record Reader : Type 0 where
  start : List ℕ
  words : List (List ℕ)
  operation : Values → ReadOperation

abbrev readers : List Reader
readers =
    record { start = ascii "0xD0"; words = add_words; operation = add_in player 0 }
    ∷ record { start = ascii "0xD1"; words = destroy_player_words; operation = remove_in player }
    ∷ record { start = ascii "0xD7"; words = create_words; operation = add_in group 2 }
    ∷ record { start = ascii "0xD8"; words = destroy_group_words; operation = remove_in group }
    ∷ record { start = ascii "0xD9"; words = join_words; operation = change_in Join }
    ∷ record { start = ascii "0xDA"; words = leave_words; operation = change_in Leave }
    ∷ []

abbrev told_by : List Reader → List ℕ → List ℕ → ReadOperation
told_by [] start s = refused_read 13
told_by (r ∷ rs) start s = cond (eqbs start r.start) (r.operation (numbers_in r.words s)) (told_by rs start s)

unfoldable pub operation_told : List ℕ → ReadOperation
operation_told s = told_by readers (take 4 s) s

-- what a message says, and what stands behind it in its line
module _ (m x : List ℕ) (b : AllBytes m) where
  abbrev line_rest : List ℕ
  line_rest = ascii ": " ++ x

  pub said_tells : (a : Message) (fs : Fields) → reading_of m ≡ Ok (record { message = a; fields = fs }) → NumbersFit a
      → operation_told (said_text m a ++ line_rest) ≡ operation_said (part_of m fs.name) a
  unfolding said_text connect_info_text add_player_text entry_text destroy_player_text request_add_to_group_text create_group_text destroy_group_text add_to_group_text delete_from_group_text membership_change_text named ascii operation_told operation_said eqbs names_said entry_layout entry_pairs
  said_tells (said.ConnectInfo v) fs h f = refl
  said_tells (said.AddPlayer e u) fs h f =
      ap (add_in player 0) (entry_tells line_rest (ascii "0xD0 add player dpnid ") m e u f refl).read
      ∙ ap (added player (entry_numbers e u)) (fields_name m x b (said.AddPlayer e u) fs refl h)
  said_tells (said.DestroyPlayer v u) fs h f = ap (remove_in player) (destroy_player_tells line_rest v u f).read
  said_tells (said.RequestAddToGroup v) fs h f = refl
  said_tells (said.CreateGroup v u) fs h f =
      ap (add_in group 2) (create_tells line_rest m v u f refl).read
      ∙ ap (added group (entry_numbers v.entry u)) (fields_name m x b (said.CreateGroup v u) fs refl h)
  said_tells (said.DestroyGroup v u) fs h f = ap (remove_in group) (destroy_group_tells line_rest v u f).read
  said_tells (said.AddToGroup v u) fs h f = ap (change_in Join) (change_tells line_rest (ascii "0xD9 add to group group ") v u f).read
  said_tells (said.DeleteFromGroup v u) fs h f = ap (change_in Leave) (change_tells line_rest (ascii "0xDA delete from group group ") v u f).read
