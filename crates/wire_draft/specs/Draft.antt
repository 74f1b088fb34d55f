-- What a writer is told, and the bytes that say it (paper 01, "What the station covers", and paper 02, A5, the words in order; "Fields of
-- varying length", the order in which the writer lays fields out).
use Rattle.std.specs.Prelude.{ℕ, ◌+◌, ◌-◌, Bool, cond, not, ◌||◌, List, [], ◌∷◌, ◌++◌, length, take, drop, eqb}
use Rattle.byte_words.specs.Bytes.{little, words}
use Rattle.wire_field.specs.Words.{type_word}
use Rattle.wire_field.specs.declared.FieldName.{FieldName}
use Rattle.wire_layout.specs.Layout.{Layout, Pair, connect_info_word, add_player_word, destroy_player_word, request_add_to_group_word}
use Rattle.wire_layout.specs.Layout.{create_group_word, destroy_group_word, add_to_group_word, delete_from_group_word}
use Rattle.wire_entry.specs.declared.EntryBlock.{EntryBlock}
use Rattle.wire_connect.specs.declared.ConnectInfo.{ConnectInfo}
use Rattle.wire_connect.specs.Connect.{guid_words}
use Rattle.wire_read.specs.Values.{layout_of}
use Rattle.wire_read.specs.declared.MembershipChange.{MembershipChange}
use Rattle.wire_read.specs.declared.Message.{Message}
use Rattle.wire_read.specs.declared.Message.TheVariants as said

pub record Draft : Type 0 where
  -- type and values
  pub said : Message
  -- the bytes of each field, none where it is absent
  pub bytes : FieldName → List ℕ
  -- a reason to refuse it that its bytes cannot show
  pub flaw : Bool

-- the fields back to back, the last in header order first: alternate address, URL, connect data, password, data, name
abbrev pub laid : (FieldName → List ℕ) → List Pair → List ℕ
laid bytes [] = []
laid bytes (p ∷ ps) = laid bytes ps ++ bytes p.name

-- the size of each field
abbrev pub lengths : (FieldName → List ℕ) → FieldName → ℕ
lengths bytes n = length (bytes n)

-- how many bytes that are, by the fields' sizes
abbrev pub space : (FieldName → ℕ) → List Pair → ℕ
space size [] = 0
space size (p ∷ ps) = space size ps + size p.name

-- the offset of a field of this size that is laid out at an offset; 0 where it is absent
abbrev pub offset_given : ℕ → ℕ → ℕ
offset_given size offset = cond (eqb size 0) 0 offset

-- offset and size of each in header order, the field laid out first at the offset o
abbrev pub pair_words : ℕ → (FieldName → ℕ) → List Pair → List ℕ
pair_words o size [] = []
pair_words o size (p ∷ ps) = offset_given (size p.name) (o + space size ps) ∷ size p.name ∷ pair_words o size ps

-- the entry block but for its pairs, the word that is not used beside it
abbrev pub block_words : EntryBlock → ℕ → List ℕ
block_words e unused = e.dpnid ∷ e.owner ∷ e.flags ∷ e.version ∷ unused ∷ e.dnet_version ∷ []

-- 0xC1: flags, DNET version, and of the pairs' words ps the first five pairs
abbrev pub connect_head : ConnectInfo → List ℕ → List ℕ
connect_head v ps = connect_info_word ∷ v.flags ∷ v.dnet_version ∷ take 10 ps

-- then both GUIDs, and the pair that is left in the extended form
abbrev pub connect_tail : ConnectInfo → List ℕ → List ℕ
connect_tail v ps = guid_words v.instance ++ (guid_words v.application ++ drop 10 ps)

-- 0xD9 and 0xDA: the type word, and what is said
abbrev pub membership_change_words : ℕ → MembershipChange → ℕ → List ℕ
membership_change_words kind v unused = kind ∷ v.group ∷ v.player ∷ v.version ∷ unused ∷ v.requesting ∷ v.context ∷ []

-- one of its ids is 0
abbrev pub membership_change_bad : MembershipChange → Bool
membership_change_bad v = eqb v.group 0 || eqb v.player 0

-- the words of the fixed part, type word first; ps are the pairs' words
abbrev pub fixed_words : Message → List ℕ → List ℕ
fixed_words (said.ConnectInfo v) ps = connect_head v ps ++ connect_tail v ps
fixed_words (said.AddPlayer e unused) ps = add_player_word ∷ (block_words e unused ++ ps)
fixed_words (said.DestroyPlayer v unused) ps = destroy_player_word ∷ v.dpnid ∷ v.version ∷ unused ∷ v.reason ∷ []
fixed_words (said.RequestAddToGroup v) ps = request_add_to_group_word ∷ v.context ∷ v.group ∷ v.player ∷ []
fixed_words (said.CreateGroup v unused) ps = create_group_word ∷ v.requesting ∷ v.context ∷ (block_words v.entry unused ++ ps)
fixed_words (said.DestroyGroup v unused) ps = destroy_group_word ∷ v.group ∷ v.version ∷ unused ∷ v.requesting ∷ v.context ∷ []
fixed_words (said.AddToGroup v unused) ps = membership_change_words add_to_group_word v unused
fixed_words (said.DeleteFromGroup v unused) ps = membership_change_words delete_from_group_word v unused

-- values that reading refuses: flags neither client nor peer, or an id that is 0
abbrev pub says_bad : Message → Bool
says_bad (said.ConnectInfo v) = not (eqb v.flags 2 || eqb v.flags 4)
says_bad (said.AddPlayer e unused) = eqb e.dpnid 0
says_bad (said.DestroyPlayer v unused) = eqb v.dpnid 0
says_bad (said.RequestAddToGroup v) = eqb v.group 0 || eqb v.player 0
says_bad (said.CreateGroup v unused) = eqb v.entry.dpnid 0
says_bad (said.DestroyGroup v unused) = eqb v.group 0
says_bad (said.AddToGroup v unused) = membership_change_bad v
says_bad (said.DeleteFromGroup v unused) = membership_change_bad v

-- the offset of what stands straight after the fixed part
abbrev pub first_offset : Layout → ℕ
first_offset l = l.fixed - type_word

-- the words of a draft
abbrev pub draft_words : Draft → List ℕ
draft_words d =
    fixed_words d.said (pair_words (first_offset (layout_of d.said)) (lengths d.bytes) (layout_of d.said).pairs)

-- the message: fixed part, then the fields
unfoldable pub draft_bytes : Draft → List ℕ
draft_bytes d = words little (draft_words d) ++ laid d.bytes (layout_of d.said).pairs
