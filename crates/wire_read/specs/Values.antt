-- The listed types (paper 01, "What the station covers"; paper 02, A5): what each says, the words in order, by position; its layout; its row.
use Rattle.std.specs.Prelude.{ℕ, List, [], ◌∷◌}
use Rattle.wire_field.specs.Words.{word}
use Rattle.wire_entry.specs.Entry.{entry_at, entry_not_used}
use Rattle.wire_layout.specs.Layout.{Layout, first, second, third, fourth, fifth, sixth}
use Rattle.wire_layout.specs.Layout.{add_player, destroy_player, request_add_to_group, create_group, destroy_group, add_to_group, delete_from_group}
use Rattle.wire_layout.specs.Layout.{connect_info_word, add_player_word, destroy_player_word, request_add_to_group_word}
use Rattle.wire_layout.specs.Layout.{create_group_word, destroy_group_word, add_to_group_word, delete_from_group_word}
use Rattle.wire_connect.specs.Connect.{connect_info, connect_values, connect_by}
use Rattle.wire_read.specs.declared.MembershipChange.{MembershipChange}
use Rattle.wire_read.specs.declared.Message.{Message}
use Rattle.wire_read.specs.declared.Message.TheVariants as said

-- 0xC1: type, flags, DNET version; five pairs; instance and application GUID
abbrev pub connect_info_of : List ℕ → Message
connect_info_of m = said.ConnectInfo (connect_values m)

-- 0xD0: type, entry
abbrev pub add_player_of : List ℕ → Message
add_player_of m = said.AddPlayer (entry_at m first) (entry_not_used m first)

-- 0xD1: type, dpnid leaving, version, version-not-used, reason
abbrev pub destroy_player_of : List ℕ → Message
destroy_player_of m = said.DestroyPlayer (record { dpnid = word m first; version = word m second; reason = word m fourth }) (word m third)

-- 0xD3: type, context, group, player
abbrev pub request_add_to_group_of : List ℕ → Message
request_add_to_group_of m = said.RequestAddToGroup (record { context = word m first; group = word m second; player = word m third })

-- 0xD7: type, requesting dpnid, context, entry
abbrev pub create_group_of : List ℕ → Message
create_group_of m =
    said.CreateGroup (record { requesting = word m first; context = word m second; entry = entry_at m third }) (entry_not_used m third)

-- 0xD8: type, group, version, version-not-used, requesting dpnid, context
abbrev pub destroy_group_of : List ℕ → Message
destroy_group_of m =
    said.DestroyGroup (record { group = word m first; version = word m second; requesting = word m fourth; context = word m fifth }) (word m third)

-- 0xD9 and 0xDA: type, group, player, version, version-not-used, requesting dpnid, context
abbrev pub membership_change_of : List ℕ → MembershipChange
membership_change_of m =
    record { group = word m first; player = word m second; version = word m third; requesting = word m fifth; context = word m sixth }

-- the word of theirs that is not used
abbrev pub membership_change_not_used : List ℕ → ℕ
membership_change_not_used m = word m fourth

abbrev pub add_to_group_of : List ℕ → Message
add_to_group_of m = said.AddToGroup (membership_change_of m) (membership_change_not_used m)

abbrev pub delete_from_group_of : List ℕ → Message
delete_from_group_of m = said.DeleteFromGroup (membership_change_of m) (membership_change_not_used m)

-- the layout of a message that says this
abbrev pub layout_of : Message → Layout
layout_of (said.ConnectInfo v) = connect_by v.dnet_version
layout_of (said.AddPlayer e n) = add_player
layout_of (said.DestroyPlayer v n) = destroy_player
layout_of (said.RequestAddToGroup v) = request_add_to_group
layout_of (said.CreateGroup v n) = create_group
layout_of (said.DestroyGroup v n) = destroy_group
layout_of (said.AddToGroup v n) = add_to_group
layout_of (said.DeleteFromGroup v n) = delete_from_group

-- a listed type: its type word, the layout that its bytes have, and what it says
pub record Row : Type 0 where
  pub kind : ℕ
  pub layout : List ℕ → Layout
  pub said : List ℕ → Message

abbrev pub row : ℕ → Layout → (List ℕ → Message) → Row
row kind l said = record { kind = kind; layout = λ m. l; said = said }

abbrev pub rows : List Row
rows =
    record { kind = connect_info_word; layout = connect_info; said = connect_info_of }
    ∷ row add_player_word add_player add_player_of
    ∷ row destroy_player_word destroy_player destroy_player_of
    ∷ row request_add_to_group_word request_add_to_group request_add_to_group_of
    ∷ row create_group_word create_group create_group_of
    ∷ row destroy_group_word destroy_group destroy_group_of
    ∷ row add_to_group_word add_to_group add_to_group_of
    ∷ row delete_from_group_word delete_from_group delete_from_group_of
    ∷ []
