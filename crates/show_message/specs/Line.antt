-- What a message says, as one line of text: its words and fields in the order of the header (paper 01, "What the station covers"; paper 02,
-- A5), or why it is refused.
use Rattle.std.specs.Prelude.{ℕ, List, ◌++◌, Ok, Err}
use Rattle.show_text.specs.Text.{ascii, named}
use Rattle.show_refusal.specs.Meaning.{meaning}
use Rattle.wire_read.specs.declared.Message.{Message}
use Rattle.wire_read.specs.declared.Message.TheVariants as said
use Rattle.refusal.specs.Numbers.{number}
use Rattle.wire_read.specs.Read.{Reading, reading_of}
use Rattle.show_parts.specs.Parts.{guid_named, fields_text}
use Rattle.wire_connect.specs.declared.ConnectInfo.{ConnectInfo}
use Rattle.wire_entry.specs.declared.EntryBlock.{EntryBlock}
use Rattle.wire_read.specs.declared.DestroyPlayer.{DestroyPlayer}
use Rattle.wire_read.specs.declared.RequestAddToGroup.{RequestAddToGroup}
use Rattle.wire_read.specs.declared.CreateGroup.{CreateGroup}
use Rattle.wire_read.specs.declared.DestroyGroup.{DestroyGroup}
use Rattle.wire_read.specs.declared.MembershipChange.{MembershipChange}

-- the number, and what it means
unfoldable pub refused_text : ℕ → List ℕ
refused_text n = named (ascii "refused ") n ++ (ascii " " ++ meaning n)

-- a text for each type

unfoldable pub connect_info_text : List ℕ → ConnectInfo → List ℕ
connect_info_text m v =
    named (ascii "0xC1 connect info flags ") v.flags
    ++ (named (ascii " dnet ") v.dnet_version
    ++ (guid_named (ascii " instance ") v.instance
    ++ (guid_named (ascii " application ") v.application
    ++ fields_text m)))

-- an entry, what stands before its dpnid as given: in 0xD0 and 0xD7
unfoldable pub entry_text : List ℕ → List ℕ → EntryBlock → ℕ → List ℕ
entry_text head m v not_used =
    named head v.dpnid
    ++ (named (ascii " owner ") v.owner
    ++ (named (ascii " flags ") v.flags
    ++ (named (ascii " version ") v.version
    ++ (named (ascii " not-used ") not_used
    ++ (named (ascii " dnet ") v.dnet_version
    ++ fields_text m)))))

unfoldable pub add_player_text : List ℕ → EntryBlock → ℕ → List ℕ
add_player_text m v not_used = entry_text (ascii "0xD0 add player dpnid ") m v not_used

unfoldable pub destroy_player_text : DestroyPlayer → ℕ → List ℕ
destroy_player_text v not_used =
    named (ascii "0xD1 destroy player dpnid ") v.dpnid
    ++ (named (ascii " version ") v.version
    ++ (named (ascii " not-used ") not_used
    ++ named (ascii " reason ") v.reason))

unfoldable pub request_add_to_group_text : RequestAddToGroup → List ℕ
request_add_to_group_text v =
    named (ascii "0xD3 request add to group context ") v.context
    ++ (named (ascii " group ") v.group
    ++ named (ascii " player ") v.player)

unfoldable pub create_group_text : List ℕ → CreateGroup → ℕ → List ℕ
create_group_text m v not_used =
    named (ascii "0xD7 create group requesting ") v.requesting
    ++ (named (ascii " context ") v.context
    ++ entry_text (ascii " dpnid ") m v.entry not_used)

unfoldable pub destroy_group_text : DestroyGroup → ℕ → List ℕ
destroy_group_text v not_used =
    named (ascii "0xD8 destroy group group ") v.group
    ++ (named (ascii " version ") v.version
    ++ (named (ascii " not-used ") not_used
    ++ (named (ascii " requesting ") v.requesting
    ++ named (ascii " context ") v.context)))

-- a change of a membership, what stands before its group as given: 0xD9 and 0xDA
unfoldable pub membership_change_text : List ℕ → MembershipChange → ℕ → List ℕ
membership_change_text head v not_used =
    named head v.group
    ++ (named (ascii " player ") v.player
    ++ (named (ascii " version ") v.version
    ++ (named (ascii " not-used ") not_used
    ++ (named (ascii " requesting ") v.requesting
    ++ named (ascii " context ") v.context))))

unfoldable pub add_to_group_text : MembershipChange → ℕ → List ℕ
add_to_group_text v not_used = membership_change_text (ascii "0xD9 add to group group ") v not_used

unfoldable pub delete_from_group_text : MembershipChange → ℕ → List ℕ
delete_from_group_text v not_used = membership_change_text (ascii "0xDA delete from group group ") v not_used

-- by type
unfoldable pub said_text : List ℕ → Message → List ℕ
said_text m (said.ConnectInfo v) = connect_info_text m v
said_text m (said.AddPlayer e n) = add_player_text m e n
said_text m (said.DestroyPlayer v n) = destroy_player_text v n
said_text m (said.RequestAddToGroup v) = request_add_to_group_text v
said_text m (said.CreateGroup v n) = create_group_text m v n
said_text m (said.DestroyGroup v n) = destroy_group_text v n
said_text m (said.AddToGroup v n) = add_to_group_text v n
said_text m (said.DeleteFromGroup v n) = delete_from_group_text v n

-- by what reading answers
unfoldable pub reading_text : List ℕ → Reading → List ℕ
reading_text m (Err why) = refused_text (number why)
reading_text m (Ok read) = said_text m read.message

unfoldable pub message_text : List ℕ → List ℕ
message_text m = reading_text m (reading_of m)

unfoldable pub message_line : List ℕ → List ℕ
message_line m = message_text m ++ ascii "\n"
