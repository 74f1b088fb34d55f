-- Player connect info, 0xC1 (paper 01): its numbers and GUIDs.
use Rattle.std.specs.Prelude.{◌≡◌, ℕ, ◌+◌, ◌≤◌, cond, List, [], ◌∷◌, length, take, drop, ltb}
use Rattle.byte_words.specs.Bytes.{little, words, AllBytes}
use Rattle.wire_field.specs.Words.{word}
use Rattle.wire_field.specs.declared.Fields.{Fields}
use Rattle.wire_layout.specs.Layout.{Layout, first, second, extended_from, plain_connect_info, extended_connect_info}
use Rattle.wire_layout.specs.Checks.{layout_fields}
use Rattle.wire_connect.specs.declared.Guid.{Guid}
use Rattle.wire_connect.specs.declared.ConnectInfo.{ConnectInfo}

-- a GUID's four words
abbrev pub guid_words : Guid → List ℕ
guid_words g = g.0 ∷ (g.1 ∷ (g.2 ∷ (g.3 ∷ [])))

-- its 16 bytes
abbrev pub guid_bytes : Guid → List ℕ
guid_bytes g = words little (guid_words g)

abbrev pub guid_size : ℕ
guid_size = 16

-- those from p on, as a GUID
unfoldable pub guid_at : List ℕ → ℕ → Guid
guid_at m p = record { 0 = word m p; 1 = word m (p + 4); 2 = word m (p + 8); 3 = word m (p + 12) }

unfoldable pub connect_values : List ℕ → ConnectInfo
connect_values m = record { flags = word m first; dnet_version = word m second; instance = guid_at m 52; application = guid_at m 68 }

-- the form by the DNET version
unfoldable pub connect_by : ℕ → Layout
connect_by dnet = cond (ltb dnet extended_from) plain_connect_info extended_connect_info

-- the layout that a message of this type has
abbrev pub connect_info : List ℕ → Layout
connect_info m = connect_by (word m second)

-- its fields
abbrev pub connect_fields : List ℕ → Fields
connect_fields m = layout_fields (connect_info m) m

-- the statement: a GUID that was read is the 16 bytes that stand in the message
abbrev pub GuidBytesKept : Type 0
GuidBytesKept = (m : List ℕ) → AllBytes m → (p : ℕ) → p + guid_size ≤ length m → guid_bytes (guid_at m p) ≡ take guid_size (drop p m)
