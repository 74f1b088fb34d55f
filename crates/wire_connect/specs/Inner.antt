-- What only inner functions and proofs need. No public contract cites it.
use Rattle.std.specs.Prelude.{◌≡◌, ℕ, ◌+◌, ◌≤◌, List, length}
use Rattle.wire_field.specs.Words.{type_word, whole}
use Rattle.wire_field.specs.Fields.{count_of}
use Rattle.wire_connect.specs.Connect.{connect_info, connect_fields}
use Rattle.wire_connect.specs.declared.ConnectCounts.{ConnectCounts}

-- the message of this part after the type word has its whole fixed part
abbrev pub FixedWhole : List ℕ → Type 0
FixedWhole rest = (kind : ℕ) → (connect_info (whole kind rest)).fixed ≤ type_word + length rest

-- these are the characters of the message's fields
pub record ConnectCounted (c : ConnectCounts) (m : List ℕ) : Type 0 where
  pub name : c.name ≡ count_of (connect_fields m).name
  pub password : c.password ≡ count_of (connect_fields m).password
  pub url : c.url ≡ count_of (connect_fields m).url
