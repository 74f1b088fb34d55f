-- What only inner functions and proofs need. No contract of a call that users make cites it.
use Rattle.std.specs.Prelude.{◌≡◌, ℕ, List}
use Rattle.wire_field.specs.Fields.{count_of}
use Rattle.wire_entry.specs.Entry.{entry_fields}
use Rattle.wire_entry.specs.declared.EntryCounts.{EntryCounts}

-- these are the characters of the fields of the entry block at p
pub record EntryCounted (c : EntryCounts) (m : List ℕ) (p : ℕ) : Type 0 where
  pub name : c.name ≡ count_of (entry_fields m p).name
  pub url : c.url ≡ count_of (entry_fields m p).url
