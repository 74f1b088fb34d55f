-- What delivery makes of a message (paper 01, "The station" and "Numbers a call may answer"; paper 02, A3 and A5): here wire and table meet.
use Rattle.std.specs.Prelude.{ℕ, List, take, Ok, Err}
use Rattle.refusal.specs.Numbers.{number}
use Rattle.lists.specs.Lists.{without_last}
use Rattle.wire_text.specs.Text.{units}
use Rattle.wire_field.specs.Fields.{part_of}
use Rattle.wire_read.specs.Read.{Reading, reading_of}
use Rattle.wire_read.specs.declared.Message.{Message}
use Rattle.wire_read.specs.declared.Message.TheVariants as said
use Rattle.names.specs.Names.{max_name}
use Rattle.wire_entry.specs.declared.EntryBlock.{EntryBlock}
use Rattle.table_rules.specs.Operations.{player, group, Act, AddEntry, RemoveEntry, Join, Leave, Operation, no_operation}

-- the number that refuses a message, or 0 and its operation
pub record ReadOperation : Type 0 where
  pub number : ℕ
  pub operation : Operation

abbrev pub refused_read : ℕ → ReadOperation
refused_read n = record { number = n; operation = no_operation }

abbrev pub accepted_read : ℕ → Act → ReadOperation
accepted_read v a = record { number = 0; operation = record { version = v; act = a } }

-- what is kept of the part that holds a name: all its units but the terminator, and of more than 31 the first 31; an absent name is empty
unfoldable pub kept_name : List ℕ → List ℕ
kept_name part = take max_name (without_last (units part))

-- an entry block of that kind, with the part that holds the name
abbrev pub added_read : ℕ → EntryBlock → List ℕ → ReadOperation
added_read kind e name = accepted_read e.version (AddEntry kind e.dpnid e.owner e.flags e.dnet_version (kept_name name))

-- 0 and the kept fields of 0xD0, 0xD1 and 0xD7 to 0xDA, with the part that holds the name; 13: the message is no operation. Of a message
-- on groups the requesting id and the context are not kept
unfoldable pub operation_said : List ℕ → Message → ReadOperation
operation_said name (said.ConnectInfo v) = refused_read 13
operation_said name (said.AddPlayer e n) = added_read player e name
operation_said name (said.DestroyPlayer v n) = accepted_read v.version (RemoveEntry player v.dpnid)
operation_said name (said.RequestAddToGroup v) = refused_read 13
operation_said name (said.CreateGroup v n) = added_read group v.entry name
operation_said name (said.DestroyGroup v n) = accepted_read v.version (RemoveEntry group v.group)
operation_said name (said.AddToGroup v n) = accepted_read v.version (Join v.group v.player)
operation_said name (said.DeleteFromGroup v n) = accepted_read v.version (Leave v.group v.player)

-- 1 to 10 as reading answers
unfoldable pub operation_of : List ℕ → Reading → ReadOperation
operation_of m (Err why) = refused_read (number why)
operation_of m (Ok read) = operation_said (part_of m read.fields.name) read.message

unfoldable pub operation_in : List ℕ → ReadOperation
operation_in m = operation_of m (reading_of m)
