-- The number that refuses a message is that of a refusal.
use mathlib.Core.Path.{◌≡◌, refl}
use Prim.Native.Nat.{ℕ, ◌+◌}
use mathlib.Core.Bool.{Bool, true, false, cond}
use mathlib.Core.List.{List}
use mathlib.Core.Option.{Option, none, some}
use Rattle.std.specs.Prelude.{Ok, Err}
use lib.Dec.{eqb, leb, ltb}
use borrow.Author.Tests.{eqb-false}
use Rattle.refusal.proofs.NumberLaws.{Listed, number_listed}
use Rattle.table_rules.specs.Operations.{Operation, same_operation, find}
use Rattle.table_rules.specs.NameTable.{NameTable}
use Rattle.wire_field.specs.Fields.{part_of}
use Rattle.wire_read.specs.declared.Message.{Message}
use Rattle.wire_read.specs.declared.Message.TheVariants as said
use Rattle.wire_read.specs.Read.{Reading, reading_of}
use Rattle.operations.specs.Received.{operation_said, operation_of, operation_in}
use Rattle.replay.specs.Replay.{watermark, repeated_no, version_no, message_no}

-- 1 to 10 are of reading, 13 is the only other
said_listed : (name : List ℕ) (s : Message) → ¬ ((operation_said name s).number ≡ 0) → Listed (operation_said name s).number
unfolding operation_said
said_listed name (said.ConnectInfo v) h = refl
said_listed name (said.AddPlayer e n) h = absurd (h refl)
said_listed name (said.DestroyPlayer v n) h = absurd (h refl)
said_listed name (said.RequestAddToGroup v) h = refl
said_listed name (said.CreateGroup v n) h = absurd (h refl)
said_listed name (said.DestroyGroup v n) h = absurd (h refl)
said_listed name (said.AddToGroup v n) h = absurd (h refl)
said_listed name (said.DeleteFromGroup v n) h = absurd (h refl)

of_listed : (m : List ℕ) (r : Reading) → ¬ ((operation_of m r).number ≡ 0) → Listed (operation_of m r).number
unfolding operation_of
of_listed m (Err why) h = number_listed why
of_listed m (Ok r) h = said_listed (part_of m r.fields.name) r.message h

read_listed : (m : List ℕ) → ¬ ((operation_in m).number ≡ 0) → Listed (operation_in m).number
unfolding operation_in
read_listed m h = of_listed m (reading_of m) h

repeated_listed : (b : Bool) → Listed (cond b 16 17)
repeated_listed true = refl
repeated_listed false = refl

version_listed : (n : ℕ) (acc : List Operation) (op : Operation) → ¬ (version_no n acc op ≡ 0) → Listed (version_no n acc op)
unfolding version_no repeated_no
version_listed n acc op = go (leb op.version n) (ltb (n + 32) op.version) (find op.version acc)
  where
    go : (b d : Bool) (f : Option Operation) → ¬ (cond b 14 (cond d 15 (repeated_no op f)) ≡ 0) → Listed (cond b 14 (cond d 15 (repeated_no op f)))
    go true d f h = refl
    go false true f h = refl
    go false false none h = absurd (h refl)
    go false false (some w) h = repeated_listed (same_operation op w)

pub message_listed : (t : NameTable) (acc : List Operation) (m : List ℕ) → eqb (message_no t acc m) 0 ≡ false → Listed (message_no t acc m)
unfolding message_no
message_listed t acc m e = go (eqb (operation_in m).number 0) refl (eqb-false (message_no t acc m) 0 e)
  where
    go : (b : Bool) → eqb (operation_in m).number 0 ≡ b
        → ¬ (cond b (version_no (watermark t.version acc) acc (operation_in m).operation) (operation_in m).number ≡ 0)
        → Listed (cond b (version_no (watermark t.version acc) acc (operation_in m).operation) (operation_in m).number)
    go true k h = version_listed (watermark t.version acc) acc (operation_in m).operation h
    go false k h = read_listed m h
