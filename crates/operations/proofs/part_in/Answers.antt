-- `part_in` meets its contract: the message is its type word and the part after it.
use mathlib.Core.Path.{◌≡◌, ap, ◌∙◌}
use Prim.Native.Nat.{ℕ, ◌+◌, ◌-◌, ◌≤◌}
use mathlib.Core.List.{List}
use native.Mathlib.Omega.{arith}
use lib.ListN.{length, take, drop, length-drop}
use lib.Seq.{length-take-le}
use Rattle.wire_field.specs.Words.{type_word, whole, word}
use Rattle.wire_field.specs.Fields.{part_of}
use Rattle.wire_read.proofs.ReadLaws.{whole_again}
use Rattle.operations.proofs.RowLaws.{short_part}
use Rattle.operations.proofs.part_in.Goals as goal

all_there : (m : List ℕ) → type_word ≤ length m → type_word + length (take (length m - type_word) (drop type_word m)) ≡ length m
all_there m h = ap (λ (n : ℕ). type_word + n) (length-take-le (length m - type_word) (drop type_word m) (omega (arith, length-drop type_word m))) ∙ omega arith

pub returns-then-m-lt-TYPE_WORD : goal.returns-then-m-lt-TYPE_WORD
returns-then-m-lt-TYPE_WORD c = short_part c.args.m.now c.args.field c.requires c.if-m-lt-TYPE_WORD.true

pub part_of-requires : goal.part_of-requires
part_of-requires c = rw (all_there c.args.m.now (omega arith)) c.requires

pub returns : goal.returns
returns c =
    let m = c.args.m.now in
    let e : whole (word m 0) (take (length m - type_word) (drop type_word m)) ≡ m = whole_again m (omega arith) (λ i. omega (arith, c.type_inv.m i)) in
    c.part_of.ensures.by_index (word m 0) ∙ ap (λ (y : List ℕ). part_of y c.args.field) e
