-- `field` meets its contract: the message is its type word and the part after it.
use Rattle.wire_read.specs.Read.{field_part, field_start}
use Rattle.wire_read.proofs.ReadLaws.{whole_again, reading_short, none_shown}
use Rattle.wire_field.specs.Words.{whole}
use lib.ListN.{length, take, drop}
use Prim.Native.Nat.{◌-◌, ◌≤◌}
use mathlib.Core.Path.{◌≡◌, ap, refl, ◌∙◌}
use borrow.Author.Tests.{lt-ltb, le-ltb}
use native.Mathlib.Nat.{zero-add, add_assoc}
use native.Mathlib.Omega.{arith}
use Rattle.wire_read.proofs.field.Goals as goal

pub returns-then-m-lt-TYPE_WORD : goal.returns-then-m-lt-TYPE_WORD
returns-then-m-lt-TYPE_WORD c =
    let m = c.args.m.now in
    rw (reading_short m c.if-m-lt-TYPE_WORD.true, lt-ltb (length m) 4 c.if-m-lt-TYPE_WORD.true, zero-add) (record { result_value = none_shown m c.args.name; place = refl })

pub returns : goal.returns
returns c =
    let a = c.args in
    let m = a.m.now in
    let h : 4 ≤ length m = omega arith in
    let e : whole c.le32-kind.result (take (length m - 4) (drop 4 m)) ≡ m =
    rw c.le32-kind.ensures (whole_again m h (λ i. omega (arith, c.type_inv.m i))) in
    rw (le-ltb (length m) 4 h, add_assoc (field_start a.name m) 4)
    (record { result_value = c.field_after.ensures.result_value ∙ ap (field_part a.name) e; place = rw e at c.field_after.ensures.place })
