-- `read_after` meets its contract: the length, then the table.
use Rattle.wire_layout.specs.Layout.{most_bytes}
use Rattle.wire_read.proofs.ReadLaws.{reading_after}
use borrow.Author.Tests.{lt-ltb, le-ltb}
use Prim.Native.Nat.{◌+◌}
use lib.ListN.{length}
use native.Mathlib.Omega.{arith}
use Rattle.wire_read.proofs.read_after.Goals as goal

pub returns-then-rest : goal.returns-then-rest
returns-then-rest c =
    let a = c.args in
    rw (reading_after a.kind a.rest.now (omega arith), lt-ltb most_bytes (4 + length a.rest.now) (omega arith))

pub returns : goal.returns
returns c =
    let a = c.args in
    rw (reading_after a.kind a.rest.now (omega arith), le-ltb most_bytes (4 + length a.rest.now) (omega arith))
    c.by_kind.ensures
