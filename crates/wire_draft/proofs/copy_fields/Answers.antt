-- `copy_fields` meets its contract: each field is put right after the one before it, so all are one put.
use Rattle.std.proofs.Common.{◌≡◌, refl, List, ℕ, Bor, Option, Some, None}
use Rattle.std.specs.Option.{option_and}
use Rattle.wire_draft.specs.Inner.{bytes_in}
use Rattle.wire_draft.proofs.SixLaws.{put_six}
use Rattle.wire_draft.proofs.copy_fields.Goals as goal

-- a field under a test of that same field; so the proof also stands for code that tests the field first
given_twice : (o : Option (Bor (List ℕ))) → option_and o o ≡ o
given_twice None = refl
given_twice (Some s) = refl

pub returns : goal.returns
returns c =
    let x = c.args in
    rw (c.copy_given.ensures.buffer, c.copy_given-name.ensures.buffer, c.copy_given-data.ensures.buffer, c.copy_given-password.ensures.buffer, c.copy_given-connect_data.ensures.buffer, c.copy_given-url.ensures.buffer, c.copy_given-name.ensures.next, c.copy_given-data.ensures.next, c.copy_given-password.ensures.next, c.copy_given-connect_data.ensures.next, c.copy_given-url.ensures.next)
    (cc (put_six x.buf.now x.at (bytes_in x.given.now) c.requires, given_twice x.given.now.data, given_twice x.given.now.password))
