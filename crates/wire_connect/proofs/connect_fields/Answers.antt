-- `connect_fields` meets its contract: every field is what its call promises, of the characters that the checks answered.
use mathlib.Core.Path.{ap, ◌∙◌}
use lib.Dec.{ltb}
use Rattle.wire_field.specs.Words.{whole, word}
use Rattle.wire_field.specs.Fields.{count_of}
use Rattle.wire_field.specs.declared.Fields.{Fields}
use Rattle.wire_layout.specs.Layout.{second, extended_from, connect_absence}
use Rattle.wire_layout.proofs.PairLaws.{field_again, free_again}
use Rattle.wire_connect.specs.Connect.{connect_by}
use Rattle.wire_connect.proofs.ConnectLaws.{five_fields}
use Rattle.wire_connect.proofs.connect_fields.Goals as goal

pub returns : goal.returns
unfolding connect_by
returns c =
    λ kind counted.
    let m = whole kind c.args.rest.now in
    let five = five_fields (ltb (word m second) extended_from) m in
    rw (
      five,
      ← c.alternate_address.ensures kind,
      c.field_at.ensures kind,
      c.field_at-2.ensures kind,
      c.field_at-3.ensures kind,
      c.field_at-4.ensures kind,
      c.field_at-5.ensures kind,
      field_again _ _ _ _ (counted.name ∙ ap (λ (fs : Fields). count_of fs.name) five),
      field_again _ _ _ _ (counted.password ∙ ap (λ (fs : Fields). count_of fs.password) five),
      field_again _ _ _ _ (counted.url ∙ ap (λ (fs : Fields). count_of fs.url) five),
      free_again connect_absence m 20,
      free_again connect_absence m 36,
    )
