-- `put_guid` meets its contract: the bytes picked one by one are the groups of its text.
use Rattle.show_parts.proofs.GuidLaws.{guid_put}
use Rattle.show_parts.proofs.put_guid.Goals as goal

pub returns : goal.returns
returns c = let e = guid_put c.args.page.now c.bytes-b.result c.args.guid c.bytes-b.ensures in cc
