-- `Guid::bytes` meets its contract: four words put into 16 places fill them.
use Rattle.byte_words.specs.Bytes.{put}
use Rattle.wire_connect.proofs.Guid.bytes.Goals as goal

pub returns : goal.returns
unfolding put
returns c = c.put_le_words.ensures
