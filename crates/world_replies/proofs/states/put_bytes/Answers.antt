use Rattle.text_lines.proofs.Sending.{sends_as}
use Rattle.text_lines.proofs.Items.{items_none, items_more, items_all}
use Rattle.world_replies.proofs.HexLaws.{byte_text, bytes_joined}
use Rattle.world_replies.proofs.states.put_bytes.Goals as goal

pub loop-byte-init : goal.loop-byte-init
loop-byte-init g c = items_none byte_text _ _

pub loop-byte-preserved : goal.loop-byte-preserved
loop-byte-preserved g c =
    items_more byte_text c.args.bytes.now c.loop-byte.byte-index _ c.loop-byte-test.true c.loop-byte.invariant
    (sends_as c.digits_of.ensures c.put.ensures)

pub returns : goal.returns
returns g c = sends_as (bytes_joined c.args.bytes.now) (items_all byte_text c.args.bytes.now c.loop-byte.byte-index c.loop-byte-test.false c.loop-byte.invariant)
