use Rattle.text_lines.proofs.Items.{items_none, items_more, items_all}
use Rattle.world_replies.specs.Deliveries.{point_text}
use Rattle.world_replies.proofs.deliveries.put_points.Goals as goal

pub loop-point-init : goal.loop-point-init
loop-point-init g c = items_none point_text _ _

pub loop-point-preserved : goal.loop-point-preserved
loop-point-preserved g c = items_more point_text c.args.points.now c.loop-point.point-index _ c.loop-point-test.true c.loop-point.invariant c.put_point.ensures

pub returns : goal.returns
returns g c = items_all point_text c.args.points.now c.loop-point.point-index c.loop-point-test.false c.loop-point.invariant
