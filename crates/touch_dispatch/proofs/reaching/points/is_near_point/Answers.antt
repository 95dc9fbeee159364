use Rattle.std.proofs.Common.{arith}
use Rattle.std.proofs.lemmas.Int.{to_z-of_z}
use Rattle.touch_dispatch.specs.reaching.Points.{is_near_point}
use Rattle.touch_dispatch.proofs.reaching.points.is_near_point.Goals as goal

pub returns : goal.returns
unfolding is_near_point
returns c = grind (arith, to_z-of_z)
