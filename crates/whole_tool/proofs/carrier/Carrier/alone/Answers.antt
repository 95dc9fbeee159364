use Rattle.std.proofs.Common.{ap}
use Rattle.whole_tool.specs.Carried.{Alone}
use Rattle.whole_tool.proofs.carrier.Carrier.alone.Goals as goal
use Rattle.view_world.specs.world.KeyedWorld.{KeyedWorld, world_of}

pub returns-clause-start : goal.returns-clause-start
returns-clause-start c = ap (λ (w : KeyedWorld). Alone (world_of w)) c.new.ensures
