-- What a world keeps of its marks between lines.
use Rattle.std.specs.Prelude.{◌≡◌, true}
use Rattle.view_world.specs.world.KeyedWorld.{KeyedWorld}
use Rattle.view_world.specs.frames.Resting.{IsResting, IsShown}
use Rattle.view_world.specs.declared.screen.stage.Stage.TheVariants.{Settled}
use Rattle.view_world.specs.declared.world.World.TheInside.{Inside}

-- what contracts see of a world
abbrev pub keyed : Inside → KeyedWorld
keyed inside = record { screen = inside.screen; marks = inside.marks }

-- if there is a frame to go on from, it has settled; if the next frame is quiet, it finds nothing to lay out, and if it
-- is idle, nothing to paint
pub record IsMarked (inside : Inside) : Type 0 where
  pub based : inside.marks.based ≡ true → inside.screen.stage ≡ Settled
  pub rest : inside.marks.quiet ≡ true → IsResting inside.screen
  pub idle : inside.marks.idle ≡ true → IsShown inside.screen
