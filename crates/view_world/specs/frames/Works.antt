-- What a command counts on a screen, and what it leaves there.
use Rattle.std.specs.Prelude.{◌≡◌, ◌≢◌, ◌⊎◌, Result}
use Rattle.script_lines.specs.commands.PlainCommands.{PlainCommand, Frame}
use Rattle.view_model.specs.declared.work.Work.{Work}
use Rattle.world_parts.specs.declared.fault.StepFault.{StepFault}
use Rattle.view_world.specs.frames.Counting.{RisesWithin, paint_bound}
use Rattle.view_world.specs.frames.Resting.{IsFrameDone, IsShown, KeepsLine}
use Rattle.view_world.specs.screen.KeyedScreen.{KeyedScreen, world_of}
use Rattle.view_world.specs.world.Carried.{IsDone}

-- Only a frame that is carried out counts anything, and it counts nothing where the picture is that of the tree.
-- A frame is counted by what it lays out and paints; any other line keeps what it has no reason to change.
pub record WorksOn (before after : KeyedScreen) (said : PlainCommand) (result : Result (Unit {0}) StepFault)
    (old new : Work) : Type 0 where
  pub work : said ≢ Frame → new ≡ old
  pub idle : IsDone result ⊎ (new ≡ old)
  pub still : said ≡ Frame → IsShown before → new ≡ old
  pub framed : said ≡ Frame → IsDone result → IsFrameDone before after old new
  pub keeps : said ≢ Frame → IsDone result → KeepsLine said before after
  pub painted : RisesWithin (paint_bound (world_of before)) old.painted new.painted
