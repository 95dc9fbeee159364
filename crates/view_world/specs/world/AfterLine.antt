-- What stays if a line is not carried out, and what a line has left by the time at which its text is written.
use Rattle.std.specs.Prelude.{◌≡◌, Result}
use Rattle.geom_core.specs.declared.geometry.Rect.{Rect}
use Rattle.tool_io.specs.SinkState.{SinkState}
use Rattle.world_parts.specs.declared.fault.StepFault.{StepFault}
use Rattle.world_replies.specs.declared.response.Response.{Response}
use Rattle.view_world.specs.world.Carried.{WritesReply}
use Rattle.view_world.specs.screen.KeyedScreen.{KeyedScreen, world_of}
use Rattle.view_world.specs.world.KeyedWorld.{KeyedWorld}
use Rattle.world_replies.specs.Responses.{IsReportable, response_text}
use Rattle.world_parts.specs.Reply.{Done}
use Rattle.view_world.specs.frames.Watched.{HasBox, IsWatched, watched_in}

-- Each part of a world is as it was. The tree is with all that layout has left with its views; `shown` is the picture,
-- and a box around what lines have changed is one still.
pub record IsAsBefore (old new : KeyedWorld) : Type 0 where
  pub tree : new.screen.views ≡ old.screen.views
  pub next : new.screen.views.next ≡ old.screen.views.next
  pub stage : new.screen.stage ≡ old.screen.stage
  pub shown : new.screen.surface ≡ old.screen.surface
  pub damage : new.screen.damage ≡ old.screen.damage
  pub dpi : new.screen.dpi ≡ old.screen.dpi
  pub resources : new.screen.resources ≡ old.screen.resources
  pub gesture : new.screen.gesture ≡ old.screen.gesture
  pub pointers : new.screen.pointers ≡ old.screen.pointers
  pub deliveries : new.screen.reported ≡ old.screen.reported
  pub hooks : new.screen.hooks ≡ old.screen.hooks
  pub kept : new.screen.kept ≡ old.screen.kept
  pub saved : new.screen.saved ≡ old.screen.saved
  pub marks : new.marks ≡ old.marks
  pub box : (box : Rect) → HasBox old box → IsWatched new (watched_in old box)

-- What a line has written is the text of a response about the screen that it leaves, or a front part of that text if a
-- call on the sink has failed. So nothing changes any more once the first byte is written, whether all are or not.
pub record Reports (screen : KeyedScreen) (before after : SinkState) (result : Result (Unit {0}) StepFault) : Type 0
  where
    pub response : Response
    pub there : IsReportable screen.views screen.surface screen.reported screen.saved response
    pub written : WritesReply
        (Done (world_of screen) (response_text screen.views screen.surface screen.reported screen.saved response))
        (world_of screen) before after result
