-- How a command has changed the world, before its text is written.
use Rattle.std.specs.Prelude.{◌≡◌, ℕ, Option, Some, None, Result, Ok, Err}
use Rattle.geom_core.specs.declared.geometry.Size.{Size}
use Rattle.pixel_raster.specs.Raster.{size_of}
use Rattle.tree_edits.specs.declared.edits.Edit.{Edit}
use Rattle.tree_edits.specs.declared.edits.Edit.TheVariants as edit
use Rattle.view_model.specs.Refusals.{plain_refusal}
use Rattle.world_parts.specs.declared.fault.StepFault.{StepFault}
use Rattle.world_parts.specs.declared.fault.StepFault.TheVariants as fault
use Rattle.world_replies.specs.declared.response.Response.{Response}
use Rattle.world_replies.specs.Responses.{IsReportable, response_text}
use Rattle.world_parts.specs.Reply.{Reply, Done, Refused}
use Rattle.view_world.specs.world.Step.{picture_asked, touched}
use Rattle.view_world.specs.screen.KeyedScreen.{KeyedScreen, stage_of, window_of, world_of}
use Rattle.view_world.specs.declared.screen.stage.Stage.TheVariants.{Settled}
use Rattle.view_model.specs.declared.fault.Fault.{Fault}
use Rattle.world_parts.specs.Faults.{step_fault_of}
use Rattle.world_replies.specs.declared.response.Response.TheVariants as response

-- Done: the world is the reply's, and the response has its text. Refused: as the reply says. If there was no memory,
-- nothing is stated of the reply. No call on a sink or a shelf is made.
abbrev pub CarriesOut : Reply → KeyedScreen → Result Response StepFault → Type 0
CarriesOut reply new (Ok response) =
    (reply ≡ Done (world_of new) (response_text new.views new.surface new.reported new.saved response))
    × IsReportable new.views new.surface new.reported new.saved response
CarriesOut reply new (Err (fault.Refused refusal)) = reply ≡ Refused (plain_refusal refusal)
CarriesOut reply new (Err fault.NoMemory) = Unit {0}
CarriesOut reply new (Err fault.Sink) = ⊥
CarriesOut reply new (Err fault.Shelf) = ⊥

-- the same of a command that asks a shelf; if the shelf has failed, nothing is stated of the reply
abbrev pub Inflates : Reply → KeyedScreen → Result Response StepFault → Type 0
Inflates reply new (Ok response) = CarriesOut reply new (Ok response)
Inflates reply new (Err (fault.Refused refusal)) = CarriesOut reply new (Err (fault.Refused refusal))
Inflates reply new (Err fault.NoMemory) = Unit {0}
Inflates reply new (Err fault.Sink) = ⊥
Inflates reply new (Err fault.Shelf) = Unit {0}

-- The size of the window whose picture a line asks for, and whose last frame has settled; or why there is no picture.
abbrev pub Pictured : KeyedScreen → Result Size StepFault → Type 0
Pictured world (Ok window) = (world.stage ≡ Settled) × (window ≡ size_of world.surface)
Pictured world (Err (fault.Refused refusal)) =
    (next : Size → Reply)
    → picture_asked (window_of world) (stage_of world.stage) next ≡ Refused (plain_refusal refusal)
Pictured world (Err fault.NoMemory) = ⊥
Pictured world (Err fault.Sink) = ⊥
Pictured world (Err fault.Shelf) = ⊥

-- Views can be touched, and have bounds, since the last frame has settled: whatever is done with a touch, or with a
-- question for bounds, is the reply. Otherwise the reply is the reason why they cannot.
abbrev pub IsTouchable : KeyedScreen → Result (Unit {0}) StepFault → Type 0
IsTouchable world (Ok _) = (world.stage ≡ Settled) × ((next : Reply) → touched (world_of world) next ≡ next)
IsTouchable world (Err (fault.Refused refusal)) =
    (next : Reply) → touched (world_of world) next ≡ Refused (plain_refusal refusal)
IsTouchable world (Err fault.NoMemory) = ⊥
IsTouchable world (Err fault.Sink) = ⊥
IsTouchable world (Err fault.Shelf) = ⊥

-- an edit that adds and removes no view
abbrev pub LeavesViews : Edit → Type 0
LeavesViews (edit.Add parent class width height) = ⊥
LeavesViews (edit.Remove view) = ⊥
LeavesViews (edit.Act view act) = Unit {0}
LeavesViews (edit.Text view text) = Unit {0}

abbrev pub made : Option ℕ → Response
made None = response.Nothing
made (Some number) = response.Made number

-- what a line responds whose edit was made, or was not
abbrev pub response_of : Result (Option ℕ) Fault → Result Response StepFault
response_of (Ok number) = Ok (made number)
response_of (Err fault) = Err (step_fault_of fault)
