-- What a command does to the plain world.
use Rattle.std.specs.Prelude.{ℕ, ◌+◌, ◌-◌, ◌==◌, ℤ, pos, unsigned_abs, Bool, true, ◌&&◌, not}
use Rattle.std.specs.Prelude.{if◌then◌else◌, List, [], ◌∷◌, length, Option, Some, None, Result, Ok, Err, chars, is_none}
use Rattle.std.specs.List.{list_all}
use Rattle.std.specs.Option.{option_map, option_or, unwrap_or}
use Rattle.geom_core.specs.declared.color.Argb.{Argb}
use Rattle.geom_core.specs.declared.geometry.Size.{Size}
use Rattle.inflater.specs.Inflating.{Plan}
use Rattle.pixel_raster.specs.Bytes.{digest_of}
use Rattle.pixel_raster.specs.Raster.{pixel_at}
use Rattle.saved_state.specs.Restoring.{is_for_other_class, restored}
use Rattle.saved_state.specs.Saving.{saved_of}
use Rattle.saved_state.specs.State.{StateEntry, decoded, encoded}
use Rattle.line_words.specs.words.Escapes.{unescaped}
use Rattle.script_lines.specs.commands.PlainCommands.{PlainCommand}
use Rattle.script_lines.specs.commands.PlainCommands as command
use Rattle.script_lines.specs.declared.commands.Asked.{Asked}
use Rattle.line_words.specs.declared.words.naming.Name.{Name}
use Rattle.size_hooks.specs.Hook.{Hook}
use Rattle.size_hooks.specs.Hooks.{armed, hook_of}
use Rattle.text_lines.specs.Joined.{◌⧺◌}
use Rattle.tool_io.specs.Fetched.{Files}
use Rattle.touch_dispatch.specs.handling.Handling.{is_nil}
use Rattle.touch_event.specs.Events.{event_of}
use Rattle.touch_event.specs.declared.event.Action.TheVariants.{Move as Moved, Cancel as Cancelled}
use Rattle.touch_event.specs.declared.event.Event.{Event}
use Rattle.touch_event.specs.declared.event.Point.{Point}
use Rattle.traversal.specs.Frames.{Framed, after_frame as frame_of}
use Rattle.tree_edits.specs.Editing.{NumberedEdit, Add, Remove, ActOn, SetText, Outcome, hides, outcome_of_edit}
use Rattle.view_model.specs.Facets.{takes_change}
use Rattle.tree_edits.specs.Scene.{EditScene}
use Rattle.view_model.specs.declared.changes.Act.{Act}
use Rattle.view_model.specs.declared.changes.Change.{Change}
use Rattle.view_model.specs.declared.changes.NumEdit.{NumEdit}
use Rattle.view_model.specs.Directed.{directed, rtl_at}
use Rattle.view_model.specs.Forest.{Forest, Nothing, Branch, count_of, rows}
use Rattle.view_model.specs.Geometry.{Laid, rect_in, size_of_rect}
use Rattle.view_model.specs.Cycles.{graft_cycle}
use Rattle.view_model.specs.Grafts.{graft_refusal}
use Rattle.view_model.specs.Classes.{is_group}
use Rattle.view_model.specs.Growth.{grown_at}
use Rattle.view_model.specs.Painting.{picture}
use Rattle.view_model.specs.PlainTree.{PlainView, numbers_of, part_of, view_in}
use Rattle.view_model.specs.Refusals.{AtPlace, PlainRefusal, refusal_numbered}
use Rattle.view_model.specs.Numbers.{bad_state, has_root, hook_edit, late_dpi, max_hooks, no_frame, no_root, no_view}
use Rattle.view_model.specs.Numbers.{no_window, out_of_range, state_class, too_many_hooks, unsettled, wrong_class}
use Rattle.view_model.specs.Numbers.{wrong_pointer}
use Rattle.view_model.specs.Resources.{Resource, definition_refusal_of, with_resource}
use Rattle.view_model.specs.Sprouts.{Seed, numbered}
use Rattle.world_parts.specs.Places.{all_disarmed}
use Rattle.world_parts.specs.Reply.{Reply, Done, Refused, on_view, with_named}
use Rattle.world_parts.specs.Resources.{resource_given}
use Rattle.world_parts.specs.World.{World, Stage, NoWindow, NoFrame, Unsettled, Settled}
use Rattle.world_replies.specs.Bounds.{bounds_of, bounds_text}
use Rattle.world_replies.specs.Responses.{lies_in}
use Rattle.world_replies.specs.Deliveries.{done_text, entries_text}
use Rattle.world_parts.specs.Inflating.{place_in, views_of}
use Rattle.world_parts.specs.Naming.{named}
use Rattle.world_parts.specs.Pointers.{down_action, is_pressed, up_action, with_point, without_point}
use Rattle.world_replies.specs.Replies.{added_text, digest_text, framed_text, inflated_text}
use Rattle.world_replies.specs.Replies.{pixels_text, state_bytes, state_text}
use Rattle.world_parts.specs.Touching.{after_progress, disallowed, leaving, reached_in, without_part}

-- a window opens: nothing is laid out in it yet
abbrev pub with_window : World → Size → World
with_window world size = record world { window = Some size; stage = NoFrame; geometry = []; picture = [] }

abbrev pub scene_in : World → EditScene
scene_in world = record { tree = world.tree; next = world.next; geometry = world.geometry }

abbrev pub with_scene : World → EditScene → World
with_scene world scene = record world { tree = scene.tree; next = scene.next; geometry = scene.geometry }

-- the text for a new view
abbrev pub made_text : Option ℕ → List ℕ
made_text None = []
made_text (Some number) = added_text number

abbrev pub after_outcome : World → Outcome → Reply
after_outcome world (Ok outcome) = Done (with_scene world outcome.0) (made_text outcome.1)
after_outcome world (Err refusal) = Refused refusal

abbrev pub after_edit : World → NumberedEdit → Reply
after_edit world edit = after_outcome world (outcome_of_edit (scene_in world) edit)

-- a root is made if there is none
abbrev pub root_added : World → Forest PlainView → NumberedEdit → Reply
root_added world Nothing edit = after_edit world edit
root_added world (Branch root below after) edit = Refused (refusal_numbered has_root)

-- the picture of a window in which the views of a tree have these bounds
abbrev pub picture_in : Size → List Laid → Forest PlainView → List Argb
picture_in window geometry tree = picture (unsigned_abs window.w) (unsigned_abs window.h) geometry tree

-- the picture of a frame: if it has settled, the whole present tree is painted
abbrev pub picture_after : Size → Framed → List Argb
picture_after window frame = if frame.settled then picture_in window frame.geometry frame.tree else []

abbrev pub stage_after : Bool → Stage
stage_after settled = if settled then Settled else Unsettled

-- the world after a frame, which lays the whole present tree out anew
abbrev pub with_frame : World → Size → Framed → World
with_frame world window frame = record world {
  tree = frame.tree;
  hooks = frame.hooks;
  geometry = frame.geometry;
  stage = stage_after frame.settled;
  picture = picture_after window frame;
}

abbrev pub after_frame : World → Size → World
after_frame world window = with_frame world window (frame_of world.tree world.hooks window)

-- whether a frame has settled, and how many hooks fired in it
abbrev pub frame_text : Framed → List ℕ
frame_text frame = framed_text frame.settled frame.fired

abbrev pub framed : World → Option Size → Forest PlainView → Reply
framed world None tree = Refused (refusal_numbered no_window)
framed world (Some window) Nothing = Refused (refusal_numbered no_root)
framed world (Some window) (Branch root below after) =
    Done (after_frame world window) (frame_text (frame_of world.tree world.hooks window))

-- the bounds of a view that was found
abbrev pub bounds_in : World → Option PlainView → Reply
bounds_in world None = Done world []
bounds_in world (Some view) = Done world (bounds_of world.geometry view)

-- the bounds of all views, or of the one that is named
abbrev pub bounds_reported : World → Option Name → Reply
bounds_reported world None = Done world (bounds_text world.geometry world.tree)
bounds_reported world (Some name) =
    with_named (named world.tree name) (λ number. bounds_in world (view_in world.tree number))

-- what is done with the picture of the last frame, if that has settled; it is that of its window, with a tree or
-- without
abbrev pub picture_asked : Option Size → Stage → (Size → Reply) → Reply
picture_asked None stage next = Refused (refusal_numbered no_window)
picture_asked (Some window) NoWindow next = Refused (refusal_numbered no_frame)
picture_asked (Some window) NoFrame next = Refused (refusal_numbered no_frame)
picture_asked (Some window) Unsettled next = Refused (refusal_numbered unsettled)
picture_asked (Some window) Settled next = next window

-- the colour of a point of a part, of which this is the corner
abbrev pub color_in : Size → List Argb → ℤ → ℤ → ℕ → ℕ → Argb
color_in window picture x y column row =
    pixel_at (unsigned_abs window.w) picture (unsigned_abs x + column) (unsigned_abs y + row)

-- the colours of a part of the picture
abbrev pub pixels_reported : World → ℤ → ℤ → ℤ → ℤ → Size → Reply
pixels_reported world x y w h window =
    if lies_in window x y w h
    then Done world (pixels_text (color_in window world.picture x y) (unsigned_abs w) (unsigned_abs h))
    else Refused (refusal_numbered out_of_range)

-- the density of the screen, before there is a root
abbrev pub dpi_reported : World → ℕ → Forest PlainView → Reply
dpi_reported world dpi Nothing = Done (record world { dpi = dpi }) []
dpi_reported world dpi (Branch root below after) = Refused (refusal_numbered late_dpi)

-- a resource is defined, unless there is a reason against it
abbrev pub defined : World → ℕ → Resource → Option PlainRefusal → Reply
defined world id resource (Some refusal) = Refused refusal
defined world id resource None = Done (record world { resources = with_resource world.resources id resource }) []

-- what is done with the result of a line
abbrev pub reply_with : {A : Type 0} → Result A PlainRefusal → (A → Reply) → Reply
reply_with (Ok value) next = next value
reply_with (Err refusal) next = Refused refusal

-- why a tree does not take the views of a file, the first of which would get the number `next`: it has no place for
-- that many or that deep, or some would tie themselves to one another in a circle
abbrev pub graft_reason : Forest PlainView → Option ℕ → ℕ → Forest Seed → Option PlainRefusal
graft_reason tree place next seeds = option_or (graft_refusal tree place seeds) (graft_cycle tree place next seeds)

-- the views of a file are added under the next numbers, unless there is a reason against it; they have no bounds
abbrev pub grafted : World → Option ℕ → Plan → Option PlainRefusal → Reply
grafted world place plan (Some refusal) = Refused refusal
grafted world place plan None =
    let count = count_of plan.seeds in
    let views = directed (rtl_at place world.tree) (numbered world.next plan.seeds) in
    Done (record world { tree = grown_at place views world.tree; next = world.next + count })
    (inflated_text world.next (world.next + count - 1) plan.ignored)

-- the views of a file go where the line says
abbrev pub inflation : Files → World → List ℕ → Option Name → Reply
inflation files world name into =
    reply_with (place_in world.tree into) λ place.
    reply_with (views_of files name world.resources world.dpi) λ plan.
    grafted world place plan (graft_reason world.tree place world.next plan.seeds)

-- what is done with a touch, or with a question for bounds, if the last frame has settled and its tree is there
abbrev pub touch_asked : Option Size → Forest PlainView → Stage → Reply → Reply
touch_asked None tree stage next = Refused (refusal_numbered no_window)
touch_asked (Some window) Nothing stage next = Refused (refusal_numbered no_root)
touch_asked (Some window) (Branch root below after) NoWindow next = Refused (refusal_numbered no_frame)
touch_asked (Some window) (Branch root below after) NoFrame next = Refused (refusal_numbered no_frame)
touch_asked (Some window) (Branch root below after) Unsettled next = Refused (refusal_numbered unsettled)
touch_asked (Some window) (Branch root below after) Settled next = next

abbrev pub touched : World → Reply → Reply
touched world next = touch_asked world.window world.tree world.stage next

-- an event goes through the tree, and these pointers are down then
abbrev pub after_event : World → Event → List Point → Reply
after_event world event pointers =
    let reached = reached_in world event in
    Done (record (after_progress world reached.progress) { pointers = pointers })
    (entries_text reached.progress.entries ⧺ done_text reached.yes)

-- a pointer that is not down yet goes down
abbrev pub put_down : World → Point → Reply
put_down world point =
    let pointers = with_point point world.pointers in
    if is_pressed point.id world.pointers
    then Refused (refusal_numbered wrong_pointer)
    else after_event world (event_of (down_action world.pointers) point.id pointers) pointers

-- a pointer that is down moves
abbrev pub moved : World → Point → Reply
moved world point =
    let pointers = with_point point world.pointers in
    if is_pressed point.id world.pointers
    then after_event world (event_of Moved point.id pointers) pointers
    else Refused (refusal_numbered wrong_pointer)

-- a pointer that is down goes up: the event still has it
abbrev pub lifted : World → ℕ → Reply
lifted world id =
    let others = without_point id world.pointers in
    if is_pressed id world.pointers
    then after_event world (event_of (up_action others) id world.pointers) others
    else Refused (refusal_numbered wrong_pointer)

-- all pointers that are down are taken away
abbrev pub taken_away : World → Reply
taken_away world =
    if is_nil world.pointers
    then Refused (refusal_numbered wrong_pointer)
    else after_event world (event_of Cancelled 0 []) []

-- a reply after another text
abbrev pub reported_before : List ℕ → Reply → Reply
reported_before text (Done world more) = Done world (text ⧺ more)
reported_before text (Refused refusal) = Refused refusal

-- the hook of the view of this number is not armed, nor is one below it
abbrev pub without_hooks : ℕ → World → World
without_hooks number world = record world { hooks = all_disarmed (numbers_of (part_of number world.tree)) world.hooks }

-- a view gets a cancel since it goes away, and then it is removed, with all below it and all that is kept of them
abbrev pub removed : World → ℕ → Reply
removed world number =
    let progress = leaving world number in
    reported_before (entries_text progress.entries)
    (after_edit (without_hooks number (without_part number (after_progress world progress))) (Remove number))

-- a view that is hidden by an act gets a cancel first
abbrev pub acted : World → ℕ → Act → Reply
acted world number act =
    let progress = leaving world number in
    if hides act
    then reported_before (entries_text progress.entries) (after_edit (after_progress world progress) (ActOn number act))
    else after_edit world (ActOn number act)

-- only a group takes events away from its children
abbrev pub disallow_reported : World → ℕ → Bool → Option PlainView → Reply
disallow_reported world number on None = Done world []
disallow_reported world number on (Some view) =
    if is_group view.class
    then Done (disallowed world number on) []
    else Refused (refusal_numbered wrong_class)

-- a change of a view before other edits, if all their views are there
abbrev pub before_edits : Change → Option ℕ → Option (List NumEdit) → Option (List NumEdit)
before_edits change None edits = None
before_edits change (Some number) edits =
    option_map (λ (edits : List NumEdit). record { view = number; change = change } ∷ edits) edits

-- the edits of a hook, with the numbers of their views in place of names; or a view is not there
abbrev pub numbered_edits : Forest PlainView → List Asked → Option (List NumEdit)
numbered_edits tree [] = Some []
numbered_edits tree (asked ∷ more) = before_edits asked.change (named tree asked.view) (numbered_edits tree more)

-- whether a view may have this change
abbrev pub may_change : Option PlainView → Change → Bool
may_change None change = true
may_change (Some view) change = takes_change view.class change

-- the size of the view of this number, or nothing if it has no bounds
abbrev pub size_in : List Laid → ℕ → Size
size_in geometry number =
    unwrap_or (option_map size_of_rect (rect_in geometry number)) (record { w = pos 0; h = pos 0 })

-- whether as many hooks are armed as may be, and none of them is this view's
abbrev pub is_full : List Hook → ℕ → Bool
is_full hooks number = (length hooks == max_hooks) && is_none (hook_of hooks number)

-- a hook of the view of this number is armed, in place of one that it has
abbrev pub hooked : World → ℕ → List NumEdit → Reply
hooked world number edits =
    if is_full world.hooks number
    then Refused (refusal_numbered too_many_hooks)
    else Done
    (record world {
      hooks = armed
          (record { view = number; reported = size_in world.geometry number; edits = edits }) world.hooks;
    })
    []

-- the same if all edits may be made, and no hook is asked for more
abbrev pub hook_asked : World → ℕ → Bool → Option (List NumEdit) → Reply
hook_asked world number bad None = Refused (refusal_numbered no_view)
hook_asked world number bad (Some edits) =
    if not (list_all (λ (edit : NumEdit). may_change (view_in world.tree edit.view) edit.change) edits)
    then Refused (refusal_numbered wrong_class)
    else (if bad then Refused (refusal_numbered hook_edit) else hooked world number edits)

-- the offsets and texts of the present tree are kept, and printed
abbrev pub saved : World → Forest PlainView → Reply
saved world Nothing = Refused (refusal_numbered no_root)
saved world (Branch root below after) =
    Done (record world { kept = saved_of world.tree }) (state_text (encoded (saved_of world.tree)))

-- the offsets and texts of a state are set
abbrev pub with_values : World → List StateEntry → Reply
with_values world entries =
    if is_for_other_class entries (rows world.tree)
    then Refused (refusal_numbered state_class)
    else Done (record world { tree = restored entries world.tree }) []

-- the state of these bytes, or its first wrong place
abbrev pub with_state : World → Result (List StateEntry) ℕ → Reply
with_state world (Ok entries) = with_values world entries
with_state world (Err place) = Refused (record { number = bad_state; reason = AtPlace place })

-- the saved state, or the one of a text, is restored
abbrev pub taken_up : World → Forest PlainView → Option (List ℕ) → Reply
taken_up world Nothing text = Refused (refusal_numbered no_root)
taken_up world (Branch root below after) None = with_values world world.kept
taken_up world (Branch root below after) (Some text) = with_state world (decoded (state_bytes text))

-- what a command does with these files at hand
abbrev pub step : Files → World → PlainCommand → Reply
step files world (command.Window w h) = Done (with_window world (record { w = w; h = h })) []
step files world (command.Dpi dpi) = dpi_reported world dpi world.tree
step files world (command.Res id value) =
    defined world id (resource_given value) (definition_refusal_of world.resources id)
step files world (command.Inflate name into) = inflation files world name into
step files world (command.Add None class width height) = root_added world world.tree (Add None class width height)
step files world (command.Add (Some parent) class width height) =
    on_view world.tree parent (λ number. after_edit world (Add (Some number) class width height))
step files world (command.Remove view) = on_view world.tree view (λ number. removed world number)
step files world (command.Act view act) = on_view world.tree view (λ number. acted world number act)
step files world (command.SetText view text) =
    on_view world.tree view (λ number. after_edit world (SetText number (unescaped (chars text))))
step files world (command.Disallow view on) =
    on_view world.tree view (λ number. disallow_reported world number on (view_in world.tree number))
step files world (command.Down p x y) = touched world (put_down world (record { id = p; x = x; y = y }))
step files world (command.Move p x y) = touched world (moved world (record { id = p; x = x; y = y }))
step files world (command.Up p) = touched world (lifted world p)
step files world command.Cancel = touched world (taken_away world)
step files world (command.Hook view edits bad) =
    on_view world.tree view (λ number. hook_asked world number bad (numbered_edits world.tree edits))
step files world command.Save = saved world world.tree
step files world (command.Restore text) = taken_up world world.tree text
step files world command.Frame = framed world world.window world.tree
step files world (command.Bounds view) = touched world (bounds_reported world view)
step files world (command.Pixels x y w h) = picture_asked world.window world.stage (pixels_reported world x y w h)
step files world command.Digest =
    picture_asked world.window world.stage (λ window. Done world (digest_text (digest_of world.picture)))
