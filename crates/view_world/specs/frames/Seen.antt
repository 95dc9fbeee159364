-- Which views a line changes, so that they may be seen otherwise after it, and where they are seen.
use Rattle.std.specs.Prelude.{ℕ, Bool, true, false, ◌||◌, ◌&&◌, not, if◌then◌else◌, List, [], ◌∷◌, ◌++◌, filter, Option}
use Rattle.std.specs.Prelude.{Some, None}
use Rattle.std.specs.Ordering.{int_eq}
use Rattle.geom_core.specs.Rects.{empty_rect, hull_of}
use Rattle.geom_core.specs.declared.color.Argb.{Argb}
use Rattle.geom_core.specs.declared.geometry.Rect.{Rect}
use Rattle.geom_core.specs.declared.geometry.Size.{Size}
use Rattle.pixel_raster.specs.Raster.{black_raster}
use Rattle.script_lines.specs.commands.PlainCommands.{PlainCommand}
use Rattle.script_lines.specs.commands.PlainCommands as command
use Rattle.touch_dispatch.specs.handling.Scrolled.{is_scroll}
use Rattle.touch_dispatch.specs.declared.log.Entry.{Entry}
use Rattle.touch_event.specs.Events.{event_of}
use Rattle.touch_event.specs.declared.event.Action.TheVariants.{Move as Moved, Cancel as Cancelled}
use Rattle.touch_event.specs.declared.event.Event.{Event}
use Rattle.touch_event.specs.declared.event.Point.{Point}
use Rattle.tree_edits.specs.Asking.{requests_layout as act_requests}
use Rattle.tree_edits.specs.declared.edits.Edit.{Edit}
use Rattle.tree_edits.specs.declared.edits.Edit.TheVariants as edit
use Rattle.view_model.specs.declared.changes.Act.{Act}
use Rattle.view_model.specs.Facets.{touched_by}
use Rattle.view_model.specs.Geometry.{rect_in}
use Rattle.view_model.specs.PlainTree.{numbers_of}
use Rattle.view_model.specs.Visible.{visible_rect}
use Rattle.view_tree.specs.Views.{Views, number_of}
use Rattle.view_world.specs.frames.Asked.{listed, restored_numbers}
use Rattle.world_parts.specs.Naming.{named}
use Rattle.world_parts.specs.Pointers.{down_action, up_action, with_point, without_point}
use Rattle.world_parts.specs.Touching.{offsets_in, reached_in}
use Rattle.world_parts.specs.World.{World}

-- whether an act is painted, and layout does not read it: a colour, or whether children are clipped
abbrev pub act_paints : Act → Bool
act_paints act = (touched_by act).shows && not (touched_by act).asks

-- the view of an act that may change the layout or the picture
abbrev pub edited_by_act : Option ℕ → Act → List ℕ
edited_by_act view act = if act_requests act || act_paints act then listed view else []

-- the numbers of the views that a line edits or removes, so that it may show
abbrev pub edited_views : World → PlainCommand → List ℕ
edited_views world (command.Remove view) = listed (named world.tree view)
edited_views world (command.Act view act) = edited_by_act (named world.tree view) act
edited_views world (command.SetText view text) = listed (named world.tree view)
edited_views world (command.Restore text) = restored_numbers world text
edited_views world line = []

-- the same of an edit
abbrev pub numbers_edited : Views → Edit → List ℕ
numbers_edited views (edit.Add parent class width height) = []
numbers_edited views (edit.Remove view) = number_of views view ∷ []
numbers_edited views (edit.Act view act) = edited_by_act (Some (number_of views view)) act
numbers_edited views (edit.Text view text) = number_of views view ∷ []

-- the deliveries of an event
abbrev pub deliveries_of : World → Event → List Entry
deliveries_of world event = (reached_in world event).progress.entries

-- the deliveries of a line that touches views
abbrev pub line_deliveries : World → PlainCommand → List Entry
line_deliveries world (command.Down p x y) =
    let point : Point = record { id = p; x = x; y = y } in
    deliveries_of world (event_of (down_action world.pointers) p (with_point point world.pointers))
line_deliveries world (command.Move p x y) =
    let point : Point = record { id = p; x = x; y = y } in deliveries_of world
    (event_of Moved p (with_point point world.pointers))
line_deliveries world (command.Up p) =
    deliveries_of world (event_of (up_action (without_point p world.pointers)) p world.pointers)
line_deliveries world command.Cancel = deliveries_of world (event_of Cancelled 0 [])
line_deliveries world line = []

-- the numbers of the views that have moved their children
abbrev pub scrolled_in : List Entry → List ℕ
scrolled_in [] = []
scrolled_in (entry ∷ entries) = if is_scroll entry.kind then entry.view ∷ scrolled_in entries else scrolled_in entries

-- the numbers of the views that a line edits, removes or scrolls
abbrev pub changed_views : World → PlainCommand → List ℕ
changed_views world (command.Down p x y) = scrolled_in (line_deliveries world (command.Down p x y))
changed_views world (command.Move p x y) = scrolled_in (line_deliveries world (command.Move p x y))
changed_views world (command.Up p) = scrolled_in (line_deliveries world (command.Up p))
changed_views world command.Cancel = scrolled_in (line_deliveries world command.Cancel)
changed_views world line = edited_views world line

abbrev pub same_rect : Rect → Rect → Bool
same_rect one other =
    int_eq one.left other.left && int_eq one.top other.top && int_eq one.right other.right
    && int_eq one.bottom other.bottom

-- whether two places of a view differ
abbrev pub place_differs : Option Rect → Option Rect → Bool
place_differs None None = false
place_differs None (Some after) = true
place_differs (Some before) None = true
place_differs (Some before) (Some after) = not (same_rect before after)

-- whether the view of this number has other bounds after a line, or another offset
abbrev pub has_moved : World → World → ℕ → Bool
has_moved before after number =
    place_differs (rect_in before.geometry number) (rect_in after.geometry number)
    || not (int_eq (offsets_in before.tree number) (offsets_in after.tree number))

-- the views that do
abbrev pub moved_views : World → World → List ℕ
moved_views before after = filter (has_moved before after) (numbers_of before.tree)

-- where a view is seen in the window, if there is one
abbrev pub seen_through : Option Size → World → ℕ → Rect
seen_through None world number = empty_rect
seen_through (Some window) world number = visible_rect world.tree world.geometry window number

abbrev pub seen : World → ℕ → Rect
seen world number = seen_through world.window world number

-- the picture of a window that nothing was painted in
abbrev pub black_picture : Option Size → List Argb
black_picture None = []
black_picture (Some window) = (black_raster window).pixels

-- the smallest rectangle around what is seen of some views in one world and in another
abbrev pub box_around : World → World → List ℕ → Rect
box_around before after [] = empty_rect
box_around before after (number ∷ numbers) =
    hull_of (hull_of (seen before number) (seen after number)) (box_around before after numbers)

-- the box of a line: around what is seen, before and after it, of the views that it changes
abbrev pub line_box : World → PlainCommand → World → Rect
line_box before line after = box_around before after (changed_views before line ++ moved_views before after)
