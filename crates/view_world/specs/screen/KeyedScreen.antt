-- What contracts see of a screen: its tree of views, the stage of its script, its picture, its density, its resources
-- and its gesture.
use Rattle.std.specs.Prelude.{ℕ, List, [], Option, Some, None, refl}
use Rattle.std.specs.Coded.{Coded, code_by, coded×, coded_ℕ, coded_list}
use Rattle.geom_core.specs.Rects.{empty_rect}
use Rattle.geom_core.specs.contracts.geometry.Rect.{the_row as rect_row}
use Rattle.geom_core.specs.declared.color.Argb.{Argb}
use Rattle.geom_core.specs.declared.geometry.Rect.{Rect}
use Rattle.geom_core.specs.declared.geometry.Size.{Size}
use Rattle.pixel_raster.specs.Raster.{Raster, empty_raster, size_of}
use Rattle.pixel_raster.specs.contracts.surface.Surface.{the_row as surface_row}
use Rattle.saved_state.specs.State.{StateEntry}
use Rattle.saved_state.specs.contracts.states.States.{the_row as states_row}
use Rattle.size_hooks.specs.Entries.{hooks_code}
use Rattle.size_hooks.specs.Hook.{Hook}
use Rattle.touch_dispatch.specs.gesture.Kept.{Kept, gesture_of, kept_code, nothing_kept}
use Rattle.touch_dispatch.specs.contracts.log.Entry.{the_row as entry_row}
use Rattle.touch_dispatch.specs.declared.log.Entry.{Entry}
use Rattle.touch_event.specs.contracts.event.Point.{the_row as point_row}
use Rattle.touch_event.specs.declared.event.Point.{Point}
use Rattle.view_model.specs.Geometry.{Laid}
use Rattle.view_model.specs.Resources.{Entries}
use Rattle.world_parts.specs.World as plain
use Rattle.view_model.specs.Numbers.{normal_dpi}
use Rattle.res_values.specs.contracts.resources.Resources.{the_row as resources_row}
use Rattle.view_tree.specs.Codes.{views_code}
use Rattle.view_tree.specs.Views.{Views, geometry_of, no_views, plain_of}
use Rattle.view_world.specs.contracts.screen.stage.Stage.{the_row as stage_row}
use Rattle.view_world.specs.declared.screen.stage.Stage.{Stage}
use Rattle.view_world.specs.declared.screen.stage.Stage.TheVariants.{NoWindow, NoFrame, Unsettled, Settled}

pub record KeyedScreen : Type 0 where
  pub views : Views
  pub stage : Stage
  -- black if there was no frame yet, and of no size if there is no window
  pub surface : Raster
  -- where the picture may differ from that of the views as they are now
  pub damage : Rect
  pub dpi : ℕ
  pub resources : Entries
  pub gesture : Kept
  pub pointers : List Point
  -- the deliveries of the last line that had any
  pub reported : List Entry
  pub hooks : List Hook
  -- the offsets and texts that were kept last, by the ids of views
  pub kept : List StateEntry
  -- the bytes of these, as they were printed
  pub saved : List ℕ

abbrev pub screen_code : Coded KeyedScreen
screen_code =
    code_by
    ((((Views × (Stage × (Raster × Rect))) × (ℕ × Entries)) × (Kept × (List Point × List Entry)))
    × ((List Hook × List StateEntry) × List ℕ))
    (coded×
    (coded× (coded× (coded× views_code (coded× stage_row.coded (coded× surface_row.coded rect_row.coded)))
    (coded× coded_ℕ resources_row.coded))
    (coded× kept_code (coded× (coded_list point_row.coded) (coded_list entry_row.coded))))
    (coded× (coded× hooks_code states_row.coded) (coded_list coded_ℕ)))
    (λ w. (
      (((w.views, (w.stage, (w.surface, w.damage))), (w.dpi, w.resources)), (w.gesture, (w.pointers, w.reported))),
      ((w.hooks, w.kept), w.saved),
    ))
    (λ p. record {
      views = p.0.0.0.0;
      stage = p.0.0.0.1.0;
      surface = p.0.0.0.1.1.0;
      damage = p.0.0.0.1.1.1;
      dpi = p.0.0.1.0;
      resources = p.0.0.1.1;
      gesture = p.0.1.0;
      pointers = p.0.1.1.0;
      reported = p.0.1.1.1;
      hooks = p.1.0.0;
      kept = p.1.0.1;
      saved = p.1.1;
    })
    (λ _. refl)

-- the size of the window, if there is one
abbrev pub window_in : Stage → Raster → Option Size
window_in NoWindow surface = None
window_in NoFrame surface = Some (size_of surface)
window_in Unsettled surface = Some (size_of surface)
window_in Settled surface = Some (size_of surface)

abbrev pub window_of : KeyedScreen → Option Size
window_of world = window_in world.stage world.surface

abbrev pub stage_of : Stage → plain.Stage
stage_of NoWindow = plain.NoWindow
stage_of NoFrame = plain.NoFrame
stage_of Unsettled = plain.Unsettled
stage_of Settled = plain.Settled

-- the bounds of views count only if the last frame has settled
abbrev pub geometry_in : Stage → Views → List Laid
geometry_in NoWindow views = []
geometry_in NoFrame views = []
geometry_in Unsettled views = []
geometry_in Settled views = geometry_of views

-- and so does the picture
abbrev pub picture_at : Stage → Raster → List Argb
picture_at NoWindow surface = []
picture_at NoFrame surface = []
picture_at Unsettled surface = []
picture_at Settled surface = surface.pixels

-- the plain world of a screen
abbrev pub world_of : KeyedScreen → plain.World
world_of world = record {
  tree = plain_of world.views;
  next = world.views.next;
  dpi = world.dpi;
  resources = world.resources;
  window = window_of world;
  stage = stage_of world.stage;
  geometry = geometry_in world.stage world.views;
  picture = picture_at world.stage world.surface;
  pointers = world.pointers;
  gesture = gesture_of world.gesture;
  hooks = world.hooks;
  kept = world.kept;
}

-- the screen of a script that has not begun
abbrev pub new_screen : KeyedScreen
new_screen = record {
  views = no_views;
  stage = NoWindow;
  surface = empty_raster;
  damage = empty_rect;
  dpi = normal_dpi;
  resources = [];
  gesture = nothing_kept;
  pointers = [];
  reported = [];
  hooks = [];
  kept = [];
  saved = [];
}
