-- The plain world of a script: what the lines so far have made, with no flag, no cache and nothing left to do.
use Rattle.std.specs.Prelude.{ℕ, List, [], Option, None}
use Rattle.saved_state.specs.State.{StateEntry}
use Rattle.size_hooks.specs.Hook.{Hook}
use Rattle.geom_core.specs.declared.color.Argb.{Argb}
use Rattle.geom_core.specs.declared.geometry.Size.{Size}
use Rattle.view_model.specs.Forest.{Forest, Nothing}
use Rattle.view_model.specs.Geometry.{Laid}
use Rattle.view_model.specs.PlainTree.{PlainView}
use Rattle.view_model.specs.Resources.{Entries}
use Rattle.view_model.specs.Numbers.{normal_dpi}
use Rattle.touch_dispatch.specs.gesture.Gestures.{PlainGesture, no_gesture}
use Rattle.touch_event.specs.declared.event.Point.{Point}

-- the stage of a script
pub data Stage : Type 0 where
  NoWindow : Stage
  NoFrame : Stage
  -- a hook fired in the last pass of the last frame
  Unsettled : Stage
  Settled : Stage

pub record World : Type 0 where
  -- nothing, or the root with all below it
  pub tree : Forest PlainView
  -- the number of the view that is made next
  pub next : ℕ
  -- how many dots the screen has per inch
  pub dpi : ℕ
  pub resources : Entries
  pub window : Option Size
  pub stage : Stage
  -- the layout of the last frame, if that settled and no window came since; otherwise empty
  pub geometry : List Laid
  -- the picture of that frame: the colour of each point of the window, row by row from the top; otherwise empty
  pub picture : List Argb
  -- the pointers that are down, by rising ids, each where its last line has put it
  pub pointers : List Point
  pub gesture : PlainGesture
  -- the armed hooks, at most one of a view
  pub hooks : List Hook
  -- the offsets and texts that were kept last, by the ids of views, which rise
  pub kept : List StateEntry

abbrev pub empty_world : World
empty_world = record {
  tree = Nothing;
  next = 1;
  dpi = normal_dpi;
  resources = [];
  window = None;
  stage = NoWindow;
  geometry = [];
  picture = [];
  pointers = [];
  gesture = no_gesture;
  hooks = [];
  kept = [];
}
