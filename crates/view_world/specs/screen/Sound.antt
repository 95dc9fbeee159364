-- What a screen keeps between lines.
use Rattle.std.specs.Prelude.{◌≡◌, ◌≤◌, ◌*◌, None}
use Rattle.touch_dispatch.specs.reaching.TreeEvents.{IsGestureIn, room_of}
use Rattle.view_model.specs.Forest.{Nothing, count_of}
use Rattle.kept_views.specs.Kept.{IsConsistent}
use Rattle.saved_state.specs.Saving.{OffsetsFit}
use Rattle.seen_edits.specs.Shown.{Shows}
use Rattle.traversal.specs.Changing.{FitAll}
use Rattle.view_tree.specs.Views.{geometry_of, plain_of}
use Rattle.world_parts.specs.Places.{HasNoneElse, hooks_in}
use Rattle.view_world.specs.screen.KeyedScreen.{KeyedScreen}
use Rattle.world_parts.specs.Pointers.{AreDown}
use Rattle.view_world.specs.declared.screen.Screen.TheInside.{Inside}

-- what contracts see of a screen
abbrev pub keyed : Inside → KeyedScreen
keyed inside = record {
  views = inside.tree;
  stage = inside.stage;
  surface = inside.surface;
  damage = inside.damage.rect;
  dpi = inside.dpi;
  resources = inside.resources;
  gesture = inside.gesture;
  pointers = inside.pointers.items;
  reported = inside.log.entries.items;
  hooks = hooks_in inside.hooks;
  kept = inside.states;
  saved = inside.saved.items;
}

pub record IsSound (inside : Inside) : Type 0 where
  pub consistent : IsConsistent inside.tree
  -- each view has a place in the gesture, and no other number has one
  pub caught : IsGestureIn inside.tree.tree inside.gesture
  pub closed : HasNoneElse inside.tree.tree inside.gesture
  -- there is room for all that is recorded of an event
  pub room : 3 * count_of inside.tree.tree ≤ room_of inside.log
  -- there is no view without a table of hooks
  pub armable : inside.hooks ≡ None → inside.tree.tree ≡ Nothing
  pub down : AreDown inside.pointers.items
  -- each view has a size that can be printed, and each scroll view an offset that can be saved
  pub narrow : FitAll (geometry_of inside.tree)
  pub offsets : OffsetsFit (plain_of inside.tree)
  -- the picture shows the views as they are now, except for the damage
  pub shows : Shows inside.surface inside.damage.rect inside.tree
