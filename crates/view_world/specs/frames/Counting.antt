-- How many views a frame measures, and how many pixels it paints at most.
use Rattle.std.specs.Prelude.{◌≡◌, ℕ, List, ◌+◌, ◌-◌, ◌*◌, ◌^◌, ◌<◌, ◌≤◌, unsigned_abs, Option, Some, None}
use Rattle.geom_core.specs.declared.geometry.Size.{Size}
use Rattle.size_hooks.specs.Hook.{Hook}
use Rattle.traversal.specs.Frames.{frame_calls as calls_of_frame}
use Rattle.view_model.specs.Forest.{Forest, count_of}
use Rattle.view_model.specs.PlainTree.{PlainView}
use Rattle.world_parts.specs.World.{World}

-- those that a frame of a tree and its hooks takes in the window, if there is one
abbrev pub calls_in : Option Size → Forest PlainView → List Hook → ℕ
calls_in None tree hooks = 0
calls_in (Some window) tree hooks = calls_of_frame tree hooks window

-- those that a frame of this world measures
abbrev pub frame_calls : World → ℕ
frame_calls world = calls_in world.window world.tree world.hooks

-- how many pixels a window has
abbrev pub area_of : Option Size → ℕ
area_of None = 0
area_of (Some window) = unsigned_abs window.w * unsigned_abs window.h

-- how many pixels a frame of this world paints at most: the window once, and twice for each view
unfoldable pub paint_bound : World → ℕ
paint_bound world = (2 * count_of world.tree + 1) * area_of world.window

-- a count rises by at most n, and does not fall
pub record RisesWithin (bound old new : ℕ) : Type 0 where
  pub grew : old ≤ new
  pub most : new ≤ old + bound

-- a picture counts as many filled pixels as were painted, unless one of the counts is at the greatest number
abbrev pub FillsAlike : ℕ → ℕ → ℕ → ℕ → Type 0
FillsAlike filled full before after = after < 2 ^ 64 - 1 → full < 2 ^ 64 - 1 → after + filled ≡ before + full
