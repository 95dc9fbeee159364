-- A part of a stack that is composed.
use Rattle.std.specs.Prelude.{◌≡◌, ℕ, ◌+◌, ℤ, pos, unsigned_abs, ◌≤ℤ◌}
use Rattle.geom_core.specs.declared.color.Argb.{Argb}
use Rattle.script_lines.specs.Numbers.{max_point, max_window}
use Rattle.stack_worlds.specs.KeptStack.{stack_of}
use Rattle.stack_worlds.specs.PlainStack.{composed, settled_sizes}
use Rattle.stack_worlds.specs.declared.stack.composing.Composed.{Composed}
use Rattle.stack_worlds.specs.declared.stack.composing.Part.{Part}

-- the part of which a line asks
abbrev pub part_of : ℤ → ℤ → ℤ → ℤ → Part
part_of x y w h =
    record { left = unsigned_abs x; top = unsigned_abs y; width = unsigned_abs w; height = unsigned_abs h }

-- the colour of a point, counted from the corner of the part
abbrev pub composed_in : Composed → ℕ → ℕ → Argb
composed_in c column row = composed (stack_of c.stack.now) (pos (c.part.left + column)) (pos (c.part.top + row))

-- the sizes are those of the windows that are seen, and the part is one of which a line may ask
pub record IsComposed (c : Composed) : Type 0 where
  pub sizes : c.sizes ≡ settled_sizes (stack_of c.stack.now)
  pub left : pos c.part.left ≤ℤ max_point
  pub top : pos c.part.top ≤ℤ max_point
  pub width : pos c.part.width ≤ℤ max_window
  pub height : pos c.part.height ≤ℤ max_window
