-- The limits of sizes and coordinates, in pixels. Rules compute with unbounded integers; only these two limits cut them
-- off.
use Rattle.std.specs.Prelude.{ℤ, pos, ◌≤ℤ◌}
use Rattle.std.specs.Int.{int_min, int_max}
use Rattle.geom_core.specs.Numbers.{max_coordinate, max_side, min_coordinate}

-- a side of a size
pub record IsSide (side : ℤ) : Type 0 where
  pub low : pos 0 ≤ℤ side
  pub high : side ≤ℤ max_side

-- a left or a top edge
pub record IsCoordinate (edge : ℤ) : Type 0 where
  pub low : min_coordinate ≤ℤ edge
  pub high : edge ≤ℤ max_coordinate

-- a number brought into the range of sizes
abbrev pub clamp_size : ℤ → ℤ
clamp_size x = int_max (pos 0) (int_min x max_side)

-- a number brought into the range of left and top edges
unfoldable pub clamp_coordinate : ℤ → ℤ
clamp_coordinate x = int_max min_coordinate (int_min x max_coordinate)
