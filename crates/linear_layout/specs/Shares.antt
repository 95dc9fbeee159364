-- What one child takes of a line at most.
use Rattle.std.specs.Prelude.{ℤ, pos, ◌^◌, ◌≤ℤ◌}

-- no more than the side of a view with both margins
abbrev pub IsShareOfOne : ℤ → Type 0
IsShareOfOne share = share ≤ℤ pos (2 ^ 33)
