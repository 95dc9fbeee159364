-- How far two pictures differ.
use Rattle.std.specs.Prelude.{ℕ, ◌+◌, ◌==◌, if◌then◌else◌, List, [], ◌∷◌}
use Rattle.geom_core.specs.declared.color.Argb.{Argb}

-- at how many places two lists of colours differ
unfoldable pub differing : List Argb → List Argb → ℕ
differing [] others = 0
differing (color ∷ colors) [] = 0
differing (color ∷ colors) (other ∷ others) = (if color.0 == other.0 then 0 else 1) + differing colors others
