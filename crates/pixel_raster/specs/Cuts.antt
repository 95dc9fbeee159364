-- The part of a picture that a rectangle covers, and its area.
use Rattle.std.specs.Prelude.{ℕ, ◌-◌, ◌*◌, ℤ, pos, negsuc, min, Bool, not, ◌&&◌, nat_lt}
use Rattle.pixel_raster.specs.declared.cut.Cut.{Cut}
use Rattle.geom_core.specs.declared.geometry.Rect.{Rect}

-- a number, or 0 if it is negative
unfoldable pub from_zero : ℤ → ℕ
from_zero (pos n) = n
from_zero (negsuc n) = 0

-- an edge brought into 0..limit
unfoldable pub edge_within : ℕ → ℤ → ℕ
edge_within limit edge = min limit (from_zero edge)

-- the columns and rows of a picture of this size that a rectangle covers
unfoldable pub cut_of : ℕ → ℕ → Rect → Cut
cut_of width height rect = record {
  left = edge_within width rect.left;
  top = edge_within height rect.top;
  right = edge_within width rect.right;
  bottom = edge_within height rect.bottom;
}

-- whether a place is from the first edge on and before the second
abbrev pub is_between : ℕ → ℕ → ℕ → Bool
is_between low high place = not (nat_lt place low) && nat_lt place high

abbrev pub has_pixel : Cut → ℕ → ℕ → Bool
has_pixel cut x y = is_between cut.left cut.right x && is_between cut.top cut.bottom y

-- how many pixels a part has
abbrev pub area_of : Cut → ℕ
area_of cut = (cut.right - cut.left) * (cut.bottom - cut.top)

-- how many pixels of a picture of this size a rectangle covers
abbrev pub area_within : ℕ → ℕ → Rect → ℕ
area_within width height rect = area_of (cut_of width height rect)
