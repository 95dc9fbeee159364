-- How much of a rectangle in window coordinates lies in a clip and in a picture.
use Rattle.std.specs.Prelude.{ℕ, ◌-◌, ◌*◌, ℤ}
use Rattle.std.specs.Int.{int_max, int_min}
use Rattle.geom_core.specs.declared.geometry.Rect.{Rect}
use Rattle.pixel_raster.specs.Cuts.{edge_within}
use Rattle.pixel_raster.specs.Raster.{Raster}

-- a column or a row, brought between two edges of a clip and into a picture
unfoldable pub edge_at : ℕ → ℤ → ℤ → ℤ → ℕ
edge_at limit low high at = edge_within limit (int_max low (int_min high at))

abbrev pub column_at : Raster → Rect → ℤ → ℕ
column_at picture clip at = edge_at picture.width clip.left clip.right at

abbrev pub row_at : Raster → Rect → ℤ → ℕ
row_at picture clip at = edge_at picture.height clip.top clip.bottom at

-- how many pixels lie between these edges
abbrev pub area_between : Raster → Rect → ℤ → ℤ → ℤ → ℤ → ℕ
area_between picture clip left top right bottom =
    (column_at picture clip right - column_at picture clip left)
    * (row_at picture clip bottom - row_at picture clip top)

-- how many lie in these rows of the clip
abbrev pub strip_between : Raster → Rect → ℤ → ℤ → ℕ
strip_between picture clip top bottom = area_between picture clip clip.left top clip.right bottom
