-- A rectangle covers no more pixels of a picture than it has points, and no more than one that it lies in.
use Rattle.std.proofs.Common.{ℕ, ◌-◌, ◌<◌, ◌≤◌, inl, inr, ℤ, ◌≤ℤ◌, pos, negsuc, ◌-ℤ◌, arith, mul-le-mul}
use Rattle.std.specs.Int.{int_max}
use Rattle.std.specs.Prelude.{unsigned_abs}
use Rattle.std.proofs.lemmas.Bool.{cases_lt}
use Rattle.std.proofs.lemmas.Int.{ints}
use Rattle.damage_rect.proofs.AreaLaws.{area_grows, not_below_zero}
use Rattle.damage_rect.specs.Areas.{extent, rect_area}
use Rattle.damage_rect.specs.Within.{LiesIn}
use Rattle.geom_core.specs.declared.geometry.Rect.{Rect}
use Rattle.pixel_raster.specs.Cuts.{cut_of, edge_within, from_zero}
use Rattle.pixel_raster.specs.Raster.{Raster}
use Rattle.tree_painter.specs.Painted.{area_in}

at_least : (k : ℕ) (z : ℤ) → pos k ≤ℤ z → k ≤ unsigned_abs (int_max (pos 0) z)
at_least k (pos n) le = rw (not_below_zero n) (omega (arith, ints))
at_least k (negsuc n) le = absurd (omega (arith, ints))

past_edge : (limit : ℕ) (low high : ℤ) → edge_within limit low < edge_within limit high → pos (edge_within limit high - edge_within limit low) ≤ℤ (high -ℤ low)
unfolding edge_within from_zero
past_edge limit (pos m) (pos n) lt = omega (arith, ints)
past_edge limit (pos m) (negsuc n) lt = absurd (omega arith)
past_edge limit (negsuc m) (pos n) lt = omega (arith, ints)
past_edge limit (negsuc m) (negsuc n) lt = absurd (omega arith)

covered_extent : (limit : ℕ) (low high : ℤ) → edge_within limit high - edge_within limit low ≤ extent low high
covered_extent limit low high = elim (cases_lt (edge_within limit low) (edge_within limit high)) [
  | inl lt ↦ at_least (edge_within limit high - edge_within limit low) (high -ℤ low) (past_edge limit low high lt)
  | inr ge ↦ omega arith
]

pub covered_area : (picture : Raster) (rect : Rect) → area_in picture rect ≤ rect_area rect
unfolding cut_of
covered_area picture rect = mul-le-mul (covered_extent picture.width rect.left rect.right) (covered_extent picture.height rect.top rect.bottom)

-- the pixels that what lies in a box covers
pub covered_in : (picture : Raster) (rect box : Rect) → LiesIn rect box → area_in picture rect ≤ rect_area box
covered_in picture rect box lies = let own = covered_area picture rect in let most = area_grows rect box lies in omega arith
