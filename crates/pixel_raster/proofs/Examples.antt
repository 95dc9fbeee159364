-- Areas, bytes and new pictures, by computation.
use Rattle.std.specs.Prelude.{◌≡◌, pos, negsuc, refl, [], ◌∷◌}
use Rattle.geom_core.proofs.RectExamples.{rect}
use Rattle.geom_core.specs.Numbers.{unpainted}
use Rattle.geom_core.specs.Color.{blue_of, green_of, red_of}
use Rattle.pixel_raster.specs.Bytes.{bytes_of}
use Rattle.pixel_raster.specs.Cuts.{area_within, cut_of, edge_within, from_zero}
use Rattle.pixel_raster.specs.Raster.{black_raster}

-- of a picture of 4 by 3: all of it, what is inside of a rectangle that is partly outside, and none
whole : area_within 4 3 (rect (negsuc 7) (negsuc 7) (pos 99) (pos 99)) ≡ 12
unfolding from_zero edge_within cut_of
whole = refl

partly_outside : area_within 4 3 (rect (negsuc 0) (pos 1) (pos 2) (pos 9)) ≡ 4
unfolding from_zero edge_within cut_of
partly_outside = refl

outside : area_within 4 3 (rect (pos 4) (pos 0) (pos 9) (pos 3)) ≡ 0
unfolding from_zero edge_within cut_of
outside = refl

edges_turned_round : area_within 4 3 (rect (pos 3) (pos 0) (pos 1) (pos 3)) ≡ 0
unfolding from_zero edge_within cut_of
edges_turned_round = refl

-- the alpha is not written
two_pixels : bytes_of (record { 0 = 0xff61_6263 } ∷ record { 0 = 0xff00_0102 } ∷ []) ≡ 0x61 ∷ 0x62 ∷ 0x63 ∷ 0 ∷ 1 ∷ 2 ∷ []
unfolding red_of green_of blue_of
two_pixels = refl

new_one : black_raster (record { w = pos 2; h = pos 1 }) ≡ record { width = 2; height = 1; pixels = unpainted ∷ unpainted ∷ []; filled = 0 }
unfolding from_zero
new_one = refl

-- a side below 0 counts as 0
no_height : black_raster (record { w = pos 2; h = negsuc 4 }) ≡ record { width = 2; height = 0; pixels = []; filled = 0 }
unfolding from_zero
no_height = refl
