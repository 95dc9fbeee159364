-- The part of a picture that a rectangle covers has the pixels that the rectangle holds.
use Rattle.std.proofs.Common.{◌≡◌, ℕ, ◌-◌, ◌*◌, ◌<◌, ◌≤◌, ℤ, pos, negsuc, ◌≤ℤ◌, ◌<ℤ◌, Bool, false, nat_lt, if◌then◌else◌, refl, sym, ap, ◌∙◌, arith}
use Rattle.std.proofs.lemmas.Bool.{false_from_ne_true, and_parts}
use Rattle.std.specs.Prelude.{int_lt}
use Rattle.std.proofs.lemmas.Bool.Decides.{nat_tests}
use Rattle.std.proofs.lemmas.Int.{ints}
use Rattle.std.proofs.lemmas.Nat.{mul-le}
use Rattle.geom_core.specs.Rects.{holds}
use Rattle.geom_core.specs.declared.color.Argb.{Argb}
use Rattle.geom_core.specs.declared.geometry.Rect.{Rect}
use Rattle.pixel_raster.specs.Cuts.{area_of, cut_of, edge_within, from_zero, has_pixel}
use Rattle.pixel_raster.specs.declared.cut.Cut.{Cut}
use Rattle.pixel_raster.proofs.TestLaws.{between_from}

pub edge_test : (limit place : ℕ) (edge : ℤ) → place < limit → nat_lt place (edge_within limit edge) ≡ int_lt (pos place) edge
unfolding edge_within from_zero
edge_test limit place (pos n) lt = grind (arith, ints, nat_tests)
edge_test limit place (negsuc n) lt = grind (arith, ints, nat_tests)

holds-pos : (width height x y : ℕ) (rect : Rect) → x < width → y < height → holds rect (pos x) (pos y) ≡ has_pixel (cut_of width height rect) x y
unfolding cut_of
holds-pos width height x y rect column row =
    rw (edge_test width x rect.left column, edge_test width x rect.right column, edge_test height y rect.top row, edge_test height y rect.bottom row) refl

no_place : (x y left right top bottom : ℕ) → (right - left) * (bottom - top) ≡ 0 → left ≤ x → x < right → top ≤ y → y < bottom → ⊥
no_place x y left right top bottom none l r t b =
    let area : 1 * 1 ≤ (right - left) * (bottom - top) = mul-le 1 1 (right - left) (bottom - top) (omega arith) (omega arith) in
    omega arith

-- a part without an area has no pixel
has_pixel-none : (cut : Cut) (x y : ℕ) → area_of cut ≡ 0 → has_pixel cut x y ≡ false
has_pixel-none cut x y none = false_from_ne_true (has_pixel cut x y) (λ is.
    let tests = and_parts _ _ is in
    let across = between_from cut.left cut.right x tests.0 in
    let down = between_from cut.top cut.bottom y tests.1 in
    no_place x y cut.left cut.right cut.top cut.bottom none across.0 across.1 down.0 down.1)

-- what is done to the pixels of a part is done to those that the rectangle holds
pub by_rect : (width height x y : ℕ) (rect : Rect) (cut : Cut) (now on off : Argb) → x < width → y < height → cut ≡ cut_of width height rect
    → now ≡ (if has_pixel cut x y then on else off) → now ≡ (if holds rect (pos x) (pos y) then on else off)
by_rect width height x y rect cut now on off column row is by_cut =
    by_cut
    ∙ ap (λ (test : Bool). if test then on else off) (ap (λ (cut : Cut). has_pixel cut x y) is ∙ sym (holds-pos width height x y rect column row))

pub by_rect-none : (width height x y : ℕ) (rect : Rect) (cut : Cut) (on off : Argb) → x < width → y < height → cut ≡ cut_of width height rect
    → area_of cut ≡ 0 → off ≡ (if holds rect (pos x) (pos y) then on else off)
by_rect-none width height x y rect cut on off column row is none =
    by_rect width height x y rect cut off on off column row is (ap (λ (test : Bool). if test then on else off) (sym (has_pixel-none cut x y none)))

-- a place that is in a picture
pub from_zero-inside : (limit : ℕ) (place : ℤ) → pos 0 ≤ℤ place → place <ℤ pos limit → from_zero place < limit
unfolding from_zero
from_zero-inside limit (pos n) low high = omega (arith, ints)
from_zero-inside limit (negsuc n) low high = absurd (omega (arith, ints))
