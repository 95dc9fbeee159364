-- Painters over a canvas.
use Rattle.std.proofs.Common.{◌≡◌, ℤ, pos, ◌+ℤ◌, ◌-ℤ◌, Bool, true, false, if◌then◌else◌, refl, sym, ap, ◌∙◌, arith}
use Rattle.std.specs.Prelude.{◌&&◌, int_lt}
use Rattle.std.proofs.lemmas.Int.{ints}
use Rattle.geom_core.specs.Rects.{holds}
use Rattle.geom_core.specs.declared.color.Argb.{Argb}
use Rattle.geom_core.specs.declared.geometry.Rect.{Rect}
use Rattle.pixel_raster.specs.Raster.{Raster, color_at}
use Rattle.view_model.specs.Painting.{Painter}
use Rattle.seen_parts.specs.declared.frame.Canvas.{Canvas}
use Rattle.seen_parts.specs.declared.frame.Frame.{Frame}
use Rattle.seen_parts.specs.Frames.{IsMoved, frame_holds}
use Rattle.tree_painter.specs.Painted.{IsPainted}

kept : (t : Bool) (p u : Argb) → (t ≡ true → p ≡ u) → u ≡ (if t then p else u)
kept true p u same = sym (same refl)
kept false p u same = refl

-- a painter that leaves what is there
pub painted_nothing : (paint : Painter) (clip : Rect) (at : Raster) → ((x y : ℤ) (u : Argb) → holds clip x y ≡ true → paint x y u ≡ u) → IsPainted paint clip at at
painted_nothing paint clip at none = record {
  width = refl;
  height = refl;
  colors = λ x y xw yh. kept (holds clip (pos x) (pos y)) (paint (pos x) (pos y) (color_at at x y)) (color_at at x y) (none (pos x) (pos y) (color_at at x y));
}

-- a painter that does the same
pub painted_by : (p q : Painter) (clip : Rect) (old new : Raster) → ((x y : ℤ) (u : Argb) → p x y u ≡ q x y u) → IsPainted q clip old new → IsPainted p clip old new
painted_by p q clip old new same h = record {
  width = h.width;
  height = h.height;
  colors = λ x y xw yh. h.colors x y xw yh
      ∙ ap (λ (v : Argb). if holds clip (pos x) (pos y) then v else color_at old x y) (sym (same (pos x) (pos y) (color_at old x y)));
}

shifted_lt : (x by edge : ℤ) → int_lt (x -ℤ by) edge ≡ int_lt x (edge +ℤ by)
shifted_lt x by edge = grind (arith, ints)

pub moved_holds : (rect : Rect) (canvas : Canvas) (frame : Frame) → IsMoved rect canvas frame → (x y : ℤ) → frame_holds frame x y ≡ holds rect (x -ℤ canvas.left) (y -ℤ canvas.top)
moved_holds rect canvas frame m x y =
    rw (shifted_lt x canvas.left rect.left, shifted_lt x canvas.left rect.right, shifted_lt y canvas.top rect.top, shifted_lt y canvas.top rect.bottom, m.left, m.top, m.right, m.bottom) refl

pub right_of : (a b : Bool) → a ≡ true → false ≡ (a && b) → b ≡ false
right_of true b h e = sym e
right_of false b h e = absurd (cc)
