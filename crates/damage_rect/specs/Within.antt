-- Rectangles that lie in one another.
use Rattle.std.specs.Prelude.{◌≡◌, ◌≤ℤ◌, ℤ, true}
use Rattle.geom_core.specs.declared.geometry.Rect.{Rect}
use Rattle.geom_core.specs.Rects.{holds}

-- each point of the first rectangle lies in the second
abbrev pub LiesIn : Rect → Rect → Type 0
LiesIn inner outer = (x y : ℤ) → holds inner x y ≡ true → holds outer x y ≡ true

-- a rectangle no edge of which lies outside another
pub record IsInside (outer inner : Rect) : Type 0 where
  pub left : outer.left ≤ℤ inner.left
  pub top : outer.top ≤ℤ inner.top
  pub right : inner.right ≤ℤ outer.right
  pub bottom : inner.bottom ≤ℤ outer.bottom
