-- Rectangles whose width and height fit in 32 bits.
use Rattle.std.specs.Prelude.{◌≡◌, ℕ, ℤ, pos, ◌≤ℤ◌, true, Option, IfSome}
use Rattle.geom_core.specs.declared.geometry.Rect.{Rect}
use Rattle.view_model.specs.Facts.{is_shown}
use Rattle.view_model.specs.Forest.{Forest, Nothing, Branch}
use Rattle.view_model.specs.Geometry.{size_of_rect}
use Rattle.view_model.specs.RelativeLayout.{sides_of}
use Rattle.view_tree.specs.Rows.{Row}
use Rattle.view_tree.specs.Views.{Held}
use Rattle.traversal.specs.declared.laying.placer.Placer.{Placer}
use Rattle.traversal.specs.declared.laying.placer.Placer.TheVariants.{Between, Over, InLine}

-- a width or a height; it may be greater than what a view is measured with, since a side may be far out
pub record IsStretch (length : ℤ) : Type 0 where
  pub low : pos 0 ≤ℤ length
  pub high : length ≤ℤ pos 536870912

pub record IsNarrow (rect : Rect) : Type 0 where
  pub width : IsStretch (size_of_rect rect).w
  pub height : IsStretch (size_of_rect rect).h

abbrev pub AreSidesNarrow : Option Rect → Type 0
AreSidesNarrow sides = IfSome sides (λ (rect : Rect). IsNarrow rect)

-- so are the sides that are kept with the views of a list that take part in layout
abbrev pub AreNarrow : (ℕ → Held) → Forest Row → Type 0
AreNarrow held Nothing = Unit {0}
AreNarrow held (Branch row kids siblings) =
    (is_shown row.view.facts ≡ true → AreSidesNarrow (sides_of (held row.key).state.edges)) × AreNarrow held siblings

-- the sides of a child are narrow if it is placed between them
abbrev pub IsNarrowFor : Placer → Option Rect → Type 0
IsNarrowFor (Over room) sides = Unit {0}
IsNarrowFor (InLine cursor) sides = Unit {0}
IsNarrowFor Between sides = AreSidesNarrow sides
