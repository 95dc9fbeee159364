-- How far views are scrolled once they are laid out.
use Rattle.std.specs.Prelude.{ℤ, if◌then◌else◌, List, Option, Some, None}
use Rattle.std.specs.Option.{option_map}
use Rattle.geom_core.specs.declared.geometry.Rect.{Rect}
use Rattle.view_model.specs.declared.facts.Facts.{Facts}
use Rattle.view_model.specs.declared.class.Class.{Class}
use Rattle.view_model.specs.Classes.{scrolls}
use Rattle.view_model.specs.Forest.{Forest, Nothing, Branch}
use Rattle.view_model.specs.Geometry.{Laid, rect_in, size_of_rect}
use Rattle.view_model.specs.PlainTree.{PlainView}
use Rattle.view_model.specs.ScrollView.{offset_within, scroll_range}

-- the range of the offset of a view in this rectangle, whose child is in that one: only a view that scrolls and has
-- bounds has one, and a child that has no bounds counts as none
abbrev pub range_by : Class → Facts → Option Rect → Option Rect → Option ℤ
range_by class own rect child =
    if scrolls class
    then option_map (λ (rect : Rect). scroll_range own (size_of_rect rect) (option_map size_of_rect child)) rect
    else None

-- an offset brought into a range, if there is one
abbrev pub brought : Option ℤ → ℤ → ℤ
brought None offset = offset
brought (Some range) offset = offset_within range offset

-- where the first view of a list is
abbrev pub first_rect : List Laid → Forest PlainView → Option Rect
first_rect geometry Nothing = None
first_rect geometry (Branch view below after) = rect_in geometry view.number

-- a view with these trees below it, its offset in range
abbrev pub ranged_view : List Laid → PlainView → Forest PlainView → PlainView
ranged_view geometry view below =
    let range = range_by view.class view.facts (rect_in geometry view.number) (first_rect geometry below) in
    record view { facts = record view.facts { offset = brought range view.facts.offset } }

-- the trees of a list if their views have these bounds, each scroll view that has bounds with its offset in range
abbrev pub ranged : List Laid → Forest PlainView → Forest PlainView
ranged geometry Nothing = Nothing
ranged geometry (Branch view below after) =
    Branch (ranged_view geometry view below) (ranged geometry below) (ranged geometry after)
