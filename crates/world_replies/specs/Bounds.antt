-- The texts of where views are.
use Rattle.std.specs.Prelude.{ℕ, ℤ, if◌then◌else◌, List, [], Option, Some, None}
use Rattle.text_lines.specs.Joined.{◌⧺◌}
use Rattle.view_model.specs.Classes.{scrolls}
use Rattle.view_model.specs.Forest.{Forest, Nothing, Branch}
use Rattle.view_model.specs.Geometry.{Laid, rect_in}
use Rattle.view_model.specs.PlainTree.{PlainView}
use Rattle.view_model.specs.declared.class.Class.{Class}
use Rattle.world_replies.specs.Replies.{bounds_line}

-- the offset that is printed of a view of this class, if it has one
abbrev pub printed_offset : Class → ℤ → Option ℤ
printed_offset class offset = if scrolls class then Some offset else None

-- where a view is
abbrev pub bounds_of : List Laid → PlainView → List ℕ
bounds_of geometry view =
    bounds_line view.number (printed_offset view.class view.facts.offset) (rect_in geometry view.number)

-- the bounds of each view in preorder
abbrev pub bounds_text : List Laid → Forest PlainView → List ℕ
bounds_text geometry Nothing = []
bounds_text geometry (Branch view below after) =
    bounds_of geometry view ⧺ bounds_text geometry below ⧺ bounds_text geometry after
