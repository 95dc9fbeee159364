-- The attributes that are known: the name of each, what its value may be and what it sets.
use Rattle.std.specs.Prelude.{ℕ, pos, List, [], ◌∷◌, codes}
use Rattle.view_model.specs.Numbers.{max_inset, max_size, min_margin}
use Rattle.view_model.specs.Verbs as verb
use Rattle.attr_table.specs.declared.table.Side.TheVariants as side
use Rattle.attr_table.specs.declared.table.Slot.{Slot}
use Rattle.attr_table.specs.declared.table.Slot.TheVariants as slot
use Rattle.attr_table.specs.declared.table.Takes.{Takes}
use Rattle.attr_table.specs.declared.table.Takes.TheVariants as takes

-- an attribute: its name, what its value may be, and what it sets
pub record Attribute : Type 0 where
  pub name : List ℕ
  pub takes : Takes
  pub slot : Slot

abbrev pub known : List ℕ → Takes → Slot → Attribute
known name takes slot = record { name = name; takes = takes; slot = slot }

-- lengths in pixels: of a margin, of a padding, and of the least size of a view
abbrev pub margin : Takes
margin = takes.Length min_margin max_inset

abbrev pub padding : Takes
padding = takes.Length (pos 0) max_inset

abbrev pub minimum : Takes
minimum = takes.Length (pos 0) max_size

-- how many there are, and the places of the two that each element must have
abbrev pub known_count : ℕ
known_count = 54

abbrev pub width_place : ℕ
width_place = 1

abbrev pub height_place : ℕ
height_place = 2

-- A view's rules are numbered in the order of its verbs: twelve name a sibling, nine the parent.
unfoldable pub attributes : List Attribute
attributes =
    known (codes "id") takes.Reference slot.Id
    ∷ known (codes "layout_width") takes.Extent slot.Width
    ∷ known (codes "layout_height") takes.Extent slot.Height
    ∷ known (codes "layout_margin") margin slot.Margins
    ∷ known (codes "layout_marginLeft") margin (slot.Margin side.Left)
    ∷ known (codes "layout_marginTop") margin (slot.Margin side.Top)
    ∷ known (codes "layout_marginRight") margin (slot.Margin side.Right)
    ∷ known (codes "layout_marginBottom") margin (slot.Margin side.Bottom)
    ∷ known (codes "layout_marginStart") margin (slot.Margin side.Start)
    ∷ known (codes "layout_marginEnd") margin (slot.Margin side.End)
    ∷ known (codes "padding") padding slot.Paddings
    ∷ known (codes "paddingLeft") padding (slot.Padding side.Left)
    ∷ known (codes "paddingTop") padding (slot.Padding side.Top)
    ∷ known (codes "paddingRight") padding (slot.Padding side.Right)
    ∷ known (codes "paddingBottom") padding (slot.Padding side.Bottom)
    ∷ known (codes "paddingStart") padding (slot.Padding side.Start)
    ∷ known (codes "paddingEnd") padding (slot.Padding side.End)
    ∷ known (codes "minWidth") minimum slot.MinWidth
    ∷ known (codes "minHeight") minimum slot.MinHeight
    ∷ known (codes "layout_weight") takes.Weight slot.Weight
    ∷ known (codes "weightSum") takes.Weight slot.WeightSum
    ∷ known (codes "layout_gravity") takes.Whole slot.LayoutGravity
    ∷ known (codes "gravity") takes.Whole slot.Gravity
    ∷ known (codes "orientation") (takes.Below 2) slot.Vertical
    ∷ known (codes "visibility") (takes.Below 3) slot.Visibility
    ∷ known (codes "layoutDirection") (takes.Below 4) slot.Direction
    ∷ known (codes "background") takes.Color slot.Background
    ∷ known (codes "textColor") takes.Color slot.Ink
    ∷ known (codes "text") takes.Text slot.Text
    ∷ known (codes "clickable") takes.Boolean slot.Click
    ∷ known (codes "clipToPadding") takes.Boolean slot.Clip
    ∷ known (codes "fillViewport") takes.Boolean slot.Fill
    ∷ known (codes "splitMotionEvents") takes.Boolean slot.Split
    ∷ known (codes "layout_toLeftOf") takes.Reference (slot.Rule verb.left_of)
    ∷ known (codes "layout_toRightOf") takes.Reference (slot.Rule verb.right_of)
    ∷ known (codes "layout_above") takes.Reference (slot.Rule verb.above)
    ∷ known (codes "layout_below") takes.Reference (slot.Rule verb.below)
    ∷ known (codes "layout_alignLeft") takes.Reference (slot.Rule verb.align_left)
    ∷ known (codes "layout_alignTop") takes.Reference (slot.Rule verb.align_top)
    ∷ known (codes "layout_alignRight") takes.Reference (slot.Rule verb.align_right)
    ∷ known (codes "layout_alignBottom") takes.Reference (slot.Rule verb.align_bottom)
    ∷ known (codes "layout_toStartOf") takes.Reference (slot.Rule verb.start_of)
    ∷ known (codes "layout_toEndOf") takes.Reference (slot.Rule verb.end_of)
    ∷ known (codes "layout_alignStart") takes.Reference (slot.Rule verb.align_start)
    ∷ known (codes "layout_alignEnd") takes.Reference (slot.Rule verb.align_end)
    ∷ known (codes "layout_alignParentLeft") takes.Boolean (slot.Rule verb.parent_left)
    ∷ known (codes "layout_alignParentTop") takes.Boolean (slot.Rule verb.parent_top)
    ∷ known (codes "layout_alignParentRight") takes.Boolean (slot.Rule verb.parent_right)
    ∷ known (codes "layout_alignParentBottom") takes.Boolean (slot.Rule verb.parent_bottom)
    ∷ known (codes "layout_alignParentStart") takes.Boolean (slot.Rule verb.parent_start)
    ∷ known (codes "layout_alignParentEnd") takes.Boolean (slot.Rule verb.parent_end)
    ∷ known (codes "layout_centerInParent") takes.Boolean (slot.Rule verb.center)
    ∷ known (codes "layout_centerHorizontal") takes.Boolean (slot.Rule verb.center_h)
    ∷ known (codes "layout_centerVertical") takes.Boolean (slot.Rule verb.center_v)
    ∷ []
