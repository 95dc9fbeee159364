-- A relative layout: its children are tied to its sides and to one another. It measures each child twice, on the
-- horizontal axis and then on the vertical one, and a child always after its anchors. Lengths are in pixels.
use Rattle.std.specs.Prelude.{ℕ, ℤ, pos, ◌+ℤ◌, ◌-ℤ◌, int_div, int_lt, Bool, false, ◌&&◌, ◌||◌, not, ◌==◌, if◌then◌else◌}
use Rattle.std.specs.Prelude.{List, [], ◌∷◌, fold, Option, Some, None, unwrap_or}
use Rattle.std.specs.Int.{int_max, int_min}
use Rattle.std.specs.Option.{option_map}
use Rattle.geom_core.specs.Limits.{clamp_coordinate, clamp_size}
use Rattle.geom_core.specs.Spec.{resolve_of}
use Rattle.geom_core.specs.declared.geometry.Rect.{Rect}
use Rattle.geom_core.specs.declared.geometry.Size.{Size}
use Rattle.geom_core.specs.declared.measuring.Mode.{Mode}
use Rattle.geom_core.specs.declared.measuring.Mode.TheVariants.{Unspecified, Exactly, AtMost}
use Rattle.geom_core.specs.declared.measuring.Spec.{Spec}
use Rattle.view_model.specs.declared.facts.Facts.{Facts}
use Rattle.view_model.specs.declared.facts.Rules.{Rules}
use Rattle.view_model.specs.declared.relative.Anchor.{Anchor}
use Rattle.view_model.specs.declared.relative.Anchors.{Anchors}
use Rattle.view_model.specs.declared.relative.Axis.{Axis}
use Rattle.view_model.specs.declared.relative.Axis.TheVariants.{Horizontal, Vertical}
use Rattle.view_model.specs.declared.relative.GroupAxis.{GroupAxis}
use Rattle.view_model.specs.declared.relative.Edges.{Edges}
use Rattle.view_model.specs.declared.relative.ChildAxis.{ChildAxis}
use Rattle.view_model.specs.Direction.{left_of_two, right_of_two}
use Rattle.view_model.specs.Facts.{is_match, margin_left, margin_right, padding_left, padding_right}
use Rattle.view_model.specs.FrameLayout.{is_exactly}
use Rattle.view_model.specs.Measuring.{Specs}
use Rattle.view_model.specs.SiblingRules.{is_free, value_of}
use Rattle.view_model.specs.Verbs as verb

-- One axis of a group and of a child.

abbrev pub is_set : Rules → ℕ → Bool
is_set rules verb = not (value_of rules verb == 0)

abbrev pub group_on : Axis → Facts → Specs → GroupAxis
group_on Horizontal own specs =
    record { spec = specs.across; padding_near = padding_left own; padding_far = padding_right own; min = own.min.w }
group_on Vertical own specs =
    record { spec = specs.down; padding_near = own.padding.top; padding_far = own.padding.bottom; min = own.min.h }

-- the margins of a child on an axis
abbrev pub near_margin : Axis → Facts → ℤ
near_margin Horizontal kid = margin_left kid
near_margin Vertical kid = kid.margins.top

abbrev pub far_margin : Axis → Facts → ℤ
far_margin Horizontal kid = margin_right kid
far_margin Vertical kid = kid.margins.bottom

-- a child in a group that runs from right to left or not. Where it does, one without a rule for the axis rests at the
-- far side; down there is no such thing
abbrev pub child_on : Bool → Axis → Facts → ChildAxis
child_on rtl Horizontal kid = record {
  dim = kid.width;
  margin_near = margin_left kid;
  margin_far = margin_right kid;
  at_near =
      is_set kid.rules verb.parent_left
      || not (left_of_two rtl (value_of kid.rules verb.parent_start) (value_of kid.rules verb.parent_end) == 0);
  at_far =
      is_set kid.rules verb.parent_right
      || not (right_of_two rtl (value_of kid.rules verb.parent_start) (value_of kid.rules verb.parent_end) == 0);
  centered = is_set kid.rules verb.center || is_set kid.rules verb.center_h;
  rests_far = rtl && is_free kid.rules;
}
child_on rtl Vertical kid = record {
  dim = kid.height;
  margin_near = kid.margins.top;
  margin_far = kid.margins.bottom;
  at_near = is_set kid.rules verb.parent_top;
  at_far = is_set kid.rules verb.parent_bottom;
  centered = is_set kid.rules verb.center || is_set kid.rules verb.center_v;
  rests_far = false;
}

abbrev pub length_on : Axis → Size → ℤ
length_on Horizontal size = size.w
length_on Vertical size = size.h

-- the size that a spec gives a group, if it does
abbrev pub room_by : Mode → ℤ → Option ℤ
room_by Unspecified size = None
room_by Exactly size = Some size
room_by AtMost size = Some size

abbrev pub room_of : GroupAxis → Option ℤ
room_of group = room_by group.spec.mode group.spec.size

-- The sides that the rules of a child set. Rules set a side one after the other, and the last wins.

abbrev pub last_set : List (Option ℤ) → Option ℤ
last_set [] = None
last_set (side ∷ later) = or_else (last_set later)
  where
    or_else : Option ℤ → Option ℤ
    or_else None = side
    or_else (Some last) = Some last

abbrev pub where_so : Bool → Option ℤ → Option ℤ
where_so so side = if so then side else None

-- the sides of an anchor with its margins, and what a group's padding and a child's margin take on each side
abbrev pub outer_near : Anchor → ℤ
outer_near anchor = anchor.near -ℤ anchor.margin_near

abbrev pub outer_far : Anchor → ℤ
outer_far anchor = anchor.far +ℤ anchor.margin_far

abbrev pub near_inset : GroupAxis → ChildAxis → ℤ
near_inset group kid = group.padding_near +ℤ kid.margin_near

abbrev pub far_inset : GroupAxis → ChildAxis → ℤ
far_inset group kid = group.padding_far +ℤ kid.margin_far

abbrev pub both_insets : GroupAxis → ChildAxis → ℤ
both_insets group kid = near_inset group kid +ℤ far_inset group kid

-- the near side: after an anchor, at an anchor's near side, at the group's
abbrev pub after_anchor : ChildAxis → Anchor → ℤ
after_anchor kid anchor = clamp_coordinate (outer_far anchor +ℤ kid.margin_near)

abbrev pub begins_with : ChildAxis → Anchor → ℤ
begins_with kid anchor = clamp_coordinate (anchor.near +ℤ kid.margin_near)

abbrev pub begins_at_parent : GroupAxis → ChildAxis → ℤ
begins_at_parent group kid = clamp_coordinate (near_inset group kid)

unfoldable pub near_side : GroupAxis → ChildAxis → Anchors → Option ℤ
near_side group kid anchors = last_set (
    option_map (after_anchor kid) anchors.after
    ∷ option_map (begins_with kid) anchors.align_near
    ∷ where_so kid.at_near (Some (begins_at_parent group kid))
    ∷ [])

-- the far side: before an anchor, at an anchor's far side, at the group's if its size is known
abbrev pub before_anchor : ChildAxis → Anchor → ℤ
before_anchor kid anchor = clamp_coordinate (outer_near anchor -ℤ kid.margin_far)

abbrev pub ends_with : ChildAxis → Anchor → ℤ
ends_with kid anchor = clamp_coordinate (anchor.far -ℤ kid.margin_far)

abbrev pub ends_at_parent : GroupAxis → ChildAxis → ℤ → ℤ
ends_at_parent group kid room = clamp_coordinate (room -ℤ far_inset group kid)

unfoldable pub far_side : GroupAxis → ChildAxis → Anchors → Option ℤ
far_side group kid anchors = last_set (
    option_map (before_anchor kid) anchors.before
    ∷ option_map (ends_with kid) anchors.align_far
    ∷ where_so kid.at_far (option_map (ends_at_parent group kid) (room_of group))
    ∷ [])

-- The specs under which a child is measured.

abbrev pub exactly : ℤ → Spec
exactly size = record { mode = Exactly; size = clamp_size size }

abbrev pub at_most : ℤ → Spec
at_most size = record { mode = AtMost; size = clamp_size size }

abbrev pub anything : Spec
anything = record { mode = Unspecified; size = pos 0 }

-- if nothing is known: the number that it wants, or anything
unfoldable pub unbounded_spec : ℤ → Spec
unbounded_spec dim = if int_lt dim (pos 0) then anything else exactly dim

-- if this much is between the sides, or between the group's if they are not set
unfoldable pub bounded_spec : ℤ → ℤ → Spec
bounded_spec available dim =
    if int_lt dim (pos 0)
    then (if is_match dim then exactly available else if int_lt available (pos 0) then anything else at_most available)
    else (if int_lt available (pos 0) then exactly dim else exactly (int_min dim available))

-- what is between the sides, if they are set, of a child in a group of this size
unfoldable pub available_to : GroupAxis → ChildAxis → Option ℤ → Option ℤ → ℤ → ℤ
available_to group kid near far room =
    unwrap_or far (room -ℤ far_inset group kid) -ℤ unwrap_or near (near_inset group kid)

abbrev pub spec_in : GroupAxis → ChildAxis → Option ℤ → Option ℤ → Option ℤ → Spec
spec_in group kid near far None = unbounded_spec kid.dim
spec_in group kid near far (Some room) = bounded_spec (available_to group kid near far room) kid.dim

-- the spec of a child on an axis with these sides
abbrev pub side_spec : GroupAxis → ChildAxis → Option ℤ → Option ℤ → Spec
side_spec group kid None far = spec_in group kid None far (room_of group)
side_spec group kid (Some near) None = spec_in group kid (Some near) None (room_of group)
side_spec group kid (Some near) (Some far) = exactly (far -ℤ near)

-- its height's spec while its width is measured, which knows no anchors
unfoldable pub loose_spec : GroupAxis → ChildAxis → ℤ → Spec
loose_spec group kid room =
    let available = room -ℤ both_insets group kid in
    if is_match kid.dim then exactly available else at_most available

abbrev pub loose_spec_in : GroupAxis → ChildAxis → Option ℤ → Spec
loose_spec_in group kid None = unbounded_spec kid.dim
loose_spec_in group kid (Some room) = loose_spec group kid room

-- Both sides of a child, once it is measured.

abbrev pub span_at : ℤ → ℤ → ℤ × ℤ
span_at near length = let edge = clamp_coordinate near in (edge, edge +ℤ length)

-- the near side of a child that rests at the far side of a group of this size
abbrev pub rest_near : GroupAxis → ChildAxis → ℤ → ℤ → ℤ
rest_near group kid room length = room -ℤ (far_inset group kid +ℤ length)

abbrev pub centered_in : ℤ → ℤ → ℤ
centered_in room length = int_div (room -ℤ length) (pos 2)

-- if no side is set: in the middle of a group whose size is given, at its far side if it rests there, or at its near
-- side
unfoldable pub free_near : GroupAxis → ChildAxis → ℤ → ℤ
free_near group kid length =
    if is_exactly group.spec.mode
    then (if kid.centered then centered_in group.spec.size length
    else if kid.rests_far then rest_near group kid group.spec.size length else near_inset group kid)
    else near_inset group kid

-- a side that is not set follows from the other and the length
unfoldable pub span_of : GroupAxis → ChildAxis → Option ℤ → Option ℤ → ℤ → ℤ × ℤ
span_of group kid None None length = span_at (free_near group kid length) length
span_of group kid (Some near) None length = (near, near +ℤ length)
span_of group kid None (Some far) length = (clamp_coordinate (far -ℤ length), far)
span_of group kid (Some near) (Some far) length = (near, far)

-- a child with these anchors that was measured with this length
abbrev pub settled_span : GroupAxis → ChildAxis → Anchors → ℤ → ℤ × ℤ
settled_span group kid anchors length =
    span_of group kid (near_side group kid anchors) (far_side group kid anchors) length

-- a child that was measured on an axis, with its sides there
pub record Spanned : Type 0 where
  pub facts : Facts
  pub span : ℤ × ℤ

-- how far its children reach, with their margins
abbrev pub reach_of : Axis → Spanned → ℤ
reach_of axis kid = kid.span.1 +ℤ far_margin axis kid.facts

abbrev pub greatest_reach : Axis → List Spanned → ℤ
greatest_reach axis kids = fold (λ most kid. int_max most (reach_of axis kid)) (pos 0) kids

-- the length of the group itself
abbrev pub own_length : Axis → Facts → Specs → List Spanned → ℤ
own_length axis own specs kids =
    let group = group_on axis own specs in
    resolve_of (int_max group.min (greatest_reach axis kids +ℤ group.padding_far)) group.spec

-- if the group's size was not given, children in its middle or at its far side, and those that rest there, move once it
-- is known; their siblings don't move along
unfoldable pub moved_span : GroupAxis → ChildAxis → ℤ → ℤ × ℤ → ℤ → ℤ × ℤ
moved_span group kid own span length =
    if is_exactly group.spec.mode
    then span
    else (if kid.centered
    then span_at (centered_in own length) length
    else if kid.at_far then span_at (own -ℤ (group.padding_far +ℤ length)) length
    else if kid.rests_far then span_at (rest_near group kid own length) length else span)

-- The two phases.

abbrev pub span_or_none : Option (ℤ × ℤ) → ℤ × ℤ
span_or_none span = unwrap_or span (pos 0, pos 0)

-- what is between two sides
unfoldable pub width_of : ℤ × ℤ → ℤ
width_of span = span.1 -ℤ span.0

-- the specs of a child in the first phase, by its anchors from left to right
abbrev pub across_specs : Facts → Specs → Facts → Anchors → Specs
across_specs own specs kid anchors =
    let group = group_on Horizontal own specs in
    let tied = child_on own.rtl Horizontal kid in
    let lower = group_on Vertical own specs in
    record {
      across = side_spec group tied (near_side group tied anchors) (far_side group tied anchors);
      down = loose_spec_in lower (child_on own.rtl Vertical kid) (room_of lower);
    }

-- in the second, by its sides from left to right and its anchors from top to bottom
abbrev pub down_specs : Facts → Specs → Facts → ℤ × ℤ → Anchors → Specs
down_specs own specs kid span anchors =
    let group = group_on Vertical own specs in
    let tied = child_on own.rtl Vertical kid in
    record {
      across = exactly (width_of span);
      down = side_spec group tied (near_side group tied anchors) (far_side group tied anchors);
    }

-- the sides of a child, measured with this size, on an axis
abbrev pub span_on : Axis → Facts → Specs → Facts → Anchors → Size → ℤ × ℤ
span_on axis own specs kid anchors size =
    settled_span (group_on axis own specs) (child_on own.rtl axis kid) anchors (length_on axis size)

-- the axis of a phase, by the phases before
abbrev pub phase_axis : List (List Spanned) → Axis
phase_axis [] = Horizontal
phase_axis (first ∷ more) = Vertical

-- its specs in a phase, if these sides of it are known
abbrev pub phase_specs : Facts → Specs → List (List Spanned) → Facts → Edges → Anchors → Specs
phase_specs own specs [] kid edges anchors = across_specs own specs kid anchors
phase_specs own specs (first ∷ more) kid edges anchors = down_specs own specs kid (span_or_none edges.across) anchors

-- what is known of its sides after it
abbrev pub edges_with : Axis → ℤ × ℤ → Edges → Edges
edges_with Horizontal span edges = record edges { across = Some span }
edges_with Vertical span edges = record edges { down = Some span }

-- all four sides, once both axes are known
abbrev pub sides_by : Option (ℤ × ℤ) → Option (ℤ × ℤ) → Option Rect
sides_by None down = None
sides_by (Some across) None = None
sides_by (Some across) (Some down) = Some (record { left = across.0; top = down.0; right = across.1; bottom = down.1 })

abbrev pub sides_of : Edges → Option Rect
sides_of edges = sides_by edges.across edges.down

-- its final sides, by those that it had after it was measured with this size
abbrev pub final_span : Axis → Facts → Specs → ℤ → Spanned → Size → ℤ × ℤ
final_span axis own specs size kid kid_size =
    moved_span (group_on axis own specs) (child_on own.rtl axis kid.facts) size kid.span (length_on axis kid_size)

-- the size of the group, whose children were taken with these sides from left to right and from top to bottom
abbrev pub relative_size : Facts → Specs → List Spanned → List Spanned → Size
relative_size own specs across down =
    record { w = own_length Horizontal own specs across; h = own_length Vertical own specs down }

-- a rectangle between two pairs of sides: a far side before the near one counts as the near one
abbrev pub rect_between : ℤ × ℤ → ℤ × ℤ → Rect
rect_between across down =
    record { left = across.0; top = down.0; right = int_max across.0 across.1; bottom = int_max down.0 down.1 }

-- the final rectangle of a child of this size that has these sides after the second phase
abbrev pub final_rect : Facts → Specs → Size → Facts → Edges → Size → Rect
final_rect own specs size kid edges kid_size = rect_between
    (final_span Horizontal own specs size.w (record { facts = kid; span = span_or_none edges.across }) kid_size)
    (final_span Vertical own specs size.h (record { facts = kid; span = span_or_none edges.down }) kid_size)
