-- Worked relative layouts, by computation.
use Rattle.std.specs.Prelude.{◌≡◌, ℕ, ℤ, pos, negsuc, refl, true, false, List, [], ◌∷◌, Option, Some, None, map, replicate, slice_set}
use Rattle.geom_core.specs.declared.geometry.Rect.{Rect}
use Rattle.geom_core.specs.declared.geometry.Size.{Size}
use Rattle.geom_core.specs.declared.measuring.Mode.TheVariants.{Unspecified, Exactly, AtMost}
use Rattle.geom_core.specs.Limits.{clamp_coordinate}
use Rattle.geom_core.specs.Spec.{child_spec_of, remaining_of, resolve_of, default_size_of}
use Rattle.view_model.specs.declared.facts.Facts.{Facts}
use Rattle.view_model.specs.declared.class.Class.TheVariants as class
use Rattle.view_model.specs.declared.visibility.Visibility.TheVariants.{Gone}
use Rattle.view_model.specs.declared.refusal.Member.TheVariants as member
use Rattle.view_model.specs.declared.relative.Axis.TheVariants.{Horizontal, Vertical}
use Rattle.view_model.specs.declared.relative.Link.{Link}
use Rattle.view_model.specs.declared.verbs.TheConstants.{LEFT_OF, RIGHT_OF, BELOW, ALIGN_LEFT, ALIGN_RIGHT, ALIGN_TOP, END_OF, START_OF, PARENT_LEFT, PARENT_RIGHT, CENTER, CENTER_V}
use Rattle.view_model.specs.Course.{Child, Requested, Course}
use Rattle.view_model.specs.Cycles.{first_cycle}
use Rattle.view_model.specs.Facts.{new_facts}
use Rattle.view_model.specs.Forest.{Forest, Nothing, Branch}
use Rattle.view_model.specs.Geometry.{Laid}
use Rattle.view_model.specs.Layout.{child_by, full_layout}
use Rattle.view_model.specs.Measuring.{Specs}
use Rattle.view_model.specs.Orders.{Reaches, AtOnce, Through}
use Rattle.view_model.specs.PlainTree.{PlainView}
use Rattle.view_model.specs.Refusals.{Cycle}
use Rattle.view_model.specs.RelativeCourse.{relative_course}
use Rattle.view_model.specs.RelativeLayout.{available_to, bounded_spec, far_side, free_near, loose_spec, moved_span, near_side, rect_between, span_of, unbounded_spec, width_of}
use Rattle.view_model.specs.SiblingRules.{leads, names}

match : ℤ
match = negsuc 0

wrap : ℤ
wrap = negsuc 1

-- rules of which some are set
with_rules : List (ℕ × ℕ) → Facts → Facts
with_rules [] facts = facts
with_rules (rule ∷ rules) facts =
    let others = with_rules rules facts in
    record others { rules = record { values = slice_set others.rules.values rule.0 rule.1 } }

-- a plain view with this id and these rules
view : ℕ → ℤ → ℤ → List (ℕ × ℕ) → Facts
view id width height rules = with_rules rules (record (new_facts width height) { id = id })

gone : Facts → Facts
gone facts = record facts { visibility = Gone }

child : Facts → Child
child facts = child_by (record { number = 0; class = class.View; facts = facts; text = [] }) []

reported : ℕ → ℕ → Specs
reported width height = record { across = record { mode = Exactly; size = pos width }; down = record { mode = Exactly; size = pos height } }

loose : Specs
loose = record { across = record { mode = Unspecified; size = pos 0 }; down = record { mode = AtMost; size = pos 100 } }

rect : ℕ → ℕ → ℕ → ℕ → Rect
rect left top right bottom = record { left = pos left; top = pos top; right = pos right; bottom = pos bottom }

all_sides : Course → List (Option Rect)
all_sides course = map (λ (kid : Requested). kid.edges) course.kids

size : ℕ → ℕ → Size
size w h = record { w = pos w; h = pos h }

-- three views in a row, the second beside the first and the third beside the second
row : List Facts
row = view 1 (pos 20) (pos 10) [] ∷ view 2 (pos 30) (pos 10) ((RIGHT_OF, 1) ∷ []) ∷ view 0 (pos 10) (pos 10) ((RIGHT_OF, 2) ∷ []) ∷ []

are_in_a_row : all_sides (relative_course (new_facts match match) (reported 100 100) (map child row)) ≡ Some (rect 0 0 20 10) ∷ Some (rect 20 0 50 10) ∷ Some (rect 50 0 60 10) ∷ []
unfolding row reported view with_rules child rect all_sides match near_side far_side bounded_spec available_to unbounded_spec loose_spec free_near span_of moved_span width_of default_size_of resolve_of clamp_coordinate
are_in_a_row = refl

-- if the second is gone, the third is beside the first
hidden : List Facts
hidden = view 1 (pos 20) (pos 10) [] ∷ gone (view 2 (pos 30) (pos 10) ((RIGHT_OF, 1) ∷ [])) ∷ view 0 (pos 10) (pos 10) ((RIGHT_OF, 2) ∷ []) ∷ []

gone_anchor_is_passed : all_sides (relative_course (new_facts match match) (reported 100 100) (map child hidden)) ≡ Some (rect 0 0 20 10) ∷ None ∷ Some (rect 20 0 30 10) ∷ []
unfolding hidden gone reported view with_rules child rect all_sides match near_side far_side bounded_spec available_to unbounded_spec loose_spec free_near span_of moved_span width_of default_size_of resolve_of clamp_coordinate
gone_anchor_is_passed = refl

-- of two siblings with one id the last is the anchor
twins : List Facts
twins = view 1 (pos 10) (pos 10) [] ∷ view 1 (pos 20) (pos 10) [] ∷ view 0 (pos 5) (pos 5) ((RIGHT_OF, 1) ∷ []) ∷ []

last_of_two : all_sides (relative_course (new_facts match match) (reported 100 100) (map child twins)) ≡ Some (rect 0 0 10 10) ∷ Some (rect 0 0 20 10) ∷ Some (rect 20 0 25 5) ∷ []
unfolding twins reported view with_rules child rect all_sides match near_side far_side bounded_spec available_to unbounded_spec loose_spec free_near span_of moved_span width_of default_size_of resolve_of clamp_coordinate
last_of_two = refl

-- a child that is the last with the id that it names is tied to no sibling
own_id : List Facts
own_id = view 1 (pos 10) (pos 10) [] ∷ view 1 (pos 20) (pos 10) ((RIGHT_OF, 1) ∷ []) ∷ []

no_child_is_its_own_anchor : all_sides (relative_course (new_facts match match) (reported 100 100) (map child own_id)) ≡ Some (rect 0 0 10 10) ∷ Some (rect 0 0 20 10) ∷ []
unfolding own_id reported view with_rules child rect all_sides match near_side far_side bounded_spec available_to unbounded_spec loose_spec free_near span_of moved_span width_of default_size_of resolve_of clamp_coordinate
no_child_is_its_own_anchor = refl

-- one at the left and one at the right of a bar with padding, both in the middle of its height
bar : Facts
bar = record (new_facts match (pos 48)) { padding = record { left = pos 8; top = pos 8; right = pos 8; bottom = pos 8 } }

ends : List Facts
ends = view 0 (pos 30) (pos 8) ((PARENT_LEFT, 1) ∷ (CENTER_V, 1) ∷ []) ∷ view 0 (pos 12) (pos 8) ((PARENT_RIGHT, 1) ∷ (CENTER_V, 1) ∷ []) ∷ []

at_both_ends : all_sides (relative_course bar (reported 320 48) (map child ends)) ≡ Some (rect 8 20 38 28) ∷ Some (rect 300 20 312 28) ∷ []
unfolding bar ends reported view with_rules child rect all_sides match near_side far_side bounded_spec available_to unbounded_spec loose_spec free_near span_of moved_span width_of default_size_of resolve_of clamp_coordinate
at_both_ends = refl

-- a group that is as large as its children: it is as wide as the first, and then the others move to its right and to
-- its middle
wrapped : List Facts
wrapped = view 0 (pos 60) (pos 10) [] ∷ view 0 (pos 10) (pos 20) ((PARENT_RIGHT, 1) ∷ []) ∷ view 0 (pos 20) (pos 4) ((CENTER, 1) ∷ []) ∷ []

own_size_of_wrapped : (relative_course (new_facts wrap wrap) loose (map child wrapped)).size ≡ size 60 20
unfolding wrapped loose size view with_rules child rect all_sides match near_side far_side bounded_spec available_to unbounded_spec loose_spec free_near span_of moved_span width_of default_size_of resolve_of clamp_coordinate wrap
own_size_of_wrapped = refl

move_in_the_end : all_sides (relative_course (new_facts wrap wrap) loose (map child wrapped)) ≡ Some (rect 0 0 60 10) ∷ Some (rect 50 0 60 20) ∷ Some (rect 20 8 40 12) ∷ []
unfolding wrapped loose view with_rules child rect all_sides match near_side far_side bounded_spec available_to unbounded_spec loose_spec free_near span_of moved_span width_of default_size_of resolve_of clamp_coordinate wrap
move_in_the_end = refl

-- a limit is a size to use: the child at the far side makes the group that wide
limited : Specs
limited = record { across = record { mode = AtMost; size = pos 100 }; down = record { mode = AtMost; size = pos 100 } }

limit_is_filled : all_sides (relative_course (new_facts wrap wrap) limited (map child wrapped)) ≡ Some (rect 0 0 60 10) ∷ Some (rect 90 0 100 20) ∷ Some (rect 40 8 60 12) ∷ []
unfolding wrapped limited view with_rules child rect all_sides match near_side far_side bounded_spec available_to unbounded_spec loose_spec free_near span_of moved_span width_of default_size_of resolve_of clamp_coordinate wrap
limit_is_filled = refl

-- a child between two others: its width is what is left, whatever it wants
between : List Facts
between = view 1 (pos 10) (pos 10) [] ∷ view 2 (pos 10) (pos 10) ((PARENT_RIGHT, 1) ∷ []) ∷ view 0 (pos 5) (pos 5) ((RIGHT_OF, 1) ∷ (LEFT_OF, 2) ∷ (BELOW, 1) ∷ []) ∷ []

fills_what_is_between : all_sides (relative_course (new_facts match match) (reported 100 100) (map child between)) ≡ Some (rect 0 0 10 10) ∷ Some (rect 90 0 100 10) ∷ Some (rect 10 10 90 15) ∷ []
unfolding between reported view with_rules child rect all_sides match near_side far_side bounded_spec available_to unbounded_spec loose_spec free_near span_of moved_span width_of default_size_of resolve_of clamp_coordinate
fills_what_is_between = refl

-- a start form replaces a left one, even if it names no child
starts : List Facts
starts = view 1 (pos 10) (pos 10) ((PARENT_RIGHT, 1) ∷ []) ∷ view 0 (pos 5) (pos 5) ((LEFT_OF, 1) ∷ (START_OF, 7) ∷ []) ∷ []

start_form_wins : all_sides (relative_course (new_facts match match) (reported 100 100) (map child starts)) ≡ Some (rect 90 0 100 10) ∷ Some (rect 0 0 5 5) ∷ []
unfolding starts reported view with_rules child rect all_sides match near_side far_side bounded_spec available_to unbounded_spec loose_spec free_near span_of moved_span width_of default_size_of resolve_of clamp_coordinate
start_form_wins = refl

-- a far side before the near one counts as the near one
turned_around : rect_between (pos 30, pos 20) (pos 0, pos 10) ≡ rect 30 0 30 10
unfolding rect
turned_around = refl

-- two that name each other, and one that only names one of them
tangled : List Link
tangled =
    record { id = 1; rules = record { values = slice_set (replicate 21 0) RIGHT_OF 2 } }
    ∷ record { id = 2; rules = record { values = slice_set (replicate 21 0) END_OF 1 } }
    ∷ record { id = 3; rules = record { values = slice_set (replicate 21 0) ALIGN_RIGHT 1 } }
    ∷ []

leads_to_itself : Reaches (leads Horizontal tangled) 0 0
unfolding tangled leads names
leads_to_itself = Through {b = 1} refl (AtOnce refl)

not_led_to : leads Horizontal tangled 0 2 ≡ false
unfolding tangled leads names
not_led_to = refl

other_axis : leads Vertical tangled 0 1 ≡ false
unfolding tangled leads names
other_axis = refl

-- in whole trees: views by their numbers, all of them plain views below a relative layout
plain : ℕ → Facts → PlainView
plain number facts = record { number = number; class = class.View; facts = facts; text = [] }

group : Forest PlainView → Forest PlainView
group kids = Branch (record { number = 1; class = class.RelativeLayout; facts = new_facts match match; text = [] }) kids Nothing

laid : ℕ → Rect → Laid
laid number rect = record { number = number; rect = rect }

-- a view, one beside it, and one beside the second
three : Facts → Forest PlainView
three second =
    group (Branch (plain 2 (view 1 (pos 20) (pos 10) [])) Nothing
    (Branch (plain 3 second) Nothing (Branch (plain 4 (view 0 (pos 10) (pos 10) ((RIGHT_OF, 2) ∷ []))) Nothing Nothing)))

beside_the_first : Facts
beside_the_first = view 2 (pos 30) (pos 10) ((RIGHT_OF, 1) ∷ [])

all_three_lie_in_a_row :
    full_layout (three beside_the_first) (size 100 100) ≡ laid 1 (rect 0 0 100 100) ∷ laid 2 (rect 0 0 20 10) ∷ laid 3 (rect 20 0 50 10) ∷ laid 4 (rect 50 0 60 10) ∷ []
unfolding three group plain laid beside_the_first size view with_rules rect match near_side far_side bounded_spec available_to unbounded_spec loose_spec free_near span_of moved_span width_of default_size_of resolve_of clamp_coordinate child_spec_of remaining_of
all_three_lie_in_a_row = refl

the_third_lies_beside_the_first :
    full_layout (three (gone beside_the_first)) (size 100 100) ≡ laid 1 (rect 0 0 100 100) ∷ laid 2 (rect 0 0 20 10) ∷ laid 4 (rect 20 0 30 10) ∷ []
unfolding three group plain laid beside_the_first gone size view with_rules rect match near_side far_side bounded_spec available_to unbounded_spec loose_spec free_near span_of moved_span width_of default_size_of resolve_of clamp_coordinate child_spec_of remaining_of
the_third_lies_beside_the_first = refl

-- three views below a relative layout, of which the first names the second, the second the first and the third
-- the first on one axis
entangled : ℕ → ℕ → ℕ → Forest PlainView
entangled first second third =
    group (Branch (plain 2 (view 1 (pos 5) (pos 5) ((first, 2) ∷ []))) Nothing
    (Branch (plain 3 (view 2 (pos 5) (pos 5) ((second, 1) ∷ []))) Nothing (Branch (plain 4 (view 3 (pos 5) (pos 5) ((third, 1) ∷ []))) Nothing Nothing)))

-- a pair that name each other are reported; one that only names one of them is no member
a_pair_is_reported : first_cycle member.View (entangled RIGHT_OF ALIGN_LEFT END_OF) ≡ Some (record { number = 18; reason = Cycle false (member.View 2 ∷ member.View 3 ∷ []) })
unfolding entangled group plain view with_rules match leads names
a_pair_is_reported = refl

the_other_axis_is_reported : first_cycle member.View (entangled BELOW ALIGN_TOP RIGHT_OF) ≡ Some (record { number = 18; reason = Cycle true (member.View 2 ∷ member.View 3 ∷ []) })
unfolding entangled group plain view with_rules match leads names
the_other_axis_is_reported = refl

-- names on two axes make no circle
no_circle_is_reported : first_cycle member.View (entangled RIGHT_OF BELOW END_OF) ≡ None
unfolding entangled group plain view with_rules match leads names
no_circle_is_reported = refl

-- three in a circle are all members
all_three : Forest PlainView
all_three =
    group (Branch (plain 2 (view 1 (pos 5) (pos 5) ((RIGHT_OF, 2) ∷ []))) Nothing
    (Branch (plain 3 (view 2 (pos 5) (pos 5) ((RIGHT_OF, 3) ∷ []))) Nothing (Branch (plain 4 (view 3 (pos 5) (pos 5) ((RIGHT_OF, 1) ∷ []))) Nothing Nothing)))

three_are_reported : first_cycle member.View all_three ≡ Some (record { number = 18; reason = Cycle false (member.View 2 ∷ member.View 3 ∷ member.View 4 ∷ []) })
unfolding all_three group plain view with_rules match leads names
three_are_reported = refl
