-- Worked layouts of groups that run from right to left, in a window of 100 by 20.
use Rattle.std.proofs.Common.{◌≡◌, ℤ, pos, negsuc, [], ◌∷◌, true, refl}
use Rattle.std.specs.Prelude.{slice_set}
use Rattle.geom_core.specs.Limits.{clamp_coordinate}
use Rattle.geom_core.specs.Spec.{child_spec_of, default_size_of, remaining_of, resolve_of}
use Rattle.geom_core.specs.declared.geometry.Size.{Size}
use Rattle.view_model.proofs.ExampleViews.{view, at}
use Rattle.view_model.specs.declared.facts.Facts.{Facts}
use Rattle.view_model.specs.declared.class.Class.{Class}
use Rattle.view_model.specs.declared.class.Class.TheVariants as class
use Rattle.view_model.specs.declared.placing.Across.TheVariants as across
use Rattle.view_model.specs.declared.placing.Down.TheVariants as down
use Rattle.view_model.specs.declared.verbs.TheConstants.{END_OF}
use Rattle.view_model.specs.Facts.{new_facts}
use Rattle.view_model.specs.Forest.{Forest, Nothing, Branch}
use Rattle.view_model.specs.FrameLayout.{second_spec}
use Rattle.view_model.specs.Layout.{full_layout}
use Rattle.view_model.specs.LinearLayout.{after_share, alignment_on, claim, dim_on, extent, first_dim, first_length, greater, high_margin, high_padding, is_skipped, line_begin, low_margin, low_padding, margins_on, min_on, needed_breadth, padding_on, resolved_breadth, share, size_on, spec_on, used_before, where_even, where_weighted, whole_weight}
use Rattle.view_model.specs.PlainTree.{PlainView}
use Rattle.view_model.specs.RelativeLayout.{available_to, bounded_spec, far_side, free_near, loose_spec, moved_span, near_side, span_of, unbounded_spec, width_of}

match : ℤ
match = negsuc 0

window : Size
window = record { w = pos 100; h = pos 20 }

rtl : Facts → Facts
rtl facts = record facts { rtl = true }

-- a group of this class with two children
group : Class → Facts → Facts → Forest PlainView
group kind first second =
    Branch (view 1 kind (rtl (new_facts match match)))
    (Branch (view 2 class.View (rtl first)) Nothing (Branch (view 3 class.View (rtl second)) Nothing Nothing)) Nothing

a_line_runs_to_the_left :
    full_layout (group class.LinearLayout (new_facts (pos 10) match) (new_facts (pos 20) match)) window
    ≡ at 1 0 0 100 20 ∷ at 2 90 0 100 20 ∷ at 3 70 0 90 20 ∷ []
unfolding match window rtl view group at clamp_coordinate child_spec_of default_size_of remaining_of resolve_of after_share alignment_on claim dim_on extent first_dim first_length greater high_margin high_padding is_skipped line_begin low_margin low_padding margins_on min_on needed_breadth padding_on resolved_breadth share size_on spec_on used_before where_even where_weighted whole_weight
a_line_runs_to_the_left = refl

-- a view without a gravity lies at the start, one at the left there in either direction
lefts : Facts
lefts = record (new_facts (pos 10) (pos 5)) { layout_gravity = record { given = true; across = across.Left; down = down.Unset } }

children_of_a_frame_lie_at_the_right :
    full_layout (group class.FrameLayout (new_facts (pos 10) (pos 5)) lefts) window
    ≡ at 1 0 0 100 20 ∷ at 2 90 0 100 5 ∷ at 3 0 0 10 5 ∷ []
unfolding match window rtl view group at lefts clamp_coordinate child_spec_of default_size_of remaining_of resolve_of second_spec
children_of_a_frame_lie_at_the_right = refl

named : Facts
named = record (new_facts (pos 10) (pos 10)) { id = 1 }

beside : Facts
beside = let facts = new_facts (pos 20) (pos 10) in record facts { rules = record { values = slice_set facts.rules.values END_OF 1 } }

one_after_another_lies_at_its_left :
    full_layout (group class.RelativeLayout named beside) window
    ≡ at 1 0 0 100 20 ∷ at 2 90 0 100 10 ∷ at 3 70 0 90 10 ∷ []
unfolding match window rtl view group at named beside clamp_coordinate child_spec_of default_size_of remaining_of resolve_of near_side far_side bounded_spec available_to unbounded_spec loose_spec free_near span_of moved_span width_of
one_after_another_lies_at_its_left = refl
