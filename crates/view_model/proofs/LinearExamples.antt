-- Worked linear layouts, by computation.
use Rattle.std.specs.Prelude.{◌≡◌, ℕ, ℤ, pos, negsuc, refl, true, false, Bool, [], ◌∷◌}
use Rattle.geom_core.specs.declared.geometry.Size.{Size}
use Rattle.geom_core.specs.Limits.{clamp_coordinate}
use Rattle.geom_core.specs.Spec.{child_spec_of, default_size_of, remaining_of, resolve_of}
use Rattle.view_model.proofs.ExampleViews.{view, frame, at}
use Rattle.view_model.specs.declared.class.Class.TheVariants as class
use Rattle.view_model.specs.declared.placing.Across.TheVariants as across
use Rattle.view_model.specs.declared.placing.Down.TheVariants as down
use Rattle.view_model.specs.Facts.{new_facts}
use Rattle.view_model.specs.Forest.{Nothing, Branch}
use Rattle.view_model.specs.FrameLayout.{second_spec}
use Rattle.view_model.specs.Layout.{full_layout, measure_calls, total_size}
use Rattle.view_model.specs.LinearLayout.{after_share, alignment_on, claim, dim_on, extent, first_dim, first_length, greater, high_margin, high_padding, is_skipped, line_begin, low_margin, low_padding, margins_on, min_on, exactly, needed_breadth, padding_on, resolved_breadth, share, size_on, spec_on, used_before, where_even, where_weighted, whole_weight}
use Rattle.view_model.specs.Measuring.{Specs}
use Rattle.view_model.specs.PlainTree.{PlainView}

match : ℤ
match = negsuc 0

wrap : ℤ
wrap = negsuc 1

-- a linear layout of these dimensions
line : ℕ → Bool → ℤ → ℤ → PlainView
line number vertical width height = view number class.LinearLayout (record (new_facts width height) { vertical = vertical })

-- one that runs from left to right, is as large as its parent, and counts weights against this sum
summed : ℕ → ℕ → PlainView
summed number sum = view number class.LinearLayout (record (new_facts match match) { weight_sum = sum })

-- a plain view with a weight
leaf : ℕ → ℤ → ℤ → ℕ → PlainView
leaf number width height weight = view number class.View (record (new_facts width height) { weight = weight })

window : ℕ → ℕ → Size
window w h = record { w = pos w; h = pos h }

three_equal_weights_share_a_hundred :
    full_layout (Branch (line 1 false match match) (Branch (leaf 2 (pos 0) match 256) Nothing (Branch (leaf 3 (pos 0) match 256) Nothing (Branch (leaf 4 (pos 0) match 256) Nothing Nothing))) Nothing) (window 100 20)
    ≡ at 1 0 0 100 20 ∷ at 2 0 0 33 20 ∷ at 3 33 0 66 20 ∷ at 4 66 0 100 20 ∷ []
unfolding match wrap view line summed leaf frame at window clamp_coordinate child_spec_of default_size_of remaining_of resolve_of second_spec after_share alignment_on claim dim_on extent first_dim first_length greater high_margin high_padding is_skipped line_begin low_margin low_padding margins_on min_on needed_breadth padding_on resolved_breadth share size_on spec_on used_before where_even where_weighted whole_weight
three_equal_weights_share_a_hundred = refl

a_greater_sum_leaves_room :
    full_layout (Branch (summed 1 1024) (Branch (leaf 2 (pos 0) match 256) Nothing (Branch (leaf 3 (pos 0) match 256) Nothing Nothing)) Nothing) (window 100 20)
    ≡ at 1 0 0 100 20 ∷ at 2 0 0 25 20 ∷ at 3 25 0 50 20 ∷ []
unfolding match wrap view line summed leaf frame at window clamp_coordinate child_spec_of default_size_of remaining_of resolve_of second_spec after_share alignment_on claim dim_on extent first_dim first_length greater high_margin high_padding is_skipped line_begin low_margin low_padding margins_on min_on needed_breadth padding_on resolved_breadth share size_on spec_on used_before where_even where_weighted whole_weight
a_greater_sum_leaves_room = refl

a_smaller_sum_gives_all_to_the_first :
    full_layout (Branch (summed 1 256) (Branch (leaf 2 (pos 0) match 256) Nothing (Branch (leaf 3 (pos 0) match 256) Nothing Nothing)) Nothing) (window 100 20)
    ≡ at 1 0 0 100 20 ∷ at 2 0 0 100 20 ∷ at 3 100 0 100 20 ∷ []
unfolding match wrap view line summed leaf frame at window clamp_coordinate child_spec_of default_size_of remaining_of resolve_of second_spec after_share alignment_on claim dim_on extent first_dim first_length greater high_margin high_padding is_skipped line_begin low_margin low_padding margins_on min_on needed_breadth padding_on resolved_breadth share size_on spec_on used_before where_even where_weighted whole_weight
a_smaller_sum_gives_all_to_the_first = refl

too_little_room_is_shared_too :
    full_layout (Branch (line 1 true match match) (Branch (leaf 2 match (pos 10) 768) Nothing (Branch (leaf 3 match (pos 50) 256) Nothing Nothing)) Nothing) (window 10 40)
    ≡ at 1 0 0 10 40 ∷ at 2 0 0 10 0 ∷ at 3 0 0 10 45 ∷ []
unfolding match wrap view line summed leaf frame at window clamp_coordinate child_spec_of default_size_of remaining_of resolve_of second_spec after_share alignment_on claim dim_on extent first_dim first_length greater high_margin high_padding is_skipped line_begin low_margin low_padding margins_on min_on needed_breadth padding_on resolved_breadth share size_on spec_on used_before where_even where_weighted whole_weight
too_little_room_is_shared_too = refl

all_are_as_wide_as_the_widest :
    full_layout (Branch (line 1 true wrap wrap) (Branch (frame 2 match (pos 10)) Nothing (Branch (frame 3 (pos 30) (pos 10)) Nothing (Branch (frame 4 match (pos 20)) Nothing Nothing))) Nothing) (window 100 100)
    ≡ at 1 0 0 30 40 ∷ at 2 0 0 30 10 ∷ at 3 0 10 30 20 ∷ at 4 0 20 30 40 ∷ []
unfolding match wrap view line summed leaf frame at window clamp_coordinate child_spec_of default_size_of remaining_of resolve_of second_spec after_share alignment_on claim dim_on extent first_dim first_length greater high_margin high_padding is_skipped line_begin low_margin low_padding margins_on min_on needed_breadth padding_on resolved_breadth share size_on spec_on used_before where_even where_weighted whole_weight
all_are_as_wide_as_the_widest = refl

-- the group in the line gets its own width only in the uniform pass, and with it a child that matches it
a_child_gets_its_width_in_the_last_pass :
    full_layout (Branch (line 1 true wrap wrap) (Branch (frame 2 match (pos 10)) (Branch (leaf 3 (pos 30) (pos 10) 0) Nothing (Branch (frame 4 match (pos 10)) Nothing Nothing)) Nothing) Nothing)
    (window 100 100)
    ≡ at 1 0 0 30 10 ∷ at 2 0 0 30 10 ∷ at 3 0 0 30 10 ∷ at 4 0 0 30 10 ∷ []
unfolding match wrap view line summed leaf frame at window clamp_coordinate child_spec_of default_size_of remaining_of resolve_of second_spec after_share alignment_on claim dim_on extent first_dim first_length greater high_margin high_padding is_skipped line_begin low_margin low_padding margins_on min_on needed_breadth padding_on resolved_breadth share size_on spec_on used_before where_even where_weighted whole_weight
a_child_gets_its_width_in_the_last_pass = refl

-- the group's gravity places the line from its end, or in the middle; a child's own gravity overrides the group's
low_end : PlainView
low_end = view 1 class.LinearLayout
    (record (new_facts match match) { vertical = true; gravity = record { given = true; across = across.Right; down = down.Bottom } })

centered_leaf : PlainView
centered_leaf = view 3 class.View (record (new_facts (pos 4) (pos 10)) { layout_gravity = record { given = true; across = across.Center; down = down.Unset } })

the_line_ends_at_the_bottom :
    full_layout (Branch low_end (Branch (leaf 2 (pos 4) (pos 10) 0) Nothing (Branch centered_leaf Nothing Nothing)) Nothing) (window 20 50)
    ≡ at 1 0 0 20 50 ∷ at 2 16 30 20 40 ∷ at 3 8 40 12 50 ∷ []
unfolding match wrap view line summed leaf frame at window clamp_coordinate child_spec_of default_size_of remaining_of resolve_of second_spec after_share alignment_on claim dim_on extent first_dim first_length greater high_margin high_padding is_skipped line_begin low_margin low_padding margins_on min_on needed_breadth padding_on resolved_breadth share size_on spec_on used_before where_even where_weighted whole_weight low_end centered_leaf
the_line_ends_at_the_bottom = refl

middle : PlainView
middle = view 1 class.LinearLayout
    (record (new_facts match match) { gravity = record { given = true; across = across.Center; down = down.Unset }; padding = record { left = pos 2; top = pos 3; right = pos 4; bottom = pos 5 } })

margined : ℕ → PlainView
margined number = view number class.View (record (new_facts (pos 10) (pos 10)) { margins = record { left = pos 1; top = pos 2; right = negsuc 2; bottom = pos 0 } })

the_line_lies_in_the_middle :
    full_layout (Branch middle (Branch (margined 2) Nothing (Branch (margined 3) Nothing Nothing)) Nothing) (window 50 50)
    ≡ at 1 0 0 50 50 ∷ at 2 17 5 27 15 ∷ at 3 25 5 35 15 ∷ []
unfolding match wrap view line summed leaf frame at window clamp_coordinate child_spec_of default_size_of remaining_of resolve_of second_spec after_share alignment_on claim dim_on extent first_dim first_length greater high_margin high_padding is_skipped line_begin low_margin low_padding margins_on min_on needed_breadth padding_on resolved_breadth share size_on spec_on used_before where_even where_weighted whole_weight middle margined
the_line_lies_in_the_middle = refl

-- a child with a weight is measured in the first pass and in the weight pass; one that the first pass leaves out, once
reported : Specs
reported = record { across = exactly (pos 100); down = exactly (pos 20) }

each_pass_counts : measure_calls (line 1 false match match) (Branch (leaf 2 (pos 10) match 256) Nothing (Branch (leaf 3 (pos 0) match 256) Nothing (Branch (leaf 4 (pos 5) match 0) Nothing Nothing))) reported ≡ 5
unfolding match wrap view line summed leaf frame at window clamp_coordinate child_spec_of default_size_of remaining_of resolve_of second_spec after_share alignment_on claim dim_on extent first_dim first_length greater high_margin high_padding is_skipped line_begin low_margin low_padding margins_on min_on needed_breadth padding_on resolved_breadth share size_on spec_on used_before where_even where_weighted whole_weight reported
each_pass_counts = refl

its_children_take_all : total_size (line 1 false match match) (Branch (leaf 2 (pos 10) match 256) Nothing (Branch (leaf 3 (pos 0) match 256) Nothing (Branch (leaf 4 (pos 5) match 0) Nothing Nothing))) reported ≡ pos 100
unfolding match wrap view line summed leaf frame at window clamp_coordinate child_spec_of default_size_of remaining_of resolve_of second_spec after_share alignment_on claim dim_on extent first_dim first_length greater high_margin high_padding is_skipped line_begin low_margin low_padding margins_on min_on needed_breadth padding_on resolved_breadth share size_on spec_on used_before where_even where_weighted whole_weight reported
its_children_take_all = refl
