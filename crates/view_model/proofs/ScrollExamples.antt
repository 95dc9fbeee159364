-- Worked scroll views, by computation.
use Rattle.std.specs.Prelude.{◌≡◌, ℕ, ℤ, pos, negsuc, refl, true, [], ◌∷◌, Some, None}
use Rattle.geom_core.specs.declared.geometry.Size.{Size}
use Rattle.geom_core.specs.declared.measuring.Mode.TheVariants.{Unspecified, Exactly, AtMost}
use Rattle.geom_core.specs.Limits.{clamp_coordinate}
use Rattle.geom_core.specs.Spec.{child_spec_of, default_size_of, remaining_of, resolve_of}
use Rattle.view_model.proofs.ExampleViews.{view, at}
use Rattle.view_model.specs.declared.facts.Facts.{Facts}
use Rattle.view_model.specs.declared.class.Class.TheVariants as class
use Rattle.view_model.specs.Facts.{new_facts}
use Rattle.view_model.specs.Forest.{Forest, Nothing, Branch}
use Rattle.view_model.specs.FrameLayout.{second_spec}
use Rattle.view_model.specs.Layout.{full_layout}
use Rattle.view_model.specs.LinearLayout.{after_share, alignment_on, claim, dim_on, extent, first_dim, first_length, greater, high_margin, high_padding, is_skipped, line_begin, low_margin, low_padding, margins_on, min_on, needed_breadth, padding_on, resolved_breadth, share, size_on, spec_on, used_before, where_even, where_weighted, whole_weight}
use Rattle.view_model.specs.Measuring.{Measured, Specs}
use Rattle.view_model.specs.Offsets.{ranged}
use Rattle.view_model.specs.PlainTree.{PlainView}
use Rattle.view_model.specs.ScrollView.{is_short, offset_within, scroll_ask, scroll_range, scroll_rule, scroll_turns}

match : ℤ
match = negsuc 0

wrap : ℤ
wrap = negsuc 1

size : ℕ → ℕ → Size
size w h = record { w = pos w; h = pos h }

-- a group that is as large as its parent, with 5 pixels of padding at the top and 3 at the bottom
padded : Facts
padded = record (new_facts match match) { padding = record { left = pos 0; top = pos 5; right = pos 0; bottom = pos 3 } }

-- one whose child fills it
filled : Facts
filled = record padded { fill = true }

-- a child as wide as its group and as high as its content, with 2 pixels of margin at the bottom, of this height
child : ℕ → Measured
child height = record {
  facts = record (new_facts match wrap) { margins = record { left = pos 0; top = pos 0; right = pos 0; bottom = pos 2 } };
  size = size 50 height;
}

-- the specs in a window of 50 by 40
whole : Specs
whole = record { across = record { mode = Exactly; size = pos 50 }; down = record { mode = Exactly; size = pos 40 } }

any_height_is_asked_first :
    scroll_ask padded whole [] [] (child 0) ≡ Some (record { across = record { mode = Exactly; size = pos 50 }; down = record { mode = Unspecified; size = pos 30 } })
unfolding match wrap size padded child whole child_spec_of remaining_of
any_height_is_asked_first = refl

own_height_of_the_child_is_not_read :
    scroll_ask padded whole [] [] (record { facts = new_facts match (pos 100); size = size 0 0 })
    ≡ Some (record { across = record { mode = Exactly; size = pos 50 }; down = record { mode = Unspecified; size = pos 32 } })
unfolding match wrap size padded child whole child_spec_of remaining_of
own_height_of_the_child_is_not_read = refl

too_short_a_child_fills :
    scroll_ask filled whole ((child 29 ∷ []) ∷ []) [] (child 29)
    ≡ Some (record { across = record { mode = Exactly; size = pos 50 }; down = record { mode = Exactly; size = pos 30 } })
unfolding match wrap size padded filled child whole child_spec_of remaining_of resolve_of is_short
too_short_a_child_fills = refl

a_child_of_that_height_stays : scroll_ask filled whole ((child 30 ∷ []) ∷ []) [] (child 30) ≡ None
unfolding match wrap size padded filled child whole child_spec_of remaining_of resolve_of is_short
a_child_of_that_height_stays = refl

a_child_is_asked_again_where_it_is_to_fill : scroll_turns filled whole ((child 29 ∷ []) ∷ []) ≡ true
unfolding match wrap size padded filled child whole
a_child_is_asked_again_where_it_is_to_fill = refl

its_size_is_that_of_the_first_phase : (scroll_rule filled (record whole { down = record { mode = AtMost; size = pos 40 } })).size ((child 20 ∷ []) ∷ (child 22 ∷ []) ∷ []) ≡ size 50 30
unfolding match wrap size padded filled child whole child_spec_of remaining_of resolve_of is_short
its_size_is_that_of_the_first_phase = refl

a_hundred_in_forty_moves_by_sixty : scroll_range (new_facts match match) (size 50 40) (Some (size 50 100)) ≡ pos 60
unfolding match wrap size
a_hundred_in_forty_moves_by_sixty = refl

padding_adds_to_the_range : scroll_range padded (size 50 40) (Some (size 50 100)) ≡ pos 68
unfolding match wrap size padded
padding_adds_to_the_range = refl

a_lower_child_does_not_move : scroll_range padded (size 50 40) (Some (size 50 20)) ≡ pos 0
unfolding match wrap size padded
a_lower_child_does_not_move = refl

without_a_child : scroll_range padded (size 50 40) None ≡ pos 0
without_a_child = refl

sixty_in_a_range_of_thirty : offset_within (pos 30) (pos 60) ≡ pos 30
unfolding offset_within
sixty_in_a_range_of_thirty = refl

-- a scroll view as large as its parent, scrolled by 60 pixels, with a line of one view of this height in it
scrolling : ℕ → ℕ → Forest PlainView
scrolling offset height =
    Branch (view 1 class.ScrollView (record (new_facts match match) { offset = pos offset }))
    (Branch (view 2 class.LinearLayout (record (new_facts match wrap) { vertical = true }))
    (Branch (view 3 class.View (new_facts match (pos height))) Nothing Nothing) Nothing) Nothing

a_child_is_higher_than_its_group : full_layout (scrolling 60 100) (size 50 40) ≡ at 1 0 0 50 40 ∷ at 2 0 0 50 100 ∷ at 3 0 0 50 100 ∷ []
unfolding match wrap size view scrolling at clamp_coordinate child_spec_of default_size_of remaining_of resolve_of second_spec is_short after_share alignment_on claim dim_on extent first_dim first_length greater high_margin high_padding is_skipped line_begin low_margin low_padding margins_on min_on needed_breadth padding_on resolved_breadth share size_on spec_on used_before where_even where_weighted whole_weight
a_child_is_higher_than_its_group = refl

an_offset_within_its_range_stays : ranged (full_layout (scrolling 60 100) (size 50 40)) (scrolling 60 100) ≡ scrolling 60 100
unfolding match wrap size view scrolling clamp_coordinate child_spec_of default_size_of remaining_of resolve_of second_spec is_short after_share alignment_on claim dim_on extent first_dim first_length greater high_margin high_padding is_skipped line_begin low_margin low_padding margins_on min_on needed_breadth padding_on resolved_breadth share size_on spec_on used_before where_even where_weighted whole_weight offset_within
an_offset_within_its_range_stays = refl

an_offset_comes_into_its_range : ranged (full_layout (scrolling 60 70) (size 50 40)) (scrolling 60 70) ≡ scrolling 30 70
unfolding match wrap size view scrolling clamp_coordinate child_spec_of default_size_of remaining_of resolve_of second_spec is_short after_share alignment_on claim dim_on extent first_dim first_length greater high_margin high_padding is_skipped line_begin low_margin low_padding margins_on min_on needed_breadth padding_on resolved_breadth share size_on spec_on used_before where_even where_weighted whole_weight offset_within
an_offset_comes_into_its_range = refl

where_nothing_lies_all_offsets_stay : ranged [] (scrolling 60 70) ≡ scrolling 60 70
unfolding match wrap view scrolling
where_nothing_lies_all_offsets_stay = refl
