-- Worked texts in cells, by computation.
use Rattle.std.specs.Prelude.{◌≡◌, ℕ, ℤ, pos, negsuc, refl, List, [], ◌∷◌, codes, Some, None}
use Rattle.geom_core.specs.Limits.{clamp_coordinate}
use Rattle.geom_core.specs.Spec.{child_spec_of, default_size_of, remaining_of, resolve_of}
use Rattle.view_model.proofs.ExampleViews.{at}
use Rattle.view_model.specs.declared.class.Class.TheVariants as class
use Rattle.view_model.specs.CellText.{cell_in, cell_of, count_of_lines, lines_for, segments_of, widest_of}
use Rattle.view_model.specs.Facts.{new_facts}
use Rattle.view_model.specs.Forest.{Forest, Nothing, Branch}
use Rattle.view_model.specs.Layout.{full_layout}
use Rattle.view_model.specs.LinearLayout.{after_share, alignment_on, claim, dim_on, extent, first_dim, first_length, greater, high_margin, high_padding, is_skipped, line_begin, low_margin, low_padding, margins_on, min_on, needed_breadth, padding_on, resolved_breadth, share, size_on, spec_on, used_before, where_even, where_weighted, whole_weight}
use Rattle.view_model.specs.PlainTree.{PlainView}
use Rattle.view_model.specs.TextView.{cells_in, text_height, text_width}

an_empty_text_is_one_empty_segment : segments_of [] ≡ [] ∷ []
an_empty_text_is_one_empty_segment = refl

a_newline_at_the_end_begins_a_segment : segments_of (97 ∷ 10 ∷ []) ≡ (97 ∷ []) ∷ [] ∷ []
a_newline_at_the_end_begins_a_segment = refl

newlines_part_segments : segments_of (10 ∷ 97 ∷ 98 ∷ 10 ∷ 10 ∷ 99 ∷ []) ≡ [] ∷ (97 ∷ 98 ∷ []) ∷ [] ∷ (99 ∷ []) ∷ []
newlines_part_segments = refl

the_longest_segment_counts : widest_of (codes "Inbox") ≡ 5
the_longest_segment_counts = refl

an_empty_text_takes_a_line : count_of_lines 4 [] ≡ 1
unfolding lines_for
an_empty_text_takes_a_line = refl

-- 23 characters in lines of 50 and of 12 cells, and 61 of each
a_segment_takes_what_it_needs : count_of_lines 50 (codes "Meeting moved to Friday") ≡ 1
unfolding lines_for
a_segment_takes_what_it_needs = refl

a_segment_breaks_where_a_line_is_full : count_of_lines 12 (codes "Meeting moved to Friday") ≡ 2
unfolding lines_for
a_segment_breaks_where_a_line_is_full = refl

a_segment_that_fits_takes_one_line : count_of_lines 5 (codes "Inbox") ≡ 1
unfolding lines_for
a_segment_that_fits_takes_one_line = refl

-- `ab` on its line, `c` on the next, and then `d` after the newline
a_cell_has_its_character : cell_of 2 (97 ∷ 98 ∷ 99 ∷ 10 ∷ 100 ∷ []) 1 0 ≡ Some 99
unfolding lines_for cell_in
a_cell_has_its_character = refl

a_cell_after_a_newline : cell_of 2 (97 ∷ 98 ∷ 99 ∷ 10 ∷ 100 ∷ []) 2 0 ≡ Some 100
unfolding lines_for cell_in
a_cell_after_a_newline = refl

a_cell_without_a_character : cell_of 2 (97 ∷ 98 ∷ 99 ∷ 10 ∷ 100 ∷ []) 1 1 ≡ None
unfolding lines_for cell_in
a_cell_without_a_character = refl

a_place_beyond_the_line : cell_of 2 (97 ∷ 98 ∷ 99 ∷ 10 ∷ 100 ∷ []) 0 2 ≡ None
unfolding lines_for cell_in
a_place_beyond_the_line = refl

-- Worked row of a line of texts under weights: `ab` in a line that wraps it, beside `x` and then `xyz`.
match : ℤ
match = negsuc 0

wrap : ℤ
wrap = negsuc 1

line : ℕ → ℤ → ℤ → ℕ → PlainView
line number width height weight = record { number = number; class = class.LinearLayout; facts = record (new_facts width height) { weight = weight }; text = [] }

written : ℕ → ℤ → ℤ → ℕ → List ℕ → PlainView
written number width height weight text = record { number = number; class = class.TextView; facts = record (new_facts width height) { weight = weight }; text = text }

beside : List ℕ → Forest PlainView
beside text =
    Branch (line 1 match match 0)
    (Branch (line 2 wrap match 256) (Branch (written 3 (pos 0) match 256 (codes "ab")) Nothing Nothing)
    (Branch (written 4 wrap match 0 text) Nothing Nothing)) Nothing

a_short_text_leaves_room : full_layout (beside (codes "x")) (record { w = pos 100; h = pos 20 }) ≡ at 1 0 0 100 20 ∷ at 2 0 0 94 20 ∷ at 3 0 0 94 20 ∷ at 4 94 0 100 20 ∷ []
unfolding match wrap line written at beside text_width text_height cells_in lines_for clamp_coordinate child_spec_of default_size_of remaining_of resolve_of after_share alignment_on claim dim_on extent first_dim first_length greater high_margin high_padding is_skipped line_begin low_margin low_padding margins_on min_on needed_breadth padding_on resolved_breadth share size_on spec_on used_before where_even where_weighted whole_weight
a_short_text_leaves_room = refl

a_longer_text_takes_it : full_layout (beside (codes "xyz")) (record { w = pos 100; h = pos 20 }) ≡ at 1 0 0 100 20 ∷ at 2 0 0 82 20 ∷ at 3 0 0 82 20 ∷ at 4 82 0 100 20 ∷ []
unfolding match wrap line written at beside text_width text_height cells_in lines_for clamp_coordinate child_spec_of default_size_of remaining_of resolve_of after_share alignment_on claim dim_on extent first_dim first_length greater high_margin high_padding is_skipped line_begin low_margin low_padding margins_on min_on needed_breadth padding_on resolved_breadth share size_on spec_on used_before where_even where_weighted whole_weight
a_longer_text_takes_it = refl
