-- Which view gets the focus next in small trees.
use Rattle.std.proofs.Common.{◌≡◌, ℕ, pos, List, [], ◌∷◌, Some, None, refl}
use Rattle.geom_core.specs.Rects.{larger_of, meet_of, smaller_of}
use Rattle.geom_core.specs.declared.geometry.Size.{Size}
use Rattle.view_model.proofs.ExampleViews.{view, at}
use Rattle.view_model.specs.Facts.{new_facts}
use Rattle.view_model.specs.Forest.{Forest, Nothing, Branch}
use Rattle.view_model.specs.Geometry.{Laid}
use Rattle.view_model.specs.PlainTree.{PlainView}
use Rattle.view_model.specs.declared.facts.Facts.{Facts}
use Rattle.view_model.specs.declared.answer.Answer.TheVariants.{Yes, Click}
use Rattle.view_model.specs.declared.class.Class.TheVariants as class
use Rattle.view_model.specs.declared.visibility.Visibility.TheVariants.{Invisible}
use Rattle.focus_finder.specs.Focus.{distance_of, next_focus}
use Rattle.focus_finder.specs.declared.side.Side.TheVariants.{Left, Right, Up, Down}

plain : Facts
plain = new_facts (pos 0) (pos 0)

clicking : Facts
clicking = record plain { answer = Click }

button : ℕ → Forest PlainView → Forest PlainView
button number after = Branch (view number class.View clicking) Nothing after

below_root : Facts → Forest PlainView → Forest PlainView
below_root facts below = Branch (view 1 class.FrameLayout facts) below Nothing

-- three views in a row
window : Size
window = record { w = pos 100; h = pos 20 }

three : Forest PlainView
three = below_root plain (button 2 (button 3 (button 4 Nothing)))

in_row : List Laid
in_row = at 1 0 0 100 20 ∷ at 2 0 0 33 20 ∷ at 3 33 0 66 20 ∷ at 4 66 0 100 20 ∷ []

the_next_view_to_the_right : next_focus three in_row window 2 Right ≡ Some 3
unfolding larger_of smaller_of meet_of distance_of window three in_row below_root button view at plain clicking
the_next_view_to_the_right = refl

no_view_to_the_left : next_focus three in_row window 2 Left ≡ None
unfolding larger_of smaller_of meet_of distance_of window three in_row below_root button view at plain clicking
no_view_to_the_left = refl

the_nearer_one_to_the_left : next_focus three in_row window 4 Left ≡ Some 3
unfolding larger_of smaller_of meet_of distance_of window three in_row below_root button view at plain clicking
the_nearer_one_to_the_left = refl

no_view_above : next_focus three in_row window 3 Up ≡ None
unfolding larger_of smaller_of meet_of distance_of window three in_row below_root button view at plain clicking
no_view_above = refl

from_a_view_that_takes_no_clicks : next_focus three in_row window 1 Right ≡ None
unfolding larger_of smaller_of meet_of distance_of window three in_row below_root button view at plain clicking
from_a_view_that_takes_no_clicks = refl

-- a far view in the beam, and a near one outside it
apart : List Laid
apart = at 1 0 0 100 20 ∷ at 2 0 0 10 10 ∷ at 3 12 12 20 20 ∷ at 4 90 0 100 20 ∷ []

-- two views at equal distances
alike : List Laid
alike = at 1 0 0 100 20 ∷ at 2 0 5 10 15 ∷ at 3 20 0 30 10 ∷ at 4 20 10 30 20 ∷ []

-- the second view lies outside the window, the third one overlaps the first
outside : List Laid
outside = at 1 0 0 100 20 ∷ at 2 40 5 50 15 ∷ at 3 100 0 120 20 ∷ at 4 45 0 60 20 ∷ []

-- each view lies around the one before it
nested : List Laid
nested = at 1 0 0 100 20 ∷ at 2 40 5 50 15 ∷ at 3 30 4 60 16 ∷ at 4 20 3 70 17 ∷ []

the_beam_comes_before_the_distance : next_focus three apart window 2 Right ≡ Some 4
unfolding larger_of smaller_of meet_of distance_of window three apart below_root button view at plain clicking
the_beam_comes_before_the_distance = refl

outside_the_beam_there_is_focus_too : next_focus three apart window 2 Down ≡ Some 3
unfolding larger_of smaller_of meet_of distance_of window three apart below_root button view at plain clicking
outside_the_beam_there_is_focus_too = refl

the_first_of_two_at_equal_distances : next_focus three alike window 2 Right ≡ Some 3
unfolding larger_of smaller_of meet_of distance_of window three alike below_root button view at plain clicking
the_first_of_two_at_equal_distances = refl

what_is_not_seen_gets_no_focus : next_focus three outside window 2 Right ≡ Some 4
unfolding larger_of smaller_of meet_of distance_of window three outside below_root button view at plain clicking
what_is_not_seen_gets_no_focus = refl

nor_does_a_view_below_an_invisible_one : next_focus (below_root (record plain { visibility = Invisible }) (button 2 (button 3 (button 4 Nothing)))) in_row window 2 Right ≡ None
unfolding larger_of smaller_of meet_of distance_of window three in_row below_root button view at plain clicking
nor_does_a_view_below_an_invisible_one = refl

a_scroll_view_gets_no_focus : next_focus (below_root plain (button 2 (Branch (view 3 class.ScrollView clicking) Nothing (button 4 Nothing)))) in_row window 2 Right ≡ Some 4
unfolding larger_of smaller_of meet_of distance_of window three in_row below_root button view at plain clicking
a_scroll_view_gets_no_focus = refl

a_view_that_answers_yes_gets_no_focus : next_focus (below_root plain (button 2 (Branch (view 3 class.View (record plain { answer = Yes })) Nothing (button 4 Nothing)))) in_row window 2 Right ≡ Some 4
unfolding larger_of smaller_of meet_of distance_of window three in_row below_root button view at plain clicking
a_view_that_answers_yes_gets_no_focus = refl

a_view_around_is_on_no_side : next_focus three nested window 3 Right ≡ None
unfolding larger_of smaller_of meet_of distance_of window three nested below_root button view at plain clicking
a_view_around_is_on_no_side = refl
