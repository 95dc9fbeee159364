-- Worked edits, by computation: what the definitions make of a small scene.
use Rattle.std.specs.Prelude.{◌≡◌, ℕ, pos, refl, List, [], ◌∷◌, Some, None, Ok, Err, true, false, replicate, slice_set}
use Rattle.geom_core.specs.declared.color.Argb.{Argb}
use Rattle.geom_core.specs.declared.geometry.Insets.{Insets}
use Rattle.view_model.specs.declared.facts.Facts.{Facts}
use Rattle.view_model.specs.declared.changes.Act.TheVariants as act
use Rattle.view_model.specs.declared.changes.Change.TheVariants as change
use Rattle.view_model.specs.declared.changes.Flag.TheVariants as flag
use Rattle.view_model.specs.declared.class.Class.TheVariants as class
use Rattle.view_model.specs.declared.visibility.Visibility.TheVariants.{Visible, Invisible, Gone}
use Rattle.view_model.specs.Facts.{new_facts, no_gravity}
use Rattle.view_model.specs.declared.placing.Across.TheVariants as across
use Rattle.view_model.specs.declared.placing.Down.TheVariants as down
use Rattle.view_model.specs.declared.placing.Gravity.{Gravity}
use Rattle.view_model.specs.Forest.{Forest, Nothing, Branch}
use Rattle.view_model.specs.Geometry.{Laid}
use Rattle.view_model.specs.Growth.{growth_refusal}
use Rattle.view_model.specs.PlainTree.{PlainView}
use Rattle.view_model.specs.declared.refusal.Member.TheVariants as member
use Rattle.view_model.specs.Numbers.{cycle}
use Rattle.view_model.specs.declared.verbs.TheConstants.{ABOVE, BELOW, LEFT_OF, RIGHT_OF}
use Rattle.view_model.specs.Refusals.{Cycle, refusal_numbered}
use Rattle.view_model.specs.SiblingRules.{leads, names}
use Rattle.tree_edits.proofs.SceneLaws.{scene}
use Rattle.tree_edits.specs.Asking.{asked_by, excused}
use Rattle.tree_edits.specs.declared.edits.Edit.TheVariants as edit
use Rattle.tree_edits.specs.Editing.{Add, ActOn, Remove, SetText, outcome_of_edit, new_view}
use Rattle.tree_edits.specs.Hiding.{gone_one}
use Rattle.tree_edits.specs.Keeping.{held_after}
use Rattle.tree_edits.specs.Scene.{EditScene}
use Rattle.view_tree.specs.tree.Requests.{forced_one}
use Rattle.view_tree.specs.Rows.{Row}
use Rattle.view_tree.specs.Views.{Views, held_of}

frame : ℕ → PlainView
frame number = new_view number class.FrameLayout (pos 40) (pos 30)

leaf : ℕ → PlainView
leaf number = new_view number class.View (pos 5) (pos 6)

laid : ℕ → ℕ → ℕ → Laid
laid number right bottom = record { number = number; rect = record { left = pos 0; top = pos 0; right = pos right; bottom = pos bottom } }

-- a frame 1 with a frame 2, which has a view 3, and after it a view 4
inner : Forest PlainView
inner = Branch (leaf 3) Nothing Nothing

tree_with : PlainView → Forest PlainView
tree_with second = Branch (frame 1) (Branch second inner (Branch (leaf 4) Nothing Nothing)) Nothing

everywhere : List Laid
everywhere = laid 1 40 30 ∷ laid 2 20 10 ∷ laid 3 5 6 ∷ laid 4 5 6 ∷ []

start : EditScene
start = scene (tree_with (frame 2)) 5 everywhere

-- a new view is the last child, has the next number and no bounds
view_is_added : outcome_of_edit start (Add (Some 2) class.View (pos 7) (pos 8))
    ≡ Ok
    (scene (Branch (frame 1) (Branch (frame 2) (Branch (leaf 3) Nothing (Branch (new_view 5 class.View (pos 7) (pos 8)) Nothing Nothing)) (Branch (leaf 4) Nothing Nothing)) Nothing) 6 everywhere, Some 5)
unfolding start tree_with inner everywhere frame leaf laid growth_refusal
view_is_added = refl

root_is_added : outcome_of_edit (scene Nothing 5 []) (Add None class.View (pos 7) (pos 8)) ≡ Ok (scene (Branch (new_view 5 class.View (pos 7) (pos 8)) Nothing Nothing) 6 [], Some 5)
root_is_added = refl

-- only a group takes a child
view_takes_no_child : outcome_of_edit start (Add (Some 3) class.View (pos 7) (pos 8)) ≡ Err (refusal_numbered 21)
unfolding start tree_with inner everywhere frame leaf laid growth_refusal
view_takes_no_child = refl

-- a view is removed with all below it, and with their bounds
part_is_removed : outcome_of_edit start (Remove 2) ≡ Ok (scene (Branch (frame 1) (Branch (leaf 4) Nothing Nothing) Nothing) 5 (laid 1 40 30 ∷ laid 4 5 6 ∷ []), None)
unfolding start tree_with inner everywhere frame leaf laid
part_is_removed = refl

root_is_removed : outcome_of_edit start (Remove 1) ≡ Ok (scene Nothing 5 [], None)
unfolding start tree_with inner everywhere frame leaf laid
root_is_removed = refl

-- a view that is gone has no bounds from then on, nor has what is below it
gone : EditScene
gone = scene (tree_with (record (frame 2) { facts = record (new_facts (pos 40) (pos 30)) { visibility = Gone } })) 5 (laid 1 40 30 ∷ laid 4 5 6 ∷ [])

gone_lies_nowhere : outcome_of_edit start (ActOn 2 (act.Visible Gone)) ≡ Ok (gone, None)
unfolding start gone tree_with inner everywhere frame leaf laid
gone_lies_nowhere = refl

-- shown again it has no bounds until the next layout
shown_again : outcome_of_edit gone (ActOn 2 (act.Visible Visible)) ≡ Ok (scene (tree_with (frame 2)) 5 (laid 1 40 30 ∷ laid 4 5 6 ∷ []), None)
unfolding gone tree_with inner frame leaf laid
shown_again = refl

-- a view that is not drawn keeps its place
invisible_stays : outcome_of_edit start (ActOn 2 (act.Visible Invisible))
    ≡ Ok (scene (tree_with (record (frame 2) { facts = record (new_facts (pos 40) (pos 30)) { visibility = Invisible } })) 5 everywhere, None)
unfolding start tree_with inner everywhere frame leaf laid
invisible_stays = refl

-- margins replace start and end values
sides : Insets
sides = record { left = pos 1; top = pos 2; right = pos 3; bottom = pos 4 }

started : Facts
started = record (new_facts (pos 40) (pos 30)) { margin_start = Some (pos 8); margin_end = Some (pos 9); padding_start = Some (pos 7) }

margins_drop_start_and_end : outcome_of_edit (scene (Branch (record (frame 1) { facts = started }) Nothing Nothing) 2 []) (ActOn 1 (act.Change (change.Margins sides)))
    ≡ Ok (scene (Branch (record (frame 1) { facts = record (new_facts (pos 40) (pos 30)) { margins = sides; padding_start = Some (pos 7) } }) Nothing Nothing) 2 [], None)
unfolding frame started sides
margins_drop_start_and_end = refl

-- what a class does not have is refused
view_clips_nothing : outcome_of_edit start (ActOn 3 (act.Flag flag.Clip true)) ≡ Err (refusal_numbered 29)
unfolding start tree_with inner everywhere frame leaf laid
view_clips_nothing = refl

frame_does_not_scroll : outcome_of_edit start (ActOn 2 (act.Scroll (pos 3))) ≡ Err (refusal_numbered 29)
unfolding start tree_with inner everywhere frame leaf laid
frame_does_not_scroll = refl

frame_has_no_text : outcome_of_edit start (SetText 2 (65 ∷ [])) ≡ Err (refusal_numbered 29)
unfolding start tree_with inner everywhere frame leaf laid
frame_has_no_text = refl

-- what only a linear layout has
sum_of_a_frame : outcome_of_edit start (ActOn 2 (act.WeightSum 256)) ≡ Err (refusal_numbered 29)
unfolding start tree_with inner everywhere frame leaf laid
sum_of_a_frame = refl

way_of_a_view : outcome_of_edit start (ActOn 3 (act.Orient true)) ≡ Err (refusal_numbered 29)
unfolding start tree_with inner everywhere frame leaf laid
way_of_a_view = refl

gravity_of_the_children_of_a_frame : outcome_of_edit start (ActOn 2 (act.Change (change.Gravity true no_gravity))) ≡ Err (refusal_numbered 29)
unfolding start tree_with inner everywhere frame leaf laid
gravity_of_the_children_of_a_frame = refl

line : Facts → EditScene
line facts = scene (Branch (record (new_view 1 class.LinearLayout (pos 40) (pos 30)) { facts = facts }) Nothing Nothing) 2 []

sum_is_set : outcome_of_edit (line (new_facts (pos 40) (pos 30))) (ActOn 1 (act.WeightSum 256)) ≡ Ok (line (record (new_facts (pos 40) (pos 30)) { weight_sum = 256 }), None)
unfolding line
sum_is_set = refl

way_is_set : outcome_of_edit (line (new_facts (pos 40) (pos 30))) (ActOn 1 (act.Orient true)) ≡ Ok (line (record (new_facts (pos 40) (pos 30)) { vertical = true }), None)
unfolding line
way_is_set = refl

left : Gravity
left = record { given = true; across = across.Left; down = down.Unset }

gravity_of_children_is_set : outcome_of_edit (line (new_facts (pos 40) (pos 30))) (ActOn 1 (act.Change (change.Gravity true left)))
    ≡ Ok (line (record (new_facts (pos 40) (pos 30)) { gravity = left }), None)
unfolding line left
gravity_of_children_is_set = refl

own_gravity_is_set : outcome_of_edit (line (new_facts (pos 40) (pos 30))) (ActOn 1 (act.Change (change.Gravity false left)))
    ≡ Ok (line (record (new_facts (pos 40) (pos 30)) { layout_gravity = left }), None)
unfolding line left
own_gravity_is_set = refl

-- any view has a weight
weight_is_set : outcome_of_edit start (ActOn 2 (act.Change (change.Weight 256)))
    ≡ Ok (scene (tree_with (record (frame 2) { facts = record (new_facts (pos 40) (pos 30)) { weight = 256 } })) 5 everywhere, None)
unfolding start tree_with inner everywhere frame leaf laid
weight_is_set = refl

-- what is kept of a view 7 with a view 8 below it and a view 9 after that: a scroll sets the offset of one view, and
-- requests layout there
rows : Forest Row
rows = let row : ℕ → Row = λ key. record { key = key; view = frame key } in Branch (row 7) (Branch (row 8) Nothing (Branch (row 9) Nothing Nothing)) Nothing

kept : Views → Views
kept views = record views { tree = rows }

scrolled_alone : (views : Views) → held_after (kept views) (edit.Act 7 (act.Scroll (pos 3))) 7 ≡ forced_one (record (held_of views 7) { offset = pos 3 })
unfolding kept rows frame
scrolled_alone views = refl

others_do_not_scroll : (views : Views) → held_after (kept views) (edit.Act 7 (act.Scroll (pos 3))) 8 ≡ held_of views 8
unfolding kept rows frame
others_do_not_scroll views = refl

-- a view that is gone takes those below it out of layout, and no others
gone_takes_kids : (views : Views) → held_after (kept views) (edit.Act 7 (act.Visible Gone)) 8 ≡ gone_one (held_of views 8)
unfolding kept rows frame
gone_takes_kids views = refl

gone_leaves_siblings : (views : Views) → (held_of views 7).state.forced ≡ false → held_after (kept views) (edit.Act 8 (act.Visible Gone)) 9 ≡ held_of views 9
unfolding kept rows frame
gone_leaves_siblings views free = rw free refl

-- a request goes up to the first view that is forced, and to no sibling
request_goes_up : (views : Views) → (held_of views 7).state.forced ≡ false → held_after (kept views) (edit.Act 8 (act.Change (change.Weight 256))) 7 ≡ forced_one (held_of views 7)
unfolding kept rows frame
request_goes_up views free = rw free refl

request_stops : (views : Views) → (held_of views 7).state.forced ≡ true → held_after (kept views) (edit.Act 8 (act.Change (change.Weight 256))) 7 ≡ held_of views 7
unfolding kept rows frame
request_stops views forced = rw forced refl

request_leaves_siblings : (views : Views) → excused (kept views) (edit.Act 8 (act.Change (change.Weight 256))) 9 ≡ false
unfolding kept rows frame
request_leaves_siblings views = refl

-- a removed view requests layout at its parent, and a removed root at no view
removal_asks_parent : (views : Views) → asked_by (kept views) (edit.Remove 8) ≡ 7 ∷ []
unfolding kept rows frame
removal_asks_parent views = refl

removed_root_asks_none : (views : Views) → asked_by (kept views) (edit.Remove 7) ≡ []
unfolding kept rows frame
removed_root_asks_none views = refl

-- layout reads no background
background_is_quiet : (views : Views) (color : Argb) → held_after (kept views) (edit.Act 8 (act.Change (change.Background color))) 8 ≡ held_of views 8
unfolding kept rows frame
background_is_quiet views color = refl

-- a relative layout 1 with views 2 and 3, of which the first is beside the second and above it
tied : Forest PlainView
tied =
    let facts = (leaf 2).facts in
    let rules = slice_set (slice_set (replicate 21 0) RIGHT_OF 102) ABOVE 102 in
    Branch (new_view 1 class.RelativeLayout (pos 40) (pos 30))
    (Branch (record (leaf 2) { facts = record facts { id = 101; rules = record { values = rules } } }) Nothing
    (Branch (record (leaf 3) { facts = record facts { id = 102 } }) Nothing Nothing)) Nothing

-- a rule of the second that names the first is refused on either axis
circle_is_refused : outcome_of_edit (scene tied 4 everywhere) (ActOn 3 (act.Rule LEFT_OF 101)) ≡ Err (record { number = cycle; reason = Cycle false (member.View 2 ∷ member.View 3 ∷ []) })
unfolding tied everywhere leaf laid leads names
circle_is_refused = refl

circle_down_is_refused : outcome_of_edit (scene tied 4 everywhere) (ActOn 3 (act.Rule BELOW 101)) ≡ Err (record { number = cycle; reason = Cycle true (member.View 2 ∷ member.View 3 ∷ []) })
unfolding tied everywhere leaf laid leads names
circle_down_is_refused = refl
