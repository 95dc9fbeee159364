-- Worked rows of why a sapling is refused.
use Rattle.std.specs.Prelude.{◌≡◌, ℕ, true, false, pos, [], Option, Some, None, refl}
use Rattle.view_model.specs.declared.class.Class.{Class}
use Rattle.view_model.specs.declared.class.Class.TheVariants.{View, FrameLayout, ScrollView}
use Rattle.view_model.specs.declared.refusals.TheConstants.{DEPTH, NOT_GROUP, SCROLL_FULL, VIEWS}
use Rattle.view_model.specs.Facts.{new_facts}
use Rattle.view_model.specs.Forest.{Nothing, Branch}
use Rattle.view_model.specs.Grafts.{graft_refusal, refusal_below}
use Rattle.view_model.specs.Growth.{growth_refusal}
use Rattle.view_model.specs.PlainTree.{PlainView, single}
use Rattle.view_model.specs.Refusals.{PlainRefusal, Element}
use Rattle.view_model.specs.Sprouts.{Seed}

abbrev seed : Class → Seed
seed class = record { class = class; facts = new_facts (pos 0) (pos 0); text = [] }

abbrev view : ℕ → Class → PlainView
view number class = record { number = number; class = class; facts = new_facts (pos 0) (pos 0); text = [] }

abbrev refused : ℕ → ℕ → Option PlainRefusal
refused number element = Some (record { number = number; reason = Element element })

-- below a view that is no group the first element is refused
below_a_view : graft_refusal (single (view 1 View)) (Some 1) (Branch (seed View) Nothing Nothing) ≡ refused NOT_GROUP 1
unfolding growth_refusal
below_a_view = refl

-- inside an element that is no group the inner one is refused, also if the sapling becomes the root
inside_a_view : graft_refusal Nothing None (Branch (seed View) (Branch (seed View) Nothing Nothing) Nothing) ≡ refused NOT_GROUP 2
unfolding growth_refusal
inside_a_view = refl

-- two levels below a view that is 31 deep
too_deep : refusal_below FrameLayout false 31 31 1 (Branch (seed FrameLayout) (Branch (seed View) Nothing Nothing) Nothing) ≡ refused DEPTH 2
unfolding growth_refusal
too_deep = refl

-- two views where there is room for one
too_many : refusal_below FrameLayout false 1 4095 1 (Branch (seed View) Nothing (Branch (seed View) Nothing Nothing)) ≡ refused VIEWS 2
unfolding growth_refusal
too_many = refl

-- an earlier element decides, whatever later ones would be refused for
first_decides : refusal_below FrameLayout false 1 4096 1 (Branch (seed View) (Branch (seed View) Nothing Nothing) Nothing) ≡ refused VIEWS 1
unfolding growth_refusal
first_decides = refl

-- one that is accepted
comes : graft_refusal (single (view 1 FrameLayout)) (Some 1) (Branch (seed FrameLayout) (Branch (seed View) Nothing Nothing) Nothing) ≡ None
unfolding growth_refusal
comes = refl

-- a second child of a scroll view is refused, whatever is below the first
full_inside : graft_refusal Nothing None (Branch (seed ScrollView) (Branch (seed FrameLayout) (Branch (seed View) Nothing Nothing) (Branch (seed View) Nothing Nothing)) Nothing)
    ≡ refused SCROLL_FULL 4
unfolding growth_refusal
full_inside = refl

-- below a scroll view that has a child every element is refused
full_before : graft_refusal (Branch (view 1 ScrollView) (single (view 2 View)) Nothing) (Some 1) (Branch (seed View) Nothing Nothing) ≡ refused SCROLL_FULL 1
unfolding growth_refusal
full_before = refl

-- and a full scroll view is reported before a depth or a tree that is too large
full_first : refusal_below ScrollView true 32 4096 1 (Branch (seed View) Nothing Nothing) ≡ refused SCROLL_FULL 1
unfolding growth_refusal
full_first = refl
