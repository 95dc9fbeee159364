-- What a plan represents: a group, its specs, and the children that it has taken in each phase.
use Rattle.std.specs.Prelude.{◌≡◌, pos, Bool, true, false, List, [], ◌∷◌, ◌++◌}
use Rattle.frame_layout.specs.FramePlan.{RepresentsFrame}
use Rattle.scroll_view.specs.declared.plan.ScrollPlan.{ScrollPlan}
use Rattle.view_model.specs.declared.facts.Facts.{Facts}
use Rattle.view_model.specs.Facts.{new_facts, padding_left, padding_right}
use Rattle.view_model.specs.Measuring.{Specs, Measured}
use Rattle.view_model.specs.ScrollView.{scroll_rule}

-- a group of which nothing is set but what a plan reads of it, and the specs of the plan
abbrev pub own_in : ScrollPlan → Facts
own_in plan = record (new_facts (pos 0) (pos 0)) { padding = plan.padding; fill = plan.fill }

-- that of a group, with the paddings that apply
abbrev pub scrolled : Facts → Facts
scrolled own = record (new_facts (pos 0) (pos 0)) {
  padding =
      record { left = padding_left own; right = padding_right own; top = own.padding.top; bottom = own.padding.bottom };
  fill = own.fill;
}

abbrev pub specs_in : ScrollPlan → Specs
specs_in plan = record { across = plan.ws; down = plan.hs }

-- the plan of a group with these facts under these specs, which took these children in its first phase
pub record HasTaken (plan : ScrollPlan) (own : Facts) (specs : Specs) (first : List Measured) : Type 0 where
  pub own_facts : own_in plan ≡ scrolled own
  pub own_specs : specs_in plan ≡ specs
  pub frame : RepresentsFrame plan.frame own specs [] first

-- it has completed these phases, and has taken these children in the one that it is in
abbrev pub RepresentsScroll : ScrollPlan → Facts → Specs → List (List Measured) → List Measured → Type 0
RepresentsScroll plan own specs [] taken = HasTaken plan own specs taken × (plan.filling ≡ false)
RepresentsScroll plan own specs (first ∷ []) taken = HasTaken plan own specs first × (plan.filling ≡ true)
RepresentsScroll plan own specs (first ∷ second ∷ more) taken = ⊥

-- the plan at the end of a phase, once it has returned whether another follows
pub record TurnsScroll (plan : ScrollPlan) (own : Facts) (specs : Specs) (past : List (List Measured))
    (taken : List Measured) (answer : Bool) : Type 0 where
  pub answers : answer ≡ (scroll_rule own specs).turns (past ++ taken ∷ [])
  pub follows : answer ≡ true → RepresentsScroll plan own specs (past ++ taken ∷ []) []
  pub ends : answer ≡ false → RepresentsScroll plan own specs past taken
