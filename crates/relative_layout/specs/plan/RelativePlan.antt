-- What a plan represents: a group, its specs, and the children that it has taken in each phase, with their sides.
use Rattle.std.specs.Prelude.{◌≡◌, ℕ, ℤ, Bool, true, false, List, [], ◌∷◌, ◌++◌, filter, map}
use Rattle.geom_core.specs.declared.geometry.Size.{Size}
use Rattle.relative_layout.specs.declared.plan.extent.AxisExtent.{AxisExtent}
use Rattle.relative_layout.specs.declared.plan.RelativePlan.{RelativePlan}
use Rattle.view_model.specs.declared.facts.Facts.{Facts}
use Rattle.view_model.specs.declared.relative.Anchors.{Anchors}
use Rattle.view_model.specs.declared.relative.Axis.{Axis}
use Rattle.view_model.specs.declared.relative.Axis.TheVariants.{Horizontal, Vertical}
use Rattle.view_model.specs.declared.relative.Edges.{Edges}
use Rattle.view_model.specs.Course.{Child}
use Rattle.view_model.specs.Facts.{is_shown}
use Rattle.view_model.specs.Measuring.{Specs}
use Rattle.view_model.specs.RelativeCourse.{child_at}
use Rattle.view_model.specs.RelativeLayout.{Spanned, group_on, edges_with, greatest_reach, phase_axis, span_on}

-- an axis of a group with these children
pub record IsExtent (extent : AxisExtent) (axis : Axis) (own : Facts) (specs : Specs) (kids : List Spanned) :
    Type 0 where
  pub of_band : extent.group ≡ group_on axis own specs
  pub of_most : extent.most ≡ greatest_reach axis kids

-- a plan in a phase of this axis, with these children taken from left to right and these from top to bottom
pub record HasTakenOnAxis (plan : RelativePlan) (axis : Axis) (own : Facts) (specs : Specs) (across down : List Spanned)
    : Type 0 where
  pub of_axis : plan.axis ≡ axis
  pub of_rtl : plan.rtl ≡ own.rtl
  pub of_across : IsExtent plan.across Horizontal own specs across
  pub of_down : IsExtent plan.down Vertical own specs down

-- it has completed these phases, and has taken these children in the one that it is in
abbrev pub RepresentsRelative : RelativePlan → Facts → Specs → List (List Spanned) → List Spanned → Type 0
RepresentsRelative plan own specs [] taken = HasTakenOnAxis plan Horizontal own specs taken []
RepresentsRelative plan own specs (first ∷ []) taken = HasTakenOnAxis plan Vertical own specs first taken
RepresentsRelative plan own specs (first ∷ second ∷ more) taken = ⊥

-- a child as it is taken with this size
abbrev pub spanned_as : Facts → Specs → List (List Spanned) → Facts → Anchors → Size → Spanned
spanned_as own specs past kid anchors size =
    record { facts = kid; span = span_on (phase_axis past) own specs kid anchors size }

-- what is known of the sides of a child that was taken after these phases
abbrev pub edges_as : List (List Spanned) → Spanned → Edges → Edges
edges_as past kid edges = edges_with (phase_axis past) kid.span edges

abbrev pub is_first : List (List Spanned) → Bool
is_first [] = true
is_first (first ∷ more) = false

-- the plan at the end of a phase, once it has returned whether another follows: one does after the first
pub record TurnsRelative (plan : RelativePlan) (own : Facts) (specs : Specs) (past : List (List Spanned))
    (taken : List Spanned) (answer : Bool) : Type 0 where
  pub answers : answer ≡ is_first past
  pub follows : answer ≡ true → RepresentsRelative plan own specs (past ++ taken ∷ []) []
  pub ends : answer ≡ false → RepresentsRelative plan own specs past taken

-- a child in its place, with its sides on an axis
abbrev pub spanned_at : List Child → (ℕ → ℤ × ℤ) → ℕ → Spanned
spanned_at kids spans place = record { facts = (child_at kids place).facts; span = spans place }

-- the children that take part in layout, in the turns of an order
abbrev pub spanned_in : List Child → (ℕ → ℤ × ℤ) → List ℕ → List Spanned
spanned_in kids spans order = filter (λ (kid : Spanned). is_shown kid.facts) (map (spanned_at kids spans) order)
