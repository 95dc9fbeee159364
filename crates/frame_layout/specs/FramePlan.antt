-- What a plan represents: a group, its specs, and the children that it has taken in each phase.
use Rattle.std.specs.Prelude.{◌≡◌, ℤ, Bool, true, false, List, [], ◌∷◌, ◌++◌, Some, None, count_by, min}
use Rattle.frame_layout.specs.declared.axis.Axis.{Axis}
use Rattle.frame_layout.specs.declared.plan.FramePlan.{FramePlan}
use Rattle.geom_core.specs.declared.measuring.Spec.{Spec}
use Rattle.view_model.specs.declared.facts.Facts.{Facts}
use Rattle.view_model.specs.Facts.{matches_parent, padding_across, padding_down}
use Rattle.view_model.specs.FrameLayout.{greatest_by, need_across, need_down, frame_rule, frame_size}
use Rattle.view_model.specs.Measuring.{Specs, Measured}

-- the axis of a group under this spec, with this minimum and padding, of which its children need this much
pub record IsAxis (axis : Axis) (spec : Spec) (min padding most : ℤ) : Type 0 where
  pub of_spec : axis.spec ≡ spec
  pub of_min : axis.min ≡ min
  pub of_padding : axis.padding ≡ padding
  pub of_most : axis.most ≡ most

-- the plan of a group with these facts under these specs, which took these children in its first phase
pub record HasMeasured (plan : FramePlan) (own : Facts) (specs : Specs) (first : List Measured) : Type 0 where
  pub across : IsAxis plan.across specs.across own.min.w (padding_across own) (greatest_by need_across first)
  pub down : IsAxis plan.down specs.down own.min.h (padding_down own) (greatest_by need_down first)

-- it is in its first phase
pub record InFirst (plan : FramePlan) (own : Facts) (specs : Specs) (taken : List Measured) : Type 0 where
  pub measured : HasMeasured plan own specs taken
  pub matching : plan.matching ≡ min 2 (count_by (λ (kid : Measured). matches_parent kid.facts) taken)
  pub own_size : plan.own_size ≡ None

-- it is in its second phase, after it took these children in the first
pub record InSecondFramePhase (plan : FramePlan) (own : Facts) (specs : Specs) (first : List Measured) : Type 0 where
  pub measured : HasMeasured plan own specs first
  pub own_size : plan.own_size ≡ Some (frame_size own specs first)

-- it has completed these phases, and has taken these children in the one that it is in
abbrev pub RepresentsFrame : FramePlan → Facts → Specs → List (List Measured) → List Measured → Type 0
RepresentsFrame plan own specs [] taken = InFirst plan own specs taken
RepresentsFrame plan own specs (first ∷ []) taken = InSecondFramePhase plan own specs first
RepresentsFrame plan own specs (first ∷ second ∷ more) taken = ⊥

-- the plan at the end of a phase, once it has returned whether another follows
pub record TurnsFrame (plan : FramePlan) (own : Facts) (specs : Specs) (past : List (List Measured))
    (taken : List Measured) (answer : Bool) : Type 0 where
  pub answers : answer ≡ (frame_rule own specs).turns (past ++ taken ∷ [])
  pub follows : answer ≡ true → RepresentsFrame plan own specs (past ++ taken ∷ []) []
  pub ends : answer ≡ false → RepresentsFrame plan own specs past taken
