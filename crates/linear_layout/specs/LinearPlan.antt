-- What a plan represents: a group, its specs, and the children that it has taken in each phase.
use Rattle.std.specs.Prelude.{◌≡◌, not, true, false, Bool, List, [], ◌∷◌, ◌++◌, Option, Some, None}
use Rattle.geom_core.specs.declared.geometry.Size.{Size}
use Rattle.linear_layout.specs.declared.plan.LinearPlan.{LinearPlan}
use Rattle.linear_layout.specs.declared.plan.Phase.{Phase}
use Rattle.linear_layout.specs.declared.plan.Phase.TheVariants.{First, Weight, Uniform}
use Rattle.linear_layout.specs.declared.weight_pass.WeightPass.{WeightPass}
use Rattle.linear_layout.specs.Line.{lined, own_in, specs_in}
use Rattle.linear_layout.specs.Passes.{IsFirstPass, IsWeightPass}
use Rattle.view_model.specs.declared.facts.Facts.{Facts}
use Rattle.view_model.specs.LinearLayout.{has_weight_pass, linear_rule}
use Rattle.view_model.specs.Measuring.{Measured, Specs}

-- the weight pass, once it has begun
abbrev pub weighed_by : Phase → Option WeightPass
weighed_by First = None
weighed_by (Weight pass) = Some pass
weighed_by (Uniform weighed) = weighed

-- the plan of a group with these facts, as a line reads them, under these specs
pub record IsPlanOf (plan : LinearPlan) (own : Facts) (specs : Specs) : Type 0 where
  pub own_facts : own_in plan.line ≡ own
  pub own_specs : specs_in plan.line ≡ specs

-- it is in its weight pass, after it took the first children in the first pass
pub record InWeightPass (plan : LinearPlan) (own : Facts) (specs : Specs) (first taken : List Measured) : Type 0 where
  pub pass : WeightPass
  pub phase : plan.phase ≡ Weight pass
  pub is_pass : IsWeightPass pass own specs first taken

-- it is in its second phase
pub record InSecond (plan : LinearPlan) (own : Facts) (specs : Specs) (first taken : List Measured) : Type 0 where
  pub weight : has_weight_pass own specs first ≡ true → InWeightPass plan own specs first taken
  pub uniform : has_weight_pass own specs first ≡ false → plan.phase ≡ Uniform None

-- it is in its third phase, the uniform pass after a weight pass
pub record InThird (plan : LinearPlan) (own : Facts) (specs : Specs) (first second : List Measured) : Type 0 where
  pub pass : WeightPass
  pub weighed : has_weight_pass own specs first ≡ true
  pub phase : plan.phase ≡ Uniform (Some pass)
  pub is_pass : IsWeightPass pass own specs first second

-- it has completed these phases, and has taken these children in the one that it is in
abbrev pub RepresentsLine : LinearPlan → Facts → Specs → List (List Measured) → List Measured → Type 0
RepresentsLine plan own specs [] taken =
    IsPlanOf plan own specs × (plan.phase ≡ First) × IsFirstPass plan.first own specs taken
RepresentsLine plan own specs (first ∷ []) taken =
    IsPlanOf plan own specs × IsFirstPass plan.first own specs first × InSecond plan own specs first taken
RepresentsLine plan own specs (first ∷ second ∷ []) taken =
    IsPlanOf plan own specs × IsFirstPass plan.first own specs first × InThird plan own specs first second
RepresentsLine plan own specs (first ∷ second ∷ third ∷ more) taken = ⊥

-- so has the plan of a group with these facts
abbrev pub RepresentsLinear : LinearPlan → Facts → Specs → List (List Measured) → List Measured → Type 0
RepresentsLinear plan own specs past taken = RepresentsLine plan (lined own) specs past taken

-- the plan at the end of a phase, once it has returned whether another follows
pub record TurnsLinear (plan : LinearPlan) (own : Facts) (specs : Specs) (past : List (List Measured))
    (taken : List Measured) (answer : Bool) : Type 0 where
  pub answers : answer ≡ (linear_rule own specs).turns (past ++ taken ∷ [])
  pub follows : answer ≡ true → RepresentsLinear plan own specs (past ++ taken ∷ []) []
  pub ends : answer ≡ false → RepresentsLinear plan own specs past taken

-- the plan is in the uniform pass, and no child wants to be as broad as the group
abbrev pub leaves_by : LinearPlan → Phase → Bool
leaves_by plan First = false
leaves_by plan (Weight pass) = false
leaves_by plan (Uniform None) = not plan.first.any_match
leaves_by plan (Uniform (Some pass)) = not pass.any_match

abbrev pub leaves_all : LinearPlan → Bool
leaves_all plan = leaves_by plan plan.phase

-- none of these children is asked, whatever size it has
abbrev pub AsksNone : (List Measured → Measured → Option Specs) → List Measured → Type 0
AsksNone ask [] = Unit {0}
AsksNone ask (kid ∷ kids) =
    ((taken : List Measured) (size : Size) → ask taken (record { facts = kid.facts; size = size }) ≡ None)
    × AsksNone ask kids

-- the plan at the start of a phase that asks none of the children of the phase before: taking them changes nothing, and
-- no phase follows
pub record LeavesAll (plan : LinearPlan) (own : Facts) (specs : Specs) : Type 0 where
  pub asks : (past : List (List Measured)) (last : List Measured)
      → RepresentsLinear plan own specs (past ++ last ∷ []) []
      → AsksNone ((linear_rule own specs).ask (past ++ last ∷ [])) last
  pub takes : (past : List (List Measured)) (taken more : List Measured) → RepresentsLinear plan own specs past taken
      → RepresentsLinear plan own specs past more
  pub turns : (past : List (List Measured)) (taken : List Measured) → RepresentsLinear plan own specs past taken
      → (linear_rule own specs).turns (past ++ taken ∷ []) ≡ false
