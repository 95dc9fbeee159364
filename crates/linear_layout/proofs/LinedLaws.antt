-- The rule of a linear layout reads no more of its group than a line does.
use Rattle.std.proofs.Common.{◌≡◌, Bool, Option, List, [], ◌∷◌, ◌++◌, ap, refl, ◌∙◌}
use Rattle.geom_core.specs.declared.geometry.Size.{Size}
use Rattle.linear_layout.specs.Line.{lined}
use Rattle.linear_layout.specs.LinearPlan.{TurnsLinear}
use Rattle.linear_layout.specs.declared.plan.LinearPlan.{LinearPlan}
use Rattle.linear_layout.proofs.PlanLaws.{TurnsLine}
use Rattle.view_model.specs.declared.facts.Facts.{Facts}
use Rattle.view_model.specs.LinearLayout.{linear_rule, min_on, padding_on}
use Rattle.view_model.specs.Measuring.{Measured, Specs, counted_as, taken_as}

pub ask-lined : (own : Facts) (specs : Specs) (past : List (List Measured)) (taken : List Measured) (kid : Measured)
    → (linear_rule (lined own) specs).ask past taken kid ≡ (linear_rule own specs).ask past taken kid
unfolding padding_on min_on
ask-lined own specs [] taken kid = refl
ask-lined own specs (first ∷ []) taken kid = refl
ask-lined own specs (first ∷ second ∷ more) taken kid = refl

pub turns-lined : (own : Facts) (specs : Specs) (past : List (List Measured)) → (linear_rule (lined own) specs).turns past ≡ (linear_rule own specs).turns past
unfolding padding_on min_on
turns-lined own specs [] = refl
turns-lined own specs (first ∷ []) = refl
turns-lined own specs (first ∷ second ∷ []) = refl
turns-lined own specs (first ∷ second ∷ third ∷ more) = refl

pub size-lined : (own : Facts) (specs : Specs) (past : List (List Measured)) → (linear_rule (lined own) specs).size past ≡ (linear_rule own specs).size past
unfolding padding_on min_on
size-lined own specs [] = refl
size-lined own specs (first ∷ []) = refl
size-lined own specs (first ∷ second ∷ more) = refl

pub total-lined : (own : Facts) (specs : Specs) (past : List (List Measured)) → (linear_rule (lined own) specs).total past ≡ (linear_rule own specs).total past
unfolding padding_on min_on
total-lined own specs [] = refl
total-lined own specs (first ∷ []) = refl
total-lined own specs (first ∷ second ∷ more) = refl

pub TurnsLine-lined : (plan : LinearPlan) (own : Facts) (specs : Specs) (past : List (List Measured)) (taken : List Measured) (answer : Bool)
    → TurnsLine plan (lined own) specs past taken answer → TurnsLinear plan own specs past taken answer
TurnsLine-lined plan own specs past taken answer t = record { answers = t.answers ∙ turns-lined own specs (past ++ taken ∷ []); follows = t.follows; ends = t.ends }

pub taken_as-lined : (own : Facts) (specs : Specs) (past : List (List Measured)) (taken : List Measured) (facts : Facts) (size : Size)
    → taken_as (linear_rule (lined own) specs) past taken facts size ≡ taken_as (linear_rule own specs) past taken facts size
taken_as-lined own specs past taken facts size =
    ap (λ (asked : Option Specs). record { facts = facts; size = counted_as past asked size }) (ask-lined own specs past taken (record { facts = facts; size = size }))
