-- A uniform pass in which no child wants to be as broad as the group.
use Rattle.std.proofs.Common.{◌≡◌, ℤ, Bool, true, false, Option, Some, None, List, [], ◌∷◌, ◌++◌, refl, sym, ap, ◌∙◌, inl, inr}
use Rattle.std.proofs.lemmas.Bool.{cases_Bool, not-true}
use Rattle.std.specs.List.{list_any}
use Rattle.std.specs.Prelude.{if◌then◌else◌, ◌||◌, not}
use Rattle.linear_layout.specs.declared.plan.LinearPlan.{LinearPlan}
use Rattle.linear_layout.specs.declared.plan.Phase.{Phase}
use Rattle.linear_layout.specs.declared.plan.Phase.TheVariants.{First, Weight, Uniform}
use Rattle.linear_layout.specs.declared.weight_pass.WeightPass.{WeightPass}
use Rattle.linear_layout.specs.Line.{lined}
use Rattle.linear_layout.specs.LinearPlan.{AsksNone, LeavesAll, RepresentsLine, leaves_all, leaves_by}
use Rattle.linear_layout.proofs.LinedLaws.{ask-lined, turns-lined}
use Rattle.linear_layout.proofs.PlanLaws.{take-uniform, turn-over}
use Rattle.view_model.specs.declared.facts.Facts.{Facts}
use Rattle.view_model.specs.Facts.{is_match}
use Rattle.view_model.specs.LinearLayout.{dim_on, has_weight_pass, linear_ask, own_breadth, uniform_pass, weight_pass}
use Rattle.view_model.specs.Measuring.{Measured, Specs}

-- a plan that leaves all is in its uniform pass
uniform_in : (plan : LinearPlan) (phase : Phase) → leaves_by plan phase ≡ true → (weighed : Option WeightPass) × (phase ≡ Uniform weighed)
uniform_in plan First leaves = absurd (let e : false ≡ true = leaves in cc)
uniform_in plan (Weight pass) leaves = absurd (let e : false ≡ true = leaves in cc)
uniform_in plan (Uniform weighed) leaves = (weighed, refl)

-- where no child matches, the uniform pass asks none
asks_none : (own : Facts) (specs : Specs) (breadth : ℤ) (kids : List Measured)
    → list_any (λ (kid : Measured). is_match (dim_on (not own.vertical) kid.facts)) kids ≡ false
    → AsksNone (λ taken kid. uniform_pass own breadth kid) kids
asks_none own specs breadth [] none = tt
asks_none own specs breadth (kid ∷ kids) none = (
  λ taken size. left _ (is_match (dim_on (not own.vertical) kid.facts)) (first _ (is_match (dim_on (not own.vertical) kid.facts)) none),
  asks_none own specs breadth kids (others _ (is_match (dim_on (not own.vertical) kid.facts)) none),
)
  where
    left : (some : Specs) (b : Bool) → b ≡ false → (if b then Some some else None) ≡ None
    left some true e = absurd (let e : true ≡ false = e in cc)
    left some false e = refl

    first : (rest : Bool) (b : Bool) → (b || rest) ≡ false → b ≡ false
    first rest true e = e
    first rest false e = refl

    others : (rest : Bool) (b : Bool) → (b || rest) ≡ false → rest ≡ false
    others rest true e = absurd (let e : true ≡ false = e in cc)
    others rest false e = e

-- those who are asked alike
asks_same : (one other : List Measured → Measured → Option Specs) → ((taken : List Measured) (kid : Measured) → one taken kid ≡ other taken kid) → (kids : List Measured)
    → AsksNone one kids → AsksNone other kids
asks_same one other same [] none = tt
asks_same one other same (kid ∷ kids) none = (
  λ taken size. sym (same taken (record { facts = kid.facts; size = size })) ∙ none.0 taken size,
  asks_same one other same kids none.1,
)

asks_line : (plan : LinearPlan) (own : Facts) (specs : Specs) (past : List (List Measured)) (last : List Measured) → leaves_all plan ≡ true
    → RepresentsLine plan own specs (past ++ last ∷ []) []
    → AsksNone (linear_ask own specs (past ++ last ∷ [])) last
asks_line plan own specs [] last leaves s = elim (cases_Bool (has_weight_pass own specs last)) [
  | inl runs ↦ absurd (let e : false ≡ true = ap (leaves_by plan) (sym (s.2.weight runs).phase) ∙ leaves in cc)
  | inr over ↦
      let idle : not plan.first.any_match ≡ true = ap (leaves_by plan) (sym (s.2.uniform over)) ∙ leaves in
      asks_same (λ taken kid. uniform_pass own (own_breadth own specs (last ∷ [])) kid) (linear_ask own specs (last ∷ []))
      (λ taken kid. ap (λ (v : Bool). if v then weight_pass own specs last taken kid else uniform_pass own (own_breadth own specs (last ∷ [])) kid) (sym over)) last
      (asks_none own specs (own_breadth own specs (last ∷ [])) last (sym s.1.any_match ∙ not-true plan.first.any_match idle))
]
asks_line plan own specs (first ∷ []) last leaves s =
    let idle : not s.2.pass.any_match ≡ true = ap (leaves_by plan) (sym s.2.phase) ∙ leaves in
    asks_none own specs (own_breadth own specs (first ∷ last ∷ [])) last (sym s.2.is_pass.any_match ∙ not-true s.2.pass.any_match idle)
asks_line plan own specs (first ∷ second ∷ []) last leaves s = absurd s
asks_line plan own specs (first ∷ second ∷ third ∷ more) last leaves s = absurd s

pub leaves_all-LeavesAll : (plan : LinearPlan) (own : Facts) (specs : Specs) → leaves_all plan ≡ true → LeavesAll plan own specs
leaves_all-LeavesAll plan own specs leaves =
    let uniform = uniform_in plan plan.phase leaves in
    record {
      asks = λ past last s. asks_same (linear_ask (lined own) specs (past ++ last ∷ [])) (linear_ask own specs (past ++ last ∷ []))
          (λ taken kid. ask-lined own specs (past ++ last ∷ []) taken kid) last (asks_line plan (lined own) specs past last leaves s);
      takes = λ past taken more s. take-uniform plan (lined own) specs past taken more uniform.0 uniform.1 s;
      turns = λ past taken s. sym (turns-lined own specs (past ++ taken ∷ [])) ∙ sym (turn-over plan (lined own) specs past taken uniform.0 uniform.1 s).answers;
    }
