-- What a plan returns and becomes, phase by phase.
use Rattle.std.proofs.Common.{◌≡◌, ℤ, pos, Bool, true, false, Option, Some, None, List, [], ◌∷◌, ◌++◌, refl, sym, ap, ◌∙◌, subst, inl, inr}
use Rattle.std.proofs.lemmas.Bool.{cases_Bool}
use Rattle.std.specs.Option.{option_map}
use Rattle.std.specs.Prelude.{if◌then◌else◌, ◌&&◌, ◌||◌, not}
use Rattle.geom_core.specs.declared.geometry.Size.{Size}
use Rattle.geom_core.specs.declared.measuring.Spec.{Spec}
use Rattle.linear_layout.specs.declared.plan.LinearPlan.{LinearPlan}
use Rattle.linear_layout.specs.declared.plan.Phase.{Phase}
use Rattle.linear_layout.specs.declared.plan.Phase.TheVariants.{First, Weight, Uniform}
use Rattle.linear_layout.specs.declared.first_pass.FirstPass.{FirstPass}
use Rattle.linear_layout.specs.declared.weight_pass.WeightPass.{WeightPass}
use Rattle.linear_layout.specs.Line.{own_in, specs_in}
use Rattle.linear_layout.specs.LinearPlan.{InSecond, IsPlanOf, RepresentsLine, weighed_by}
use Rattle.linear_layout.specs.Passes.{IsFirstPass, IsWeightPass}
use Rattle.view_model.specs.declared.facts.Facts.{Facts}
use Rattle.view_model.specs.LinearLayout.{breadth_for, breadth_once, breadth_twice, first_pass, full_length, has_weight_pass, is_exact_beside, linear_rule, own_breadth, own_length, size_by, skips, uniform_pass, weight_pass}
use Rattle.view_model.specs.Measuring.{Measured, Specs, counted_as, pair_of, taken_as}

-- a plan at the end of a phase, as TurnsLinear has it, of the group that its line represents
pub record TurnsLine (plan : LinearPlan) (own : Facts) (specs : Specs) (past : List (List Measured)) (taken : List Measured) (answer : Bool) : Type 0 where
  pub answers : answer ≡ (linear_rule own specs).turns (past ++ taken ∷ [])
  pub follows : answer ≡ true → RepresentsLine plan own specs (past ++ taken ∷ []) []
  pub ends : answer ≡ false → RepresentsLine plan own specs past taken

pub plan_of : (plan : LinearPlan) (own : Facts) (specs : Specs) (past : List (List Measured)) (taken : List Measured) → RepresentsLine plan own specs past taken → IsPlanOf plan own specs
plan_of plan own specs [] taken s = s.0
plan_of plan own specs (first ∷ []) taken s = s.0
plan_of plan own specs (first ∷ second ∷ []) taken s = s.0
plan_of plan own specs (first ∷ second ∷ third ∷ more) taken s = absurd s

-- what holds of the facts and the specs that a plan has holds of the group that it represents
pub of_group : (P : Facts → Specs → Type 0) (plan : LinearPlan) (own : Facts) (specs : Specs) → IsPlanOf plan own specs → P (own_in plan.line) (specs_in plan.line) → P own specs
of_group P plan own specs is p = subst (λ specs. P own specs) is.own_specs (subst (λ own. P own (specs_in plan.line)) is.own_facts p)

first_weight : {A : Type 0} {p : Phase} {pass : WeightPass} → p ≡ First → p ≡ Weight pass → A
first_weight a b = absurd (cc)

first_uniform : {A : Type 0} {p : Phase} {weighed : Option WeightPass} → p ≡ First → p ≡ Uniform weighed → A
first_uniform a b = absurd (cc)

weight_uniform : {A : Type 0} {p : Phase} {pass : WeightPass} {weighed : Option WeightPass} → p ≡ Weight pass → p ≡ Uniform weighed → A
weight_uniform a b = absurd (cc)

weight_same : {p : Phase} {pass other : WeightPass} → p ≡ Weight pass → p ≡ Weight other → pass ≡ other
weight_same a b = cc

no_true : {A : Type 0} {v : Bool} → v ≡ false → v ≡ true → A
no_true f t = let e : true ≡ false = sym t ∙ f in absurd (cc)

-- no other phase than the first is First
only_first : {A : Type 0} (plan : LinearPlan) (own : Facts) (specs : Specs) (first taken : List Measured) → plan.phase ≡ First → InSecond plan own specs first taken → A
only_first plan own specs first taken is s = elim (cases_Bool (has_weight_pass own specs first)) [
  | inl runs ↦ first_weight is (s.weight runs).phase
  | inr over ↦ first_uniform is (s.uniform over)
]

-- in the first pass it asks as that does
pub ask-first : (plan : LinearPlan) (own : Facts) (specs : Specs) (past : List (List Measured)) (taken : List Measured) (kid : Measured) (answer : Option (Spec × Spec))
    → plan.phase ≡ First
    → ((kids : List Measured) → IsFirstPass plan.first own specs kids → answer ≡ option_map pair_of (first_pass own specs kids kid))
    → RepresentsLine plan own specs past taken
    → answer ≡ option_map pair_of ((linear_rule own specs).ask past taken kid)
ask-first plan own specs [] taken kid answer is asks s = asks taken s.2
ask-first plan own specs (first ∷ []) taken kid answer is asks s = only_first plan own specs first taken is s.2
ask-first plan own specs (first ∷ second ∷ []) taken kid answer is asks s = first_uniform is s.2.phase
ask-first plan own specs (first ∷ second ∷ third ∷ more) taken kid answer is asks s = absurd s

counted_first : (skipped : Bool) (specs : Specs) (size : Size) → (if skipped then (record { w = pos 0; h = pos 0 }) else size) ≡ counted_as [] (if skipped then None else Some specs) size
counted_first true specs size = refl
counted_first false specs size = refl

-- in the first pass it takes a child with its size, and one that is left out with none
pub take-first : (plan : LinearPlan) (own : Facts) (specs : Specs) (past : List (List Measured)) (taken : List Measured) (facts : Facts) (size counted : Size) (next : FirstPass)
    → plan.phase ≡ First
    → counted ≡ (if skips own specs facts then (record { w = pos 0; h = pos 0 }) else size)
    → (IsFirstPass plan.first own specs taken → IsFirstPass next own specs (taken ++ record { facts = facts; size = counted } ∷ []))
    → RepresentsLine plan own specs past taken
    → RepresentsLine (record plan { first = next }) own specs past (taken ++ taken_as (linear_rule own specs) past taken facts size ∷ [])
take-first plan own specs [] taken facts size counted next is counts takes s =
    let same : counted ≡ counted_as [] (first_pass own specs taken (record { facts = facts; size = size })) size = counts ∙ counted_first (skips own specs facts) _ size in
    (record { own_facts = s.0.own_facts; own_specs = s.0.own_specs }, s.1, subst (λ (size : Size). IsFirstPass next own specs (taken ++ record { facts = facts; size = size } ∷ [])) same (takes s.2))
take-first plan own specs (first ∷ []) taken facts size counted next is counts takes s = only_first plan own specs first taken is s.2
take-first plan own specs (first ∷ second ∷ []) taken facts size counted next is counts takes s = first_uniform is s.2.phase
take-first plan own specs (first ∷ second ∷ third ∷ more) taken facts size counted next is counts takes s = absurd s

-- in the uniform pass it ignores a child
pub take-uniform : (plan : LinearPlan) (own : Facts) (specs : Specs) (past : List (List Measured)) (taken more : List Measured) (weighed : Option WeightPass)
    → plan.phase ≡ Uniform weighed → RepresentsLine plan own specs past taken → RepresentsLine plan own specs past more
take-uniform plan own specs [] taken more weighed is s = first_uniform s.1 is
take-uniform plan own specs (first ∷ []) taken more weighed is s = elim (cases_Bool (has_weight_pass own specs first)) [
  | inl runs ↦ weight_uniform (s.2.weight runs).phase is
  | inr over ↦ (s.0, s.1, record { weight = λ runs. no_true over runs; uniform = s.2.uniform })
]
take-uniform plan own specs (first ∷ second ∷ []) taken more weighed is s = s
take-uniform plan own specs (first ∷ second ∷ third ∷ rest) taken more weighed is s = absurd s

-- in the weight pass it asks as that does
pub ask-weight : (plan : LinearPlan) (own : Facts) (specs : Specs) (past : List (List Measured)) (taken : List Measured) (kid : Measured) (pass : WeightPass) (answer : Option (Spec × Spec))
    → plan.phase ≡ Weight pass
    → ((first : List Measured) → IsWeightPass pass own specs first taken → answer ≡ option_map pair_of (weight_pass own specs first taken kid))
    → RepresentsLine plan own specs past taken
    → answer ≡ option_map pair_of ((linear_rule own specs).ask past taken kid)
ask-weight plan own specs [] taken kid pass answer is asks s = first_weight s.1 is
ask-weight plan own specs (first ∷ []) taken kid pass answer is asks s =
    let asked = λ (v : Bool). option_map pair_of (if v then weight_pass own specs first taken kid else uniform_pass own (own_breadth own specs (first ∷ [])) kid) in
    elim (cases_Bool (has_weight_pass own specs first)) [
      | inl runs ↦
          let w = s.2.weight runs in
          asks first (subst (λ pass. IsWeightPass pass own specs first taken) (weight_same w.phase is) w.is_pass) ∙ ap asked (sym runs)
      | inr over ↦ weight_uniform is (s.2.uniform over)
    ]
ask-weight plan own specs (first ∷ second ∷ []) taken kid pass answer is asks s = weight_uniform is s.2.phase
ask-weight plan own specs (first ∷ second ∷ third ∷ more) taken kid pass answer is asks s = absurd s

-- in the uniform pass it asks by the group's breadth
pub ask-uniform : (plan : LinearPlan) (own : Facts) (specs : Specs) (past : List (List Measured)) (taken : List Measured) (kid : Measured) (weighed : Option WeightPass) (breadth : ℤ)
    → plan.phase ≡ Uniform weighed
    → ((first : List Measured) → weighed_by plan.phase ≡ None → IsFirstPass plan.first own specs first → breadth ≡ breadth_for own specs (breadth_once own specs first))
    → ((pass : WeightPass) (first second : List Measured) → weighed_by plan.phase ≡ Some pass → IsFirstPass plan.first own specs first → IsWeightPass pass own specs first second
    → breadth ≡ breadth_for own specs (breadth_twice own specs first second))
    → RepresentsLine plan own specs past taken
    → option_map pair_of (uniform_pass own breadth kid) ≡ option_map pair_of ((linear_rule own specs).ask past taken kid)
ask-uniform plan own specs [] taken kid weighed breadth is once twice s = first_uniform s.1 is
ask-uniform plan own specs (first ∷ []) taken kid weighed breadth is once twice s =
    let asked = λ (v : Bool). option_map pair_of (if v then weight_pass own specs first taken kid else uniform_pass own (own_breadth own specs (first ∷ [])) kid) in
    elim (cases_Bool (has_weight_pass own specs first)) [
      | inl runs ↦ weight_uniform (s.2.weight runs).phase is
      | inr over ↦ ap (λ breadth. option_map pair_of (uniform_pass own breadth kid)) (once first (ap weighed_by (s.2.uniform over)) s.1) ∙ ap asked (sym over)
    ]
ask-uniform plan own specs (first ∷ second ∷ []) taken kid weighed breadth is once twice s =
    let needed = λ (v : Bool). breadth_for own specs (if v then breadth_twice own specs first second else breadth_once own specs first) in
    ap (λ breadth. option_map pair_of (uniform_pass own breadth kid)) (twice s.2.pass first second (ap weighed_by s.2.phase) s.1 s.2.is_pass ∙ ap needed (sym s.2.weighed))
ask-uniform plan own specs (first ∷ second ∷ third ∷ more) taken kid weighed breadth is once twice s = absurd s

-- in the weight pass it takes a child with its size
pub take-weight : (plan : LinearPlan) (own : Facts) (specs : Specs) (past : List (List Measured)) (taken : List Measured) (facts : Facts) (size : Size) (pass next : WeightPass)
    → plan.phase ≡ Weight pass
    → ((first : List Measured) → IsWeightPass pass own specs first taken → IsWeightPass next own specs first (taken ++ record { facts = facts; size = size } ∷ []))
    → RepresentsLine plan own specs past taken
    → RepresentsLine (record plan { phase = Weight next }) own specs past (taken ++ taken_as (linear_rule own specs) past taken facts size ∷ [])
take-weight plan own specs [] taken facts size pass next is takes s = first_weight s.1 is
take-weight plan own specs (first ∷ []) taken facts size pass next is takes s = (
  record { own_facts = s.0.own_facts; own_specs = s.0.own_specs },
  s.1,
  record {
    weight = λ runs. let w = s.2.weight runs in record {
      pass = next;
      phase = refl;
      is_pass = takes first (subst (λ pass. IsWeightPass pass own specs first taken) (weight_same w.phase is) w.is_pass);
    };
    uniform = λ over. weight_uniform is (s.2.uniform over);
  },
)
take-weight plan own specs (first ∷ second ∷ []) taken facts size pass next is takes s = weight_uniform is s.2.phase
take-weight plan own specs (first ∷ second ∷ third ∷ more) taken facts size pass next is takes s = absurd s

-- its size at the end
pub finish-size : (plan : LinearPlan) (own : Facts) (specs : Specs) (past : List (List Measured)) (taken : List Measured) (along beside : ℤ)
    → ((first : List Measured) → IsFirstPass plan.first own specs first → along ≡ own_length own specs first)
    → ((first : List Measured) → weighed_by plan.phase ≡ None → IsFirstPass plan.first own specs first → beside ≡ breadth_for own specs (breadth_once own specs first))
    → ((pass : WeightPass) (first second : List Measured) → weighed_by plan.phase ≡ Some pass → IsFirstPass plan.first own specs first → IsWeightPass pass own specs first second
    → beside ≡ breadth_for own specs (breadth_twice own specs first second))
    → RepresentsLine plan own specs past taken
    → size_by own.vertical along beside ≡ (linear_rule own specs).size (past ++ taken ∷ [])
finish-size plan own specs [] taken along beside long once twice s =
    ap (λ along. size_by own.vertical along beside) (long taken s.2) ∙ ap (size_by own.vertical (own_length own specs taken)) (once taken (ap weighed_by s.1) s.2)
finish-size plan own specs (first ∷ []) taken along beside long once twice s =
    let needed = λ (v : Bool). breadth_for own specs (if v then breadth_twice own specs first taken else breadth_once own specs first) in
    let broad : beside ≡ needed (has_weight_pass own specs first) = elim (cases_Bool (has_weight_pass own specs first)) [
      | inl runs ↦ let w = s.2.weight runs in twice w.pass first taken (ap weighed_by w.phase) s.1 w.is_pass ∙ ap needed (sym runs)
      | inr over ↦ once first (ap weighed_by (s.2.uniform over)) s.1 ∙ ap needed (sym over)
    ] in
    ap (λ along. size_by own.vertical along beside) (long first s.1) ∙ ap (size_by own.vertical (own_length own specs first)) broad
finish-size plan own specs (first ∷ second ∷ []) taken along beside long once twice s =
    let needed = λ (v : Bool). breadth_for own specs (if v then breadth_twice own specs first second else breadth_once own specs first) in
    let broad : beside ≡ needed (has_weight_pass own specs first) = twice s.2.pass first second (ap weighed_by s.2.phase) s.1 s.2.is_pass ∙ ap needed (sym s.2.weighed) in
    ap (λ along. size_by own.vertical along beside) (long first s.1) ∙ ap (size_by own.vertical (own_length own specs first)) broad
finish-size plan own specs (first ∷ second ∷ third ∷ more) taken along beside long once twice s = absurd s

-- what its children take of its length at the end
pub total-is : (plan : LinearPlan) (own : Facts) (specs : Specs) (past : List (List Measured)) (taken : List Measured) (total : ℤ)
    → ((first : List Measured) → weighed_by plan.phase ≡ None → IsFirstPass plan.first own specs first → total ≡ full_length own first)
    → ((pass : WeightPass) (first second : List Measured) → weighed_by plan.phase ≡ Some pass → IsWeightPass pass own specs first second → total ≡ full_length own second)
    → RepresentsLine plan own specs past taken
    → total ≡ (linear_rule own specs).total (past ++ taken ∷ [])
total-is plan own specs [] taken total once twice s = once taken (ap weighed_by s.1) s.2
total-is plan own specs (first ∷ []) taken total once twice s =
    let sum = λ (v : Bool). if v then full_length own taken else full_length own first in
    elim (cases_Bool (has_weight_pass own specs first)) [
      | inl runs ↦ let w = s.2.weight runs in twice w.pass first taken (ap weighed_by w.phase) w.is_pass ∙ ap sum (sym runs)
      | inr over ↦ once first (ap weighed_by (s.2.uniform over)) s.1 ∙ ap sum (sym over)
    ]
total-is plan own specs (first ∷ second ∷ []) taken total once twice s =
    let sum = λ (v : Bool). if v then full_length own second else full_length own first in
    twice s.2.pass first second (ap weighed_by s.2.phase) s.2.is_pass ∙ ap sum (sym s.2.weighed)
total-is plan own specs (first ∷ second ∷ third ∷ more) taken total once twice s = absurd s

-- from the first pass it turns to the weight pass, if that follows
pub turn-weight : (plan : LinearPlan) (own : Facts) (specs : Specs) (past : List (List Measured)) (taken : List Measured) (pass : WeightPass)
    → plan.phase ≡ First
    → ((first : List Measured) → IsFirstPass plan.first own specs first → has_weight_pass own specs first ≡ true)
    → ((first : List Measured) → IsFirstPass plan.first own specs first → IsWeightPass pass own specs first [])
    → RepresentsLine plan own specs past taken
    → TurnsLine (record plan { phase = Weight pass }) own specs past taken true
turn-weight plan own specs [] taken pass is runs starts s = record {
  answers = ap (λ v. v || not (is_exact_beside own specs)) (sym (runs taken s.2));
  follows = λ yes. (
    record { own_facts = s.0.own_facts; own_specs = s.0.own_specs },
    s.2,
    record {
      weight = λ ran. record { pass = pass; phase = refl; is_pass = starts taken s.2 };
      uniform = λ over. no_true over (runs taken s.2);
    },
  );
  ends = λ no. absurd (let e : true ≡ false = no in cc);
}
turn-weight plan own specs (first ∷ []) taken pass is runs starts s = elim (cases_Bool (has_weight_pass own specs first)) [
  | inl ran ↦ first_weight is (s.2.weight ran).phase
  | inr over ↦ first_uniform is (s.2.uniform over)
]
turn-weight plan own specs (first ∷ second ∷ []) taken pass is runs starts s = first_uniform is s.2.phase
turn-weight plan own specs (first ∷ second ∷ third ∷ more) taken pass is runs starts s = absurd s

-- from the weight pass it turns to the uniform pass, if the group's breadth was not given
pub turn-uniform : (plan new : LinearPlan) (own : Facts) (specs : Specs) (past : List (List Measured)) (taken : List Measured) (pass : WeightPass) (answer : Bool)
    → plan.phase ≡ Weight pass
    → (is_exact_beside own specs ≡ true → (answer ≡ false) × (new ≡ plan))
    → (is_exact_beside own specs ≡ false → (answer ≡ true) × (new ≡ record plan { phase = Uniform (Some pass) }))
    → RepresentsLine plan own specs past taken
    → TurnsLine new own specs past taken answer
turn-uniform plan new own specs [] taken pass answer is stops goes s = first_weight s.1 is
turn-uniform plan new own specs (first ∷ []) taken pass answer is stops goes s = elim (cases_Bool (has_weight_pass own specs first)) [
  | inr over ↦ weight_uniform is (s.2.uniform over)
  | inl ran ↦
      let w = s.2.weight ran in
      let turns = λ (v b : Bool). v && not b in
      let is_pass : IsWeightPass pass own specs first taken = subst (λ pass. IsWeightPass pass own specs first taken) (weight_same w.phase is) w.is_pass in
      elim (cases_Bool (is_exact_beside own specs)) [
        | inl reported ↦ record {
          answers = (stops reported).0 ∙ ap (turns true) (sym reported) ∙ ap (λ v. turns v (is_exact_beside own specs)) (sym ran);
          follows = λ yes. no_true (stops reported).0 yes;
          ends = λ no. subst (λ plan. RepresentsLine plan own specs (first ∷ []) taken) (sym (stops reported).1) s;
        }
        | inr not_reported ↦ record {
          answers = (goes not_reported).0 ∙ ap (turns true) (sym not_reported) ∙ ap (λ v. turns v (is_exact_beside own specs)) (sym ran);
          follows = λ yes. subst (λ plan. RepresentsLine plan own specs (first ∷ taken ∷ []) []) (sym (goes not_reported).1) (
            record { own_facts = s.0.own_facts; own_specs = s.0.own_specs },
            s.1,
            record { pass = pass; weighed = ran; phase = refl; is_pass = is_pass },
          );
          ends = λ no. no_true no (goes not_reported).0;
        }
      ]
]
turn-uniform plan new own specs (first ∷ second ∷ []) taken pass answer is stops goes s = weight_uniform is s.2.phase
turn-uniform plan new own specs (first ∷ second ∷ third ∷ more) taken pass answer is stops goes s = absurd s

-- from the first pass it turns to the uniform pass, if no weight pass follows and the group's breadth was not given
pub turn-first : (plan new : LinearPlan) (own : Facts) (specs : Specs) (past : List (List Measured)) (taken : List Measured) (answer : Bool)
    → plan.phase ≡ First
    → ((kids : List Measured) → IsFirstPass plan.first own specs kids → has_weight_pass own specs kids ≡ false)
    → (is_exact_beside own specs ≡ true → (answer ≡ false) × (new ≡ plan))
    → (is_exact_beside own specs ≡ false → (answer ≡ true) × (new ≡ record plan { phase = Uniform None }))
    → RepresentsLine plan own specs past taken
    → TurnsLine new own specs past taken answer
turn-first plan new own specs [] taken answer is over stops goes s =
    let turns = λ (v b : Bool). v || not b in
    let not_weighed = over taken s.2 in
    elim (cases_Bool (is_exact_beside own specs)) [
      | inl reported ↦ record {
        answers = (stops reported).0 ∙ ap (turns false) (sym reported) ∙ ap (λ v. turns v (is_exact_beside own specs)) (sym not_weighed);
        follows = λ yes. no_true (stops reported).0 yes;
        ends = λ no. subst (λ plan. RepresentsLine plan own specs [] taken) (sym (stops reported).1) s;
      }
      | inr not_reported ↦ record {
        answers = (goes not_reported).0 ∙ ap (turns false) (sym not_reported) ∙ ap (λ v. turns v (is_exact_beside own specs)) (sym not_weighed);
        follows = λ yes. subst (λ plan. RepresentsLine plan own specs (taken ∷ []) []) (sym (goes not_reported).1) (
          record { own_facts = s.0.own_facts; own_specs = s.0.own_specs },
          s.2,
          record { weight = λ runs. no_true not_weighed runs; uniform = λ none. refl },
        );
        ends = λ no. no_true no (goes not_reported).0;
      }
    ]
turn-first plan new own specs (first ∷ []) taken answer is over stops goes s = only_first plan own specs first taken is s.2
turn-first plan new own specs (first ∷ second ∷ []) taken answer is over stops goes s = first_uniform is s.2.phase
turn-first plan new own specs (first ∷ second ∷ third ∷ more) taken answer is over stops goes s = absurd s

-- after the uniform pass nothing follows
pub turn-over : (plan : LinearPlan) (own : Facts) (specs : Specs) (past : List (List Measured)) (taken : List Measured) (weighed : Option WeightPass)
    → plan.phase ≡ Uniform weighed → RepresentsLine plan own specs past taken → TurnsLine plan own specs past taken false
turn-over plan own specs [] taken weighed is s = first_uniform s.1 is
turn-over plan own specs (first ∷ []) taken weighed is s = elim (cases_Bool (has_weight_pass own specs first)) [
  | inl runs ↦ weight_uniform (s.2.weight runs).phase is
  | inr over ↦ record { answers = ap (λ v. v && not (is_exact_beside own specs)) (sym over); follows = λ yes. absurd (let e : false ≡ true = yes in cc); ends = λ no. s }
]
turn-over plan own specs (first ∷ second ∷ []) taken weighed is s = record { answers = refl; follows = λ yes. absurd (let e : false ≡ true = yes in cc); ends = λ no. s }
turn-over plan own specs (first ∷ second ∷ third ∷ more) taken weighed is s = absurd s
