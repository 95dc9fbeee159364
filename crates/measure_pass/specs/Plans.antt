-- What a plan of any group has taken so far, and what a view without children measures.
use Rattle.std.specs.Prelude.{◌≡◌, ◌<◌, ℤ, true, false, Bool, Option, List, [], ◌∷◌, ◌++◌, length}
use Rattle.std.specs.Option.{option_map}
use Rattle.frame_layout.specs.FramePlan.{RepresentsFrame}
use Rattle.frame_layout.specs.declared.plan.FramePlan.{FramePlan}
use Rattle.geom_core.specs.declared.geometry.Size.{Size}
use Rattle.geom_core.specs.declared.measuring.Spec.{Spec}
use Rattle.linear_layout.specs.LinearPlan.{AsksNone, RepresentsLinear}
use Rattle.linear_layout.specs.declared.plan.LinearPlan.{LinearPlan}
use Rattle.scroll_view.specs.ScrollPlan.{RepresentsScroll}
use Rattle.scroll_view.specs.declared.plan.ScrollPlan.{ScrollPlan}
use Rattle.view_model.specs.declared.facts.Facts.{Facts}
use Rattle.view_model.specs.Numbers.{max_views}
use Rattle.view_model.specs.FrameLayout.{frame_rule}
use Rattle.view_model.specs.Classes.{is_group}
use Rattle.view_model.specs.Layout.{manner_of}
use Rattle.view_model.specs.Leaf.{leaf_rule}
use Rattle.view_model.specs.LinearLayout.{linear_rule}
use Rattle.view_model.specs.Measuring.{Manner, ByRule, BySiblings, Measured, Rule, Specs, pair_of, taken_as}
use Rattle.view_model.specs.PlainTree.{PlainView}
use Rattle.view_model.specs.ScrollView.{scroll_rule}

-- a view that is measured by a rule: its facts, its specs, and the rule
pub record RuledView : Type 0 where
  pub own : Facts
  pub specs : Specs
  pub rule : Rule

abbrev pub rule_in : RuledView → Rule
rule_in group = group.rule

-- a view with this rule under these specs
abbrev pub group_by : Rule → PlainView → Specs → RuledView
group_by rule view specs = record { own = view.facts; specs = specs; rule = rule }

-- how a group measures its children: in each phase they come in order
pub data GroupPlan : Type 0 where
  Frame : FramePlan → GroupPlan
  Linear : LinearPlan → GroupPlan
  Scroll : ScrollPlan → GroupPlan

-- the plan of a view, once these phases are over and it has taken these children in the next
abbrev pub Represents : GroupPlan → RuledView → List (List Measured) → List Measured → Type 0
Represents (Frame plan) group past taken =
    (rule_in group ≡ frame_rule group.own group.specs) × RepresentsFrame plan group.own group.specs past taken
Represents (Linear plan) group past taken =
    (rule_in group ≡ linear_rule group.own group.specs) × RepresentsLinear plan group.own group.specs past taken
Represents (Scroll plan) group past taken =
    (rule_in group ≡ scroll_rule group.own group.specs) × RepresentsScroll plan group.own group.specs past taken

-- the plan of a view that measures so, before its first child
abbrev pub IsPlanOf : Manner → GroupPlan → PlainView → Specs → Type 0
IsPlanOf (ByRule rule) plan view specs = Represents plan (group_by rule view specs) [] []
IsPlanOf BySiblings plan view specs = ⊥

-- a view of a class without children, and its size under these specs
pub record IsLeaf (view : PlainView) (specs : Specs) (size : Size) : Type 0 where
  pub is : manner_of view specs ≡ ByRule (leaf_rule size)
  pub alone : is_group view.class ≡ false

-- a plan at the end of a phase: whether another follows, and then the plan is at its start
pub record Turned (plan : GroupPlan) (group : RuledView) (past : List (List Measured)) (taken : List Measured)
    (answer : Bool) : Type 0 where
  pub answers : answer ≡ (rule_in group).turns (past ++ taken ∷ [])
  pub follows : answer ≡ true → Represents plan group (past ++ taken ∷ []) []
  pub ends : answer ≡ false → Represents plan group past taken

-- the specs that a plan asks for a child of these facts and this size, if it does
abbrev pub Asks : GroupPlan → Facts → Size → Option (Spec × Spec) → Type 0
Asks plan kid size answer =
    (group : RuledView) (past : List (List Measured)) (taken : List Measured) → Represents plan group past taken
    → answer ≡ option_map pair_of ((rule_in group).ask past taken (record { facts = kid; size = size }))

-- a plan takes such a child
abbrev pub Takes : GroupPlan → GroupPlan → Facts → Size → Type 0
Takes old new kid size =
    (group : RuledView) (past : List (List Measured)) (taken : List Measured) → Represents old group past taken
    → length taken < max_views
    → Represents new group past (taken ++ taken_as (rule_in group) past taken kid size ∷ [])

-- a plan ends a phase, and answers whether another follows
abbrev pub Turns : GroupPlan → GroupPlan → Bool → Type 0
Turns old new answer =
    (group : RuledView) (past : List (List Measured)) (taken : List Measured) → Represents old group past taken
    → Turned new group past taken answer

-- a plan at the start of a phase that asks none of the children of the phase before: taking them changes nothing, and
-- no phase follows
pub record HasIdlePhase (plan : GroupPlan) : Type 0 where
  pub asks : (group : RuledView) (past : List (List Measured)) (last : List Measured)
      → Represents plan group (past ++ last ∷ []) [] → AsksNone ((rule_in group).ask (past ++ last ∷ [])) last
  pub takes : (group : RuledView) (past : List (List Measured)) (taken more : List Measured)
      → Represents plan group past taken → Represents plan group past more
  pub turns : (group : RuledView) (past : List (List Measured)) (taken : List Measured)
      → Represents plan group past taken → (rule_in group).turns (past ++ taken ∷ []) ≡ false

-- the size of a group by its plan after the last phase, and what its children took along its axis
pub record Ends (plan : GroupPlan) (own : Size) (along : ℤ) : Type 0 where
  pub size : (group : RuledView) (past : List (List Measured)) (taken : List Measured)
      → Represents plan group past taken → own ≡ (rule_in group).size (past ++ taken ∷ [])
  pub total : (group : RuledView) (past : List (List Measured)) (taken : List Measured)
      → Represents plan group past taken → along ≡ (rule_in group).total (past ++ taken ∷ [])
