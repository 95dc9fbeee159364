-- A child in its turn, gone, skipped or measured; and a view whose whole measuring is over.
use Rattle.std.proofs.Common.{◌≡◌, ℤ, ℕ, ◌<◌, pos, true, false, Some, None, List, [], ◌∷◌, ◌++◌, ap, refl, sym, subst}
use Rattle.std.specs.Option.{option_map}
use Rattle.geom_core.specs.declared.geometry.Size.{Size}
use Rattle.measure_pass.specs.Courses.{AfterAll, AfterPhase, CanTurn, InCourse, IsMeasuredBelow, StaysReady}
use Rattle.kept_views.specs.Kept.{Sized}
use Rattle.measure_pass.specs.Measured.{Costs, calls_under, size_under}
use Rattle.measure_pass.specs.Plans.{RuledView, IsLeaf, IsPlanOf, GroupPlan, Represents, group_by, rule_in}
use Rattle.measure_pass.proofs.Counts.{costs_nothing}
use Rattle.measure_pass.proofs.rules.Laws.{lawful_of}
use Rattle.measure_pass.proofs.held.Parts.{facts_in}
use Rattle.measure_pass.specs.Sharing.{MeasuringTrace}
use Rattle.measure_pass.proofs.Shares.{trace-refl}
use Rattle.measure_pass.proofs.walks.Turns.{asked_row, gone_row, left_row}
use Rattle.measure_pass.proofs.walks.Whole.{begun_course, whole_row}
use Rattle.view_model.specs.Course.{Requested, begun}
use Rattle.view_model.specs.Facts.{is_shown}
use Rattle.view_model.specs.Forest.{Forest, Nothing, Branch}
use Rattle.view_model.specs.Classes.{is_group}
use Rattle.view_model.specs.Layout.{children_of, manner_of, for_layout}
use Rattle.view_model.specs.Leaf.{leaf_rule}
use Rattle.view_model.specs.Measuring.{Manner, ByRule, BySiblings, Measured, Rule, Specs, pair_of, taken_as}
use Rattle.view_model.specs.PlainTree.{PlainView}
use Rattle.view_tree.specs.Rows.{Row, first_tree, head_view, children_of_first, part_from, count_of_key, views_of}
use Rattle.view_tree.specs.Views.{Held, IsLive, IsTree, Views, specs_of}
use Rattle.view_tree.proofs.values.KeptLaws.{no_children_of}
use Rattle.view_tree.proofs.forest.KeyLaws.{located}

pub gone_kid : (plan : GroupPlan) (group : RuledView) (past : List (List Measured)) (taken : List Measured) (tree : Forest Row) (kid : ℕ) (asked : List Requested) (held : ℕ → Held)
    (count : ℕ) → 0 < count_of_key kid tree → is_shown (facts_in (part_from kid tree)) ≡ false → Represents plan group past taken → InCourse held (first_tree (part_from kid tree)) asked
    → AfterPhase plan group past taken asked held held (first_tree (part_from kid tree)) count count
gone_kid plan group past taken tree kid asked held count live gone represents course =
    let x = located kid tree live in
    let course : InCourse held (Branch x.row x.kids Nothing) asked = rw x.is at course in
    let gone : is_shown x.row.view.facts ≡ false = rw x.is at gone in
    rw x.is (gone_row plan group past taken x.row x.kids asked held count gone represents course)

pub skipped_kid : (plan : GroupPlan) (group : RuledView) (past : List (List Measured)) (taken : List Measured) (tree : Forest Row) (kid : ℕ) (asked : List Requested) (held : ℕ → Held)
    (present : Size) (count : ℕ) → 0 < count_of_key kid tree → is_shown (facts_in (part_from kid tree)) ≡ true → present ≡ (held kid).state.measured
    → None ≡ option_map pair_of ((rule_in group).ask past taken (record { facts = facts_in (part_from kid tree); size = present }))
    → Represents plan group past (taken ++ taken_as (rule_in group) past taken (facts_in (part_from kid tree)) present ∷ []) → InCourse held (first_tree (part_from kid tree)) asked
    → CanTurn (rule_in group) past asked
    → AfterPhase plan group past taken asked held held (first_tree (part_from kid tree)) count count
skipped_kid plan group past taken tree kid asked held present count live here present_is answer represents course can =
    let x = located kid tree live in
    let course : InCourse held (Branch x.row x.kids Nothing) asked = rw x.is at course in
    let here : is_shown x.row.view.facts ≡ true = rw x.is at here in
    let present_is : present ≡ (held x.row.key).state.measured = subst (λ key. present ≡ (held key).state.measured) (sym x.key_is) present_is in
    rw x.is (left_row plan group past taken x.row x.kids asked held present count here present_is (rw x.is at answer) (rw x.is at represents) course can)

pub measured_kid : (plan : GroupPlan) (group : RuledView) (past : List (List Measured)) (taken : List Measured) (tree : Forest Row) (kid : ℕ) (asked : List Requested) (before held : ℕ → Held)
    (present size : Size) (specs : Specs) (old new : ℕ) → 0 < count_of_key kid tree → is_shown (facts_in (part_from kid tree)) ≡ true
    → present ≡ (before kid).state.measured
    → Some (pair_of specs) ≡ option_map pair_of ((rule_in group).ask past taken (record { facts = facts_in (part_from kid tree); size = present }))
    → size ≡ size_under (part_from kid tree) specs → Sized held (first_tree (part_from kid tree)) → specs_of (held kid).state ≡ specs
    → Represents plan group past (taken ++ taken_as (rule_in group) past taken (facts_in (part_from kid tree)) size ∷ []) → Costs (first_tree (part_from kid tree)) before held old (calls_under (part_from kid tree) specs) new
    → MeasuringTrace (λ place other. other ≡ specs) (λ place. 1) before held (first_tree (part_from kid tree)) old new
    → InCourse before (first_tree (part_from kid tree)) asked
    → CanTurn (rule_in group) past asked
    → AfterPhase plan group past taken asked before held (first_tree (part_from kid tree)) old new
measured_kid plan group past taken tree kid asked before held present size specs old new live here present_is answer measured sized last represents costs trace course can =
    let x = located kid tree live in
    let course : InCourse before (Branch x.row x.kids Nothing) asked = rw x.is at course in
    let here : is_shown x.row.view.facts ≡ true = rw x.is at here in
    let present_is : present ≡ (before x.row.key).state.measured = subst (λ key. present ≡ (before key).state.measured) (sym x.key_is) present_is in
    let measured : size ≡ size_under (Branch x.row x.kids x.siblings) specs = rw x.is at measured in
    let sized : Sized held (Branch x.row x.kids Nothing) = rw x.is at sized in
    let last : specs_of (held x.row.key).state ≡ specs = subst (λ key. specs_of (held key).state ≡ specs) (sym x.key_is) last in
    let costs : Costs (Branch x.row x.kids Nothing) before held old (calls_under (Branch x.row x.kids x.siblings) specs) new = rw x.is at costs in
    let trace : MeasuringTrace (λ place other. other ≡ specs) (λ place. 1) before held (Branch x.row x.kids Nothing) old new = rw x.is at trace in
    rw x.is (asked_row plan group past taken x.row x.kids x.siblings asked before held present size specs old new here present_is (rw x.is at answer) measured sized last (rw x.is at represents)
    costs trace course can)

-- a view whose whole measuring by a rule is over
pub measured_whole : (views : Views) (view : ℕ) (specs : Specs) (rule : Rule) (before held : ℕ → Held) (answer : Size) (total : ℤ) (old new : ℕ) → IsTree views → IsLive views view
    → (let part = part_from view views.tree in
    manner_of (for_layout (head_view part)) specs ≡ ByRule rule
    → AfterAll (group_by rule (for_layout (head_view part)) specs) 2 (begun (children_of (views_of (children_of_first part)))) before held (children_of_first part) answer total old new
    → IsMeasuredBelow part specs before held answer total old new)
measured_whole views view specs rule before held answer total old new is_tree live is after =
    let x = located view views.tree live in
    let is : manner_of (for_layout x.row.view) specs ≡ ByRule rule = rw x.is at is in
    let after : AfterAll (group_by rule (for_layout x.row.view) specs) 2 (begun (children_of (views_of x.kids))) before held x.kids answer total old new = rw x.is at after in
    let childless : is_group x.row.view.class ≡ false → x.kids ≡ Nothing = rw x.is at (no_children_of views view is_tree) in
    let lawful = lawful_of (for_layout x.row.view) specs rule is in
    let asked = lawful.asked (children_of (views_of x.kids)) (λ leaf. ap (λ kids. children_of (views_of kids)) (childless leaf)) in
    rw x.is (whole_row x.row x.kids x.siblings specs rule before held answer total old new is asked (rw after.size (lawful.width _)) (rw after.size (lawful.height _)) after)

-- a view with a plan measures by a rule
pub record Planned (manner : Manner) (plan : GroupPlan) (view : PlainView) (specs : Specs) : Type 0 where
  pub rule : Rule
  pub is : manner ≡ ByRule rule
  pub represents : Represents plan (group_by rule view specs) [] []

pub planned : (manner : Manner) (plan : GroupPlan) (view : PlainView) (specs : Specs) → IsPlanOf manner plan view specs → Planned manner plan view specs
planned (ByRule rule) plan view specs h = record { rule = rule; is = refl; represents = h }
planned BySiblings plan view specs h = absurd h

-- a view without children
leaf_after : (group : RuledView) (size : Size) (held : ℕ → Held) (list : Forest Row) (count : ℕ) → rule_in group ≡ leaf_rule size → list ≡ Nothing
    → AfterAll group 2 (begun (children_of (views_of list))) held held list size (pos 0) count count
leaf_after group size held list count is none =
    rw (is, none) (record { size = refl; length = refl; represents = tt; more = 0; calls = refl; costs = costs_nothing Nothing held count; trace = trace-refl (λ place other. ⊥) (λ place. 3) held Nothing count })

pub measured_leaf : (views : Views) (view : ℕ) (specs : Specs) (size : Size) (held : ℕ → Held) (count : ℕ) → IsTree views → IsLive views view
    → IsLeaf (for_layout (head_view (part_from view views.tree))) specs size
    → IsMeasuredBelow (part_from view views.tree) specs held held size (pos 0) count count
measured_leaf views view specs size held count is_tree live leaf =
    let part = part_from view views.tree in
    measured_whole views view specs (leaf_rule size) held held size (pos 0) count count is_tree live leaf.is
    (leaf_after (group_by (leaf_rule size) (for_layout (head_view part)) specs) size held (children_of_first part) count refl (no_children_of views view is_tree leaf.alone))

-- a view that was measured whole by its plan
pub measured_planned : (views : Views) (view : ℕ) (specs : Specs) (plan : GroupPlan) (before held : ℕ → Held) (answer : Size) (total : ℤ) (old new : ℕ) → IsTree views → IsLive views view
    → IsPlanOf (manner_of (for_layout (head_view (part_from view views.tree))) specs) plan (for_layout (head_view (part_from view views.tree))) specs
    → ((group : RuledView) (past : List (List Measured)) (kids : List Requested) → Represents plan group past [] → InCourse before (children_of_first (part_from view views.tree)) kids
    → StaysReady (rule_in group) 2 (record { past = past; kids = kids })
    → AfterAll group 2 (record { past = past; kids = kids }) before held (children_of_first (part_from view views.tree)) answer total old new)
    → IsMeasuredBelow (part_from view views.tree) specs before held answer total old new
measured_planned views view specs plan before held answer total old new is_tree live is all =
    let part = part_from view views.tree in
    let own = for_layout (head_view part) in
    let kids = children_of (views_of (children_of_first part)) in
    let p = planned (manner_of own specs) plan own specs is in
    measured_whole views view specs p.rule before held answer total old new is_tree live p.is
    (all (group_by p.rule own specs) [] (begun kids).kids p.represents (begun_course before (children_of_first part)) ((lawful_of own specs p.rule p.is).ready kids))
