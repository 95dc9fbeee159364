-- A walk over the children of a view, in which each is measured as the plan of the view asks.
use Rattle.std.proofs.Common.{◌≡◌, ◌≤◌, ◌<◌, ◌+◌, ◌∙◌, ℕ, Option, None, Some, List, [], length, refl, subst}
use Rattle.std.specs.Prelude.{IfSome}
use Rattle.kept_views.specs.Kept.{Ready}
use Rattle.measure_pass.specs.Courses.{AfterPhase, CanTurn, InCourse}
use Rattle.measure_pass.specs.Measured.{Counted, Keeps, KeepsRest, kids_from, tree_from}
use Rattle.measure_pass.specs.Phases.{MeasuresNext, MeasuresPhase}
use Rattle.measure_pass.specs.Plans.{RuledView, GroupPlan, Represents, rule_in}
use Rattle.measure_pass.proofs.Counts.{counted_self, counted_then}
use Rattle.measure_pass.proofs.held.Frames.{Ready-alone}
use Rattle.measure_pass.proofs.held.Own.{keeps_self, keeps_trans}
use Rattle.measure_pass.proofs.held.Rests.{same_then}
use Rattle.measure_pass.proofs.walks.Walk.{Phasing, ReadyWalk, phase_end, phase_on, phase_start, ready_end, ready_on, ready_start}
use Rattle.view_model.specs.Numbers.{max_views}
use Rattle.view_model.specs.declared.work.Work.{Work}
use Rattle.view_model.specs.Course.{Requested}
use Rattle.view_model.specs.Forest.{Forest, count_of}
use Rattle.view_model.specs.Measuring.{Measured}
use Rattle.view_tree.specs.Rows.{Row, count_of_key, later_siblings, part_from, rest_from}
use Rattle.view_tree.specs.Views.{IsLive, IsTree, KeepsOutside, SameTree, Views, held_of}
use Rattle.view_tree.proofs.forest.Forests.{live_after}
use Rattle.view_tree.proofs.forest.Walks.{KeepingWalk, count_few, fewer_below, keeping_on, keeping_start, once_from}

-- the children from `next` on are left, and the plan was `first` before them all
pub record PlanWalk (first plan : GroupPlan) (begin now : Views) (kids : Forest Row) (next : Option ℕ) (start count : Work) : Type 0 where
  pub same : SameTree begin now
  pub walked : KeepingWalk begin.tree kids (held_of begin) next (held_of now)
  pub phase : (group : RuledView) (past : List (List Measured)) (asked : List Requested) → Represents first group past [] → InCourse (held_of begin) kids asked → CanTurn (rule_in group) past asked
      → Phasing plan group past asked kids (rest_from next begin.tree) (held_of begin) (held_of now) start.measured count.measured
  pub ready : ReadyWalk kids (rest_from next begin.tree) (held_of now)
  pub keeps : Keeps (held_of begin) (held_of now)
  pub counted : Counted 0 begin now start count

pub plan_start : (plan : GroupPlan) (views : Views) (view : ℕ) (next : Option ℕ) (work : Work) → IsLive views view → IsTree views → Ready (held_of views) (kids_from view views.tree)
    → rest_from next views.tree ≡ kids_from view views.tree → IfSome next (λ kid. IsLive views kid)
    → PlanWalk plan plan views views (kids_from view views.tree) next work work
plan_start plan views view next work live is_tree ready part here =
    let kids = kids_from view views.tree in
    let few = count_few view views.tree live is_tree.few in
    record {
      same = record { tree = refl; orders = refl; next = refl };
      walked = keeping_start views.tree kids (held_of views) next is_tree.keys part here;
      phase = λ group past asked represents course can. rw part (phase_start plan group past asked kids (held_of views) work.measured represents few course can);
      ready = rw part (ready_start kids (held_of views) ready);
      keeps = keeps_self (held_of views);
      counted = counted_self views work;
    }

-- the child whose turn is next
pub record NextKid (views : Views) (kid : ℕ) (whole : Forest Row) : Type 0 where
  pub live : IsLive views kid
  pub fewer : count_of (tree_from kid views.tree) < count_of whole
  pub ready : Ready (held_of views) (tree_from kid views.tree)

pub plan_next : (first plan : GroupPlan) (begin now : Views) (view kid : ℕ) (at : Option ℕ) (start count : Work) → at ≡ Some kid → IsLive begin view
    → PlanWalk first plan begin now (kids_from view begin.tree) at start count → NextKid now kid (tree_from view begin.tree)
plan_next first plan begin now view kid at start count is live walk =
    let walk = rw is at walk in
    let i = walk.walked.walk in
    rw walk.same.tree (record { live = i.live; fewer = fewer_below begin.tree view kid live i; ready = Ready-alone (held_of now) (part_from kid begin.tree) walk.ready.ready })

pub plan_falls : (first plan : GroupPlan) (begin old new : Views) (kids : Forest Row) (kid : ℕ) (at next : Option ℕ) (start count : Work) → at ≡ Some kid
    → PlanWalk first plan begin old kids at start count → SameTree old new → rest_from next new.tree ≡ later_siblings (part_from kid new.tree)
    → count_of (rest_from next new.tree) < count_of (rest_from at old.tree)
plan_falls first plan begin old new kids kid at next start count is walk same part =
    let walk = rw is at walk in
    rw (part, same.tree, walk.same.tree, is) (live_after kid begin.tree walk.walked.walk.live)

pub plan_on : (first before plan : GroupPlan) (begin old new : Views) (kids : Forest Row) (kid : ℕ) (at next : Option ℕ) (start count last : Work) → at ≡ Some kid
    → PlanWalk first before begin old kids at start count
    → MeasuresNext before plan (tree_from kid old.tree) (record { views = old; work = count }) (record { views = new; work = last }) → KeepsRest old new (tree_from kid old.tree) count last
    → rest_from next new.tree ≡ later_siblings (part_from kid new.tree) → IfSome next (λ kid. IsLive new kid)
    → PlanWalk first plan begin new kids next start last
plan_on first before plan begin old new kids kid at next start count last is walk measures rest part live =
    let walk = rw is at walk in
    let tree = begin.tree in
    let same : old.tree ≡ tree = walk.same.tree in
    let now : new.tree ≡ tree = rest.same.tree ∙ same in
    let others : KeepsOutside (held_of old) (held_of new) (tree_from kid tree) =
    subst (λ (tree : Forest Row). KeepsOutside (held_of old) (held_of new) (tree_from kid tree)) same rest.others in
    let ready : Ready (held_of new) (tree_from kid tree) = subst (λ (tree : Forest Row). Ready (held_of new) (tree_from kid tree)) same rest.ready in
    let part : rest_from next tree ≡ later_siblings (part_from kid tree) =
    subst (λ (tree : Forest Row). rest_from next tree ≡ later_siblings (part_from kid tree)) now part in
    let live : IfSome next (λ kid. 0 < count_of_key kid tree) = subst (λ (tree : Forest Row). IfSome next (λ kid. 0 < count_of_key kid tree)) now live in
    let keys = once_from tree kid walk.walked.once walk.walked.walk.live in
    record {
      same = same_then begin old new walk.same rest.same;
      walked = keeping_on tree kids (held_of begin) kid (held_of old) (held_of new) next walk.walked others part live;
      phase = λ group past asked started course can.
          let turn : (taken : List Measured) (first : List Requested) → Represents before group past taken → length taken + count_of (tree_from kid tree) ≤ max_views
          → InCourse (held_of old) (tree_from kid tree) first → CanTurn (rule_in group) past first
          → AfterPhase plan group past taken first (held_of old) (held_of new) (tree_from kid tree) count.measured last.measured =
          rw same at (measures group past) in
          rw part (phase_on before plan group past asked kids (part_from kid tree) (held_of begin) (held_of old) (held_of new) start.measured count.measured last.measured keys
          (walk.phase group past asked started course can) others walk.walked.still turn);
      ready = rw part (ready_on kids (part_from kid tree) (held_of old) (held_of new) keys others ready walk.ready);
      keeps = keeps_trans (held_of begin) (held_of old) (held_of new) walk.keeps rest.keeps;
      counted = counted_then 0 0 begin old new start count last walk.counted rest.counted;
    }

-- no child is left
pub plan_phase : (first plan : GroupPlan) (begin now : Views) (kids : Forest Row) (at : Option ℕ) (start count : Work) → at ≡ None → PlanWalk first plan begin now kids at start count
    → MeasuresPhase first plan kids (record { views = begin; work = start }) (record { views = now; work = count })
plan_phase first plan begin now kids at start count is walk = λ group past asked started course can.
    phase_end plan group past asked kids (held_of begin) (held_of now) start.measured count.measured ((rw is at walk).phase group past asked started course can)

pub plan_rest : (first plan : GroupPlan) (begin now : Views) (kids : Forest Row) (at : Option ℕ) (start count : Work) → at ≡ None → PlanWalk first plan begin now kids at start count
    → KeepsRest begin now kids start count
plan_rest first plan begin now kids at start count is walk =
    let walk = rw is at walk in
    record { ready = ready_end kids (held_of now) walk.ready; same = walk.same; keeps = walk.keeps; others = walk.walked.others; counted = walk.counted }
