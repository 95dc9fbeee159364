use Rattle.std.proofs.Common.{◌≡◌, ◌≢◌, ◌≤◌, ◌<◌, ℕ, [], ◌∷◌, length, get_or, false, Some, subst, ap, sym, ◌∙◌, refl, arith, inl, rules, FitsSigned, w64}
use Rattle.std.proofs.lemmas.Int.{to_z-of_z}
use Rattle.std.specs.Prelude.{pos, slice_index, take}
use Rattle.measure_cache.specs.Entries.{found, put_in}
use Rattle.kept_views.specs.Kept.{Ready}
use Rattle.frame_layout.specs.FramePlan.{RepresentsFrame}
use Rattle.frame_layout.specs.declared.plan.FramePlan.{FramePlan}
use Rattle.linear_layout.specs.LinearPlan.{RepresentsLinear}
use Rattle.linear_layout.specs.declared.plan.LinearPlan.{LinearPlan}
use Rattle.scroll_view.specs.ScrollPlan.{RepresentsScroll}
use Rattle.scroll_view.specs.declared.plan.ScrollPlan.{ScrollPlan}
use Rattle.measure_pass.specs.Plans.{Frame, IsLeaf, IsPlanOf, Linear, Scroll}
use Rattle.measure_pass.specs.Siblings.{AfterTurns, FirstHasSize, FirstIsKnown, IsSettled, TurnIsOver, kids_in, order_on, phase_of}
use Rattle.measure_pass.proofs.walks.AtPlace.{Ready-place}
use Rattle.measure_pass.proofs.held.Calm.{Ready-below}
use Rattle.measure_pass.proofs.Counts.{costs_twice, counted_fewer, counted_none, counted_one, counted_own, counted_self, counted_then}
use Rattle.measure_pass.proofs.relatives.Edged.{costs-edged, trace-edged, ready-edged}
use Rattle.measure_pass.proofs.walks.LeftPhase.{all_left}
use Rattle.measure_pass.proofs.walks.MeasureKid.{measured_leaf, measured_planned}
use Rattle.measure_pass.proofs.held.Own.{Own, current-is, hit_at, keeps_by, keeps_trans, measured_at, new_at, own_absent, sides_at, skip_at}
use Rattle.kept_views.specs.Laying.{Wrote}
use Rattle.measure_pass.proofs.held.Parts.{facts_in}
use Rattle.measure_pass.proofs.walks.Places.{count_in_list, sizes_on}
use Rattle.measure_pass.proofs.relatives.SettledLaws.{trace_both, settled_at, size_as}
use Rattle.measure_pass.proofs.relatives.SiblingTurns.{edges_known, known_then, not_in, once_below, order_length, orders_as, orders_same, size_kept, turn_fixed, turn_gone, turn_taken, turning_end, turning_on, turning_start}
use Rattle.relative_layout.specs.plan.RelativePlan.{spanned_in}
use Rattle.view_model.specs.declared.relative.Axis.TheVariants.{Horizontal, Vertical}
use Rattle.geom_core.specs.declared.geometry.Size.{Size}
use Rattle.view_model.specs.declared.facts.Facts.{Facts}
use Rattle.view_model.proofs.ClassLaws.{manner_leaf}
use Rattle.view_model.specs.Classes.{is_group}
use Rattle.view_model.specs.declared.class.Class.{Class}
use Rattle.view_model.specs.declared.class.Class.TheVariants.{FrameLayout, LinearLayout, ScrollView, RelativeLayout}
use Rattle.view_model.specs.declared.work.Work.{Work}
use Rattle.view_model.specs.Facts.{is_shown, layout_facts}
use Rattle.view_model.specs.Forest.{Branch, count_of}
use Rattle.view_model.specs.Layout.{for_layout, manner_of}
use Rattle.view_model.specs.Leaf.{leaf_rule, leaf_size}
use Rattle.view_model.specs.PlainTree.{PlainView}
use Rattle.view_model.specs.RelativeCourse.{arranged}
use Rattle.view_model.specs.RelativeLayout.{relative_size}
use Rattle.view_model.specs.Measuring.{ByRule, Specs}
use Rattle.view_tree.specs.declared.node.state.State.{State}
use Rattle.view_tree.proofs.forest.Forests.{live_below}
use Rattle.view_tree.specs.Rows.{first_tree, children_of_first, count_of_key, head_view, part_from, siblings_from}
use Rattle.view_tree.specs.Views.{Held, cache_of, held_of, orders_of, specs_of, state_of}
use Rattle.view_tree.proofs.forest.KeyLaws.{located}
use Rattle.view_tree.proofs.values.KeptLaws.{no_children_of}
use Rattle.view_tree.proofs.forest.Walks.{once_from}
use Rattle.view_model.specs.Forest.{Forest}
use Rattle.view_tree.specs.Rows.{Row}
use Rattle.measure_pass.specs.Measured.{KeepsRest, current, done_with, entry_for, kids_from, tree_from}
use Rattle.measure_pass.proofs.walks.PlanPhases.{all_at_0, all_here, all_more}
use Rattle.measure_pass.proofs.walks.PlanTurns.{next_gone, next_left, next_measured}
use Rattle.measure_pass.proofs.walks.PlanWalk.{plan_falls, plan_next, plan_on, plan_phase, plan_rest, plan_start}
use Rattle.measure_pass.proofs.held.Resized.{resized_at}
use Rattle.measure_pass.proofs.held.Rests.{rest_at, rest_kids, rest_measured, rest_none, same_then}
use Rattle.measure_pass.proofs.measuring.+measure.Goals as goal

skipped : (t : ℕ) (c : goal.measure-After-result-1 t) → (let specs : Specs = record { across = c.args.ws; down = c.args.hs } in
    ((state_of c.args.tree.now c.args.view).forced ≡ false) × (specs_of (state_of c.args.tree.now c.args.view) ≡ specs))
skipped t c =
    let specs : Specs = record { across = c.args.ws; down = c.args.hs } in
    current-is (state_of c.args.tree.now c.args.view) specs (ap (λ (state : State). current state specs) (sym c.state-state.ensures.value) ∙ sym c.is_current.ensures ∙ c.if-is_current.true)

own_skipped : (t : ℕ) (c : goal.measure-After-result-1 t) → (let specs : Specs = record { across = c.args.ws; down = c.args.hs } in
    Own (part_from c.args.view c.args.tree.now.tree) c.args.view specs (held_of c.args.tree.now) (held_of c.args.tree.now) c.args.work.now.measured c.args.work.now.measured
    (state_of c.args.tree.now c.args.view).measured)
own_skipped t c =
    let specs : Specs = record { across = c.args.ws; down = c.args.hs } in
    let r = c.requires.ready in
    let s = skipped t c in
    skip_at c.args.tree.now.tree c.args.view (held_of c.args.tree.now) specs c.args.work.now.measured r.live r.shown r.ready s.0 s.1

pub measure-returns-then-is_current-clause-size : goal.measure-returns-then-is_current-clause-size
measure-returns-then-is_current-clause-size t c = ap (λ (state : State). state.measured) c.state-state.ensures.value ∙ (own_skipped t c).size

pub measure-returns-then-is_current-clause-width : goal.measure-returns-then-is_current-clause-width
measure-returns-then-is_current-clause-width t c =
    (sides_at c.args.tree.now.tree c.args.view _ c.state-state.result.measured c.requires.ready.live (ap (λ (state : State). state.measured) c.state-state.ensures.value ∙ (own_skipped t c).size)).0

pub measure-returns-then-is_current-clause-height : goal.measure-returns-then-is_current-clause-height
measure-returns-then-is_current-clause-height t c =
    (sides_at c.args.tree.now.tree c.args.view _ c.state-state.result.measured c.requires.ready.live (ap (λ (state : State). state.measured) c.state-state.ensures.value ∙ (own_skipped t c).size)).1

pub measure-returns-then-is_current-clause-measured : goal.measure-returns-then-is_current-clause-measured
measure-returns-then-is_current-clause-measured t c = measured_at c.args.tree.now c.args.tree.now c.args.view _ _ _ _ _ refl (own_skipped t c)

pub measure-returns-then-is_current-clause-counted : goal.measure-returns-then-is_current-clause-counted
measure-returns-then-is_current-clause-counted t c = counted_self c.args.tree.now c.args.work.now

pub measure-returns-then-is_current-clause-caches : goal.measure-returns-then-is_current-clause-caches
measure-returns-then-is_current-clause-caches t c = (own_skipped t c).trace.caches

pub measure-returns-then-is_current-clause-shares : goal.measure-returns-then-is_current-clause-shares
measure-returns-then-is_current-clause-shares t c = (own_skipped t c).trace.shares

pub measure-returns-then-is_current-clause-busy : goal.measure-returns-then-is_current-clause-busy
measure-returns-then-is_current-clause-busy t c = λ unknown. absurd (unknown (inl (skipped t c)))

own_hit : (t : ℕ) (c : goal.measure_changed-After-hit t) → (let specs : Specs = record { across = c.args.ws; down = c.args.hs } in
    Own (part_from c.args.view c.args.tree.now.tree) c.args.view specs (held_of c.args.tree.now) (held_of c.hit.new.tree) c.args.work.now.measured c.args.work.now.measured
    c.in-Some.size)
own_hit t c =
    let specs : Specs = record { across = c.args.ws; down = c.args.hs } in
    let r = c.requires.ready in
    let there : found (cache_of c.args.tree.now c.args.view) specs ≡ Some c.in-Some.size =
    ap (λ cache. found cache specs) (sym c.cache.ensures) ∙ sym c.find.ensures ∙ c.in-Some.is in
    hit_at c.args.tree.now.tree c.args.view (held_of c.args.tree.now) (held_of c.hit.new.tree) specs c.in-Some.size c.args.work.now.measured c.requires.is_tree.keys
    r.live r.shown r.ready there (record { at = c.hit.ensures.held; others = c.hit.ensures.others }) c.requires.changed

pub measure_changed-returns-in-Some-clause-size : goal.measure_changed-returns-in-Some-clause-size
measure_changed-returns-in-Some-clause-size t c = (own_hit t c).size

pub measure_changed-returns-in-Some-clause-width : goal.measure_changed-returns-in-Some-clause-width
measure_changed-returns-in-Some-clause-width t c = (sides_at c.args.tree.now.tree c.args.view _ c.in-Some.size c.requires.ready.live (own_hit t c).size).0

pub measure_changed-returns-in-Some-clause-height : goal.measure_changed-returns-in-Some-clause-height
measure_changed-returns-in-Some-clause-height t c = (sides_at c.args.tree.now.tree c.args.view _ c.in-Some.size c.requires.ready.live (own_hit t c).size).1

pub measure_changed-returns-in-Some-clause-measured : goal.measure_changed-returns-in-Some-clause-measured
measure_changed-returns-in-Some-clause-measured t c = measured_at c.args.tree.now c.hit.new.tree c.args.view _ _ _ _ _ c.hit.ensures.same.tree (own_hit t c)

pub measure_changed-returns-in-Some-clause-keeps : goal.measure_changed-returns-in-Some-clause-keeps
measure_changed-returns-in-Some-clause-keeps t c = (own_hit t c).keeps

pub measure_changed-returns-in-Some-clause-others : goal.measure_changed-returns-in-Some-clause-others
measure_changed-returns-in-Some-clause-others t c = (own_hit t c).others

pub measure_changed-returns-in-Some-clause-counted : goal.measure_changed-returns-in-Some-clause-counted
measure_changed-returns-in-Some-clause-counted t c = counted_none c.args.tree.now c.hit.new.tree c.args.work.now c.args.work.now c.hit.ensures.counts refl

pub measure_changed-returns-in-Some-clause-costs : goal.measure_changed-returns-in-Some-clause-costs
measure_changed-returns-in-Some-clause-costs t c = (own_hit t c).costs

pub measure_changed-returns-in-Some-clause-caches : goal.measure_changed-returns-in-Some-clause-caches
measure_changed-returns-in-Some-clause-caches t c = (own_hit t c).trace.caches

pub measure_changed-returns-in-Some-clause-shares : goal.measure_changed-returns-in-Some-clause-shares
measure_changed-returns-in-Some-clause-shares t c = (own_hit t c).trace.shares

own_resized : (t : ℕ) (c : goal.measure_changed-After-resize t) → (let specs : Specs = record { across = c.args.ws; down = c.args.hs } in
    Own (part_from c.args.view c.args.tree.now.tree) c.args.view specs (held_of c.args.tree.now) (held_of c.resize.new.tree) c.args.work.now.measured c.args.work.now.measured
    c.in-Some.size)
own_resized t c =
    let specs : Specs = record { across = c.args.ws; down = c.args.hs } in
    let r = c.requires.ready in
    let right = c.is_right_below.ensures c.if-is_right_below.true in
    let there : found (cache_of c.args.tree.now c.args.view) specs ≡ Some c.in-Some.size =
    ap (λ cache. found cache specs) (sym c.cache.ensures) ∙ sym c.find.ensures ∙ c.in-Some.is in
    resized_at c.args.tree.now.tree c.args.view (held_of c.args.tree.now) (held_of c.resize.new.tree) specs c.in-Some.size c.args.work.now.measured c.requires.is_tree.keys
    r.live r.shown r.ready there (record { at = c.resize.ensures.held; others = c.resize.ensures.others }) c.requires.changed right.forced right.marked right.alike
    (no_children_of c.args.tree.now c.args.view c.requires.is_tree)

pub measure_changed-returns-then-is_right_below-clause-size : goal.measure_changed-returns-then-is_right_below-clause-size
measure_changed-returns-then-is_right_below-clause-size t c = (own_resized t c).size

pub measure_changed-returns-then-is_right_below-clause-width : goal.measure_changed-returns-then-is_right_below-clause-width
measure_changed-returns-then-is_right_below-clause-width t c = (sides_at c.args.tree.now.tree c.args.view _ c.in-Some.size c.requires.ready.live (own_resized t c).size).0

pub measure_changed-returns-then-is_right_below-clause-height : goal.measure_changed-returns-then-is_right_below-clause-height
measure_changed-returns-then-is_right_below-clause-height t c = (sides_at c.args.tree.now.tree c.args.view _ c.in-Some.size c.requires.ready.live (own_resized t c).size).1

pub measure_changed-returns-then-is_right_below-clause-measured : goal.measure_changed-returns-then-is_right_below-clause-measured
measure_changed-returns-then-is_right_below-clause-measured t c = measured_at c.args.tree.now c.resize.new.tree c.args.view _ _ _ _ _ c.resize.ensures.same.tree (own_resized t c)

pub measure_changed-returns-then-is_right_below-clause-keeps : goal.measure_changed-returns-then-is_right_below-clause-keeps
measure_changed-returns-then-is_right_below-clause-keeps t c = (own_resized t c).keeps

pub measure_changed-returns-then-is_right_below-clause-others : goal.measure_changed-returns-then-is_right_below-clause-others
measure_changed-returns-then-is_right_below-clause-others t c = (own_resized t c).others

pub measure_changed-returns-then-is_right_below-clause-counted : goal.measure_changed-returns-then-is_right_below-clause-counted
measure_changed-returns-then-is_right_below-clause-counted t c = counted_none c.args.tree.now c.resize.new.tree c.args.work.now c.args.work.now c.resize.ensures.counts refl

pub measure_changed-returns-then-is_right_below-clause-costs : goal.measure_changed-returns-then-is_right_below-clause-costs
measure_changed-returns-then-is_right_below-clause-costs t c = (own_resized t c).costs

pub measure_changed-returns-then-is_right_below-clause-caches : goal.measure_changed-returns-then-is_right_below-clause-caches
measure_changed-returns-then-is_right_below-clause-caches t c = (own_resized t c).trace.caches

pub measure_changed-returns-then-is_right_below-clause-shares : goal.measure_changed-returns-then-is_right_below-clause-shares
measure_changed-returns-then-is_right_below-clause-shares t c = (own_resized t c).trace.shares

pub measure_changed-returns-clause-width : goal.measure_changed-returns-clause-width
measure_changed-returns-clause-width t c = (sides_at c.args.tree.now.tree c.args.view _ c.measure_anew.result c.requires.ready.live c.measure_anew.ensures.size).0

pub measure_changed-returns-clause-height : goal.measure_changed-returns-clause-height
measure_changed-returns-clause-height t c = (sides_at c.args.tree.now.tree c.args.view _ c.measure_anew.result c.requires.ready.live c.measure_anew.ensures.size).1

pub measure_changed-returns-clause-counted : goal.measure_changed-returns-clause-counted
measure_changed-returns-clause-counted t c = counted_fewer 0 1 c.args.tree.now c.measure_anew.new.tree c.args.work.now c.measure_anew.new.work (omega arith) c.measure_anew.ensures.counted

pub measure_anew-measure_below-outcome-requires : goal.measure_anew-measure_below-outcome-requires
measure_anew-measure_below-outcome-requires t c =
    let r = c.requires.ready in
    (omega arith, (r.live, Ready-below (held_of c.args.tree.now) (part_from c.args.view c.args.tree.now.tree) r.shown r.ready))

own_new : (t : ℕ) (c : goal.measure_anew-After-result-1 t) → (let specs : Specs = record { across = c.args.ws; down = c.args.hs } in
    Own (part_from c.args.view c.args.tree.now.tree) c.args.view specs (held_of c.args.tree.now) (held_of c.finish.new.tree) c.args.work.now.measured c.finish.new.work.measured
    c.measure_below-outcome.result.size)
own_new t c =
    let specs : Specs = record { across = c.args.ws; down = c.args.hs } in
    let r = c.requires.ready in
    let k = c.measure_below-outcome.ensures in
    let f = c.finish.ensures in
    let count = ap (λ (work : Work). work.measured) f.counted in
    let total = c.measure_below-outcome.result.total in
    let fits : FitsSigned w64 total = search rules in
    let own = done_with (held_of c.measure_below-outcome.new.tree c.args.view) specs c.measure_below-outcome.result.size in
    let held : held_of c.finish.new.tree c.args.view ≡ own total = f.held ∙ ap own (to_z-of_z w64 total fits) in
    new_at c.args.tree.now.tree c.args.view (held_of c.args.tree.now) (held_of c.measure_below-outcome.new.tree) (held_of c.finish.new.tree) specs
    c.measure_below-outcome.result.size total c.args.work.now.measured c.measure_below-outcome.new.work.measured c.finish.new.work.measured
    k.is_tree.keys r.live r.shown r.ready k.rest.ready k.measured k.rest.keeps k.rest.others (record { at = held; others = f.others }) c.requires.miss c.requires.changed (omega arith)

pub measure_anew-returns-clause-measured : goal.measure_anew-returns-clause-measured
measure_anew-returns-clause-measured t c =
    measured_at c.args.tree.now c.finish.new.tree c.args.view _ _ _ _ _ (c.finish.ensures.same.tree ∙ c.measure_below-outcome.ensures.rest.same.tree) (own_new t c)

pub measure_anew-returns-clause-others : goal.measure_anew-returns-clause-others
measure_anew-returns-clause-others t c = (own_new t c).others

pub measure_anew-returns-clause-keeps : goal.measure_anew-returns-clause-keeps
measure_anew-returns-clause-keeps t c = (own_new t c).keeps

pub measure_anew-returns-clause-counted : goal.measure_anew-returns-clause-counted
measure_anew-returns-clause-counted t c =
    counted_own c.args.tree.now c.measure_below-outcome.new.tree c.finish.new.tree c.args.work.now c.measure_below-outcome.new.work c.finish.new.work c.measure_below-outcome.ensures.rest.counted
    (counted_one c.measure_below-outcome.new.tree c.finish.new.tree c.measure_below-outcome.new.work c.finish.new.work c.finish.ensures.counts c.finish.ensures.counted)

pub measure_anew-returns-clause-costs : goal.measure_anew-returns-clause-costs
measure_anew-returns-clause-costs t c = (own_new t c).costs

pub measure_anew-returns-clause-caches : goal.measure_anew-returns-clause-caches
measure_anew-returns-clause-caches t c = (own_new t c).trace.caches

pub measure_anew-returns-clause-shares : goal.measure_anew-returns-clause-shares
measure_anew-returns-clause-shares t c = (own_new t c).trace.shares

pub measure_anew-returns-clause-cache : goal.measure_anew-returns-clause-cache
measure_anew-returns-clause-cache t c =
    let specs : Specs = record { across = c.args.ws; down = c.args.hs } in
    ap (λ (held : Held). held.cache) c.finish.ensures.held
    ∙ ap (λ (held : Held). put_in held.cache (entry_for specs c.measure_below-outcome.result.size))
    (c.measure_below-outcome.ensures.rest.others c.args.view (own_absent c.args.tree.now.tree c.args.view c.measure_below-outcome.ensures.is_tree.keys c.requires.ready.live))

pub measure_anew-returns-clause-same : goal.measure_anew-returns-clause-same
measure_anew-returns-clause-same t c =
    same_then c.args.tree.now c.measure_below-outcome.new.tree c.finish.new.tree c.measure_below-outcome.ensures.rest.same c.finish.ensures.same

-- a view without children
no_group : (class : Class) → class ≢ FrameLayout → class ≢ LinearLayout → class ≢ ScrollView → class ≢ RelativeLayout → is_group class ≡ false
no_group FrameLayout frame line scroll tied = absurd (frame refl)
no_group LinearLayout frame line scroll tied = absurd (line refl)
no_group ScrollView frame line scroll tied = absurd (scroll refl)
no_group RelativeLayout frame line scroll tied = absurd (tied refl)
no_group _ frame line scroll tied = refl

leaf_is : (view : PlainView) (specs : Specs) (size : Size) → is_group view.class ≡ false → size ≡ leaf_size view.class view specs → IsLeaf view specs size
leaf_is view specs size alone same = record { is = manner_leaf view.class view specs alone ∙ ap (λ size. ByRule (leaf_rule size)) (sym same); alone = alone }

pub measure_below-returns-in_default-clause-measured : goal.measure_below-returns-in_default-clause-measured
measure_below-returns-in_default-clause-measured t c =
    let specs : Specs = record { across = c.args.ws; down = c.args.hs } in
    let own = head_view (part_from c.args.view c.args.tree.now.tree) in
    let d = c.in_default in
    let alone = ap is_group (sym c.class.ensures.value) ∙ no_group c.class.result d.not-FrameLayout d.not-LinearLayout d.not-ScrollView d.not-RelativeLayout in
    measured_leaf c.args.tree.now c.args.view specs c.leaf_size.result (held_of c.args.tree.now) c.args.work.now.measured
    c.class.ensures.is_tree c.requires.live (leaf_is (for_layout own) specs c.leaf_size.result alone c.leaf_size.ensures)

pub measure_below-returns-in_default-clause-rest : goal.measure_below-returns-in_default-clause-rest
measure_below-returns-in_default-clause-rest t c = rest_none c.args.tree.now (kids_from c.args.view c.args.tree.now.tree) c.args.work.now c.requires.ready

is_frame : (view : PlainView) (specs : Specs) (plan : FramePlan) → view.class ≡ FrameLayout → RepresentsFrame plan view.facts specs [] [] → IsPlanOf (manner_of view specs) (Frame plan) view specs
is_frame view specs plan is represents = rw is (refl, represents)

pub frame::measure_frame-returns-clause-measured : goal.frame::measure_frame-returns-clause-measured
frame::measure_frame-returns-clause-measured t c =
    let specs : Specs = record { across = c.args.ws; down = c.args.hs } in
    let m = c.measure_phases in
    measured_planned c.args.tree.now c.args.view specs (Frame c.start-plan.result) (held_of c.args.tree.now) (held_of m.new.tree) m.result (pos 0)
    c.args.work.now.measured m.new.work.measured m.ensures.is_tree c.requires.live
    (is_frame (for_layout (head_view (part_from c.args.view c.args.tree.now.tree))) specs c.start-plan.result c.requires.class (rw (ap layout_facts c.facts.ensures.value) at c.start-plan.ensures))
    m.ensures.phases

pub frame::measure_phases-returns-then-left-eq0-clause-phases : goal.frame::measure_phases-returns-then-left-eq0-clause-phases
frame::measure_phases-returns-then-left-eq0-clause-phases t c =
    all_at_0 (Frame c.args.plan.now) (Frame c.measure_kids.new.plan) c.args.tree.now c.measure_kids.new.tree (kids_from c.args.view c.args.tree.now.tree) c.args.left c.frame_size.result (pos 0)
    c.args.work.now c.measure_kids.new.work c.if-left-eq0.true c.measure_kids.ensures.phase c.frame_size.ensures

pub frame::measure_phases-returns-then-not-frame_turn-clause-phases : goal.frame::measure_phases-returns-then-not-frame_turn-clause-phases
frame::measure_phases-returns-then-not-frame_turn-clause-phases t c =
    all_here (Frame c.args.plan.now) (Frame c.measure_kids.new.plan) (Frame c.frame_turn.new.plan) c.args.tree.now c.measure_kids.new.tree (kids_from c.args.view c.args.tree.now.tree) c.args.left c.frame_size-then-not-frame_turn.result (pos 0)
    c.frame_turn.result c.args.work.now c.measure_kids.new.work c.if-not-frame_turn.true c.measure_kids.ensures.phase c.frame_turn.ensures c.frame_size-then-not-frame_turn.ensures

pub frame::measure_phases-returns-clause-phases : goal.frame::measure_phases-returns-clause-phases
frame::measure_phases-returns-clause-phases t c =
    all_more (Frame c.args.plan.now) (Frame c.measure_kids.new.plan) (Frame c.frame_turn.new.plan) c.args.view c.args.tree.now c.measure_kids.new.tree c.measure_more.new.tree c.args.left c.measure_more.result (pos 0)
    c.frame_turn.result c.args.work.now c.measure_kids.new.work c.measure_more.new.work c.if-left-eq0.false c.if-not-frame_turn.false c.measure_kids.ensures.rest.same.tree
    c.measure_kids.ensures.phase c.frame_turn.ensures c.measure_more.ensures.phases

pub frame::measure_phases-returns-clause-rest : goal.frame::measure_phases-returns-clause-rest
frame::measure_phases-returns-clause-rest t c =
    rest_kids c.args.view c.args.tree.now c.measure_kids.new.tree c.measure_more.new.tree c.args.work.now c.measure_kids.new.work c.measure_more.new.work
    c.measure_kids.ensures.rest c.measure_more.ensures.rest

pub frame::measure_phases-measure_more-requires : goal.frame::measure_phases-measure_more-requires
frame::measure_phases-measure_more-requires t c =
    let k = c.measure_kids.ensures.rest in
    rw k.same.tree (omega arith, (c.requires.live, (omega arith, k.ready)))

pub frame::measure_kids-loop-next-init : goal.frame::measure_kids-loop-next-init
frame::measure_kids-loop-next-init t c =
    let first = c.first-next.ensures in
    plan_start (Frame c.args.plan.now) c.args.tree.now c.args.view c.first-next.result c.args.work.now c.requires.live first.is_tree c.requires.ready first.part first.live

pub frame::measure_kids-measure_kid-requires : goal.frame::measure_kids-measure_kid-requires
frame::measure_kids-measure_kid-requires t c =
    let next = plan_next (Frame c.args.plan.now) (Frame c.loop-next.plan) c.args.tree.now c.loop-next.tree c.args.view c.in-Some.kid c.loop-next.next c.args.work.now c.loop-next.work c.in-Some.is c.requires.live c.loop-next.invariant in
    let fewer = next.fewer in
    (omega arith, (next.live, next.ready))

pub frame::measure_kids-loop-next-smaller : goal.frame::measure_kids-loop-next-smaller
frame::measure_kids-loop-next-smaller t c =
    plan_falls (Frame c.args.plan.now) (Frame c.loop-next.plan) c.args.tree.now c.loop-next.tree c.measure_kid.new.tree (kids_from c.args.view c.args.tree.now.tree) c.in-Some.kid c.loop-next.next c.next-next.result c.args.work.now c.loop-next.work c.in-Some.is
    c.loop-next.invariant c.measure_kid.ensures.rest.same c.next-next.ensures.part

pub frame::measure_kids-loop-next-preserved : goal.frame::measure_kids-loop-next-preserved
frame::measure_kids-loop-next-preserved t c =
    plan_on (Frame c.args.plan.now) (Frame c.loop-next.plan) (Frame c.measure_kid.new.plan) c.args.tree.now c.loop-next.tree c.measure_kid.new.tree (kids_from c.args.view c.args.tree.now.tree) c.in-Some.kid c.loop-next.next c.next-next.result c.args.work.now c.loop-next.work
    c.measure_kid.new.work c.in-Some.is c.loop-next.invariant c.measure_kid.ensures.next c.measure_kid.ensures.rest c.next-next.ensures.part c.next-next.ensures.live

pub frame::measure_kids-returns-clause-phase : goal.frame::measure_kids-returns-clause-phase
frame::measure_kids-returns-clause-phase t c =
    plan_phase (Frame c.args.plan.now) (Frame c.loop-next.plan) c.args.tree.now c.loop-next.tree (kids_from c.args.view c.args.tree.now.tree) c.loop-next.next c.args.work.now c.loop-next.work c.in_default.is c.loop-next.invariant

pub frame::measure_kids-returns-clause-rest : goal.frame::measure_kids-returns-clause-rest
frame::measure_kids-returns-clause-rest t c =
    plan_rest (Frame c.args.plan.now) (Frame c.loop-next.plan) c.args.tree.now c.loop-next.tree (kids_from c.args.view c.args.tree.now.tree) c.loop-next.next c.args.work.now c.loop-next.work c.in_default.is c.loop-next.invariant

pub frame::measure_kid-measure-size-requires : goal.frame::measure_kid-measure-size-requires
frame::measure_kid-measure-size-requires t c =
    let shown = sym (ap is_shown c.facts-facts.ensures.value) ∙ sym c.is_shown.ensures ∙ c.if-not-is_shown.false in
    (omega arith, record { live = c.requires.live; shown = shown; ready = c.requires.ready })

pub frame::measure_kid-returns-then-not-is_shown-clause-next : goal.frame::measure_kid-returns-then-not-is_shown-clause-next
frame::measure_kid-returns-then-not-is_shown-clause-next t c =
    next_gone (Frame c.args.plan.now) c.args.tree.now c.args.kid c.args.work.now c.requires.live (sym (ap is_shown c.facts-facts.ensures.value) ∙ sym c.is_shown.ensures ∙ c.if-not-is_shown.true)

pub frame::measure_kid-returns-in_default-clause-next : goal.frame::measure_kid-returns-in_default-clause-next
frame::measure_kid-returns-in_default-clause-next t c =
    next_left (Frame c.args.plan.now) (Frame c.frame_take.new.plan) c.args.tree.now c.args.kid (layout_facts c.facts-facts.result.now) c.state.result.measured c.frame_ask.result c.args.work.now
    c.requires.live (sym (ap is_shown c.facts-facts.ensures.value) ∙ sym c.is_shown.ensures ∙ c.if-not-is_shown.false) (ap layout_facts c.facts-facts.ensures.value) (ap (λ (state : State). state.measured) c.state.ensures.value)
    c.in_default.is c.frame_ask.ensures c.frame_take.ensures

pub frame::measure_kid-returns-clause-next : goal.frame::measure_kid-returns-clause-next
frame::measure_kid-returns-clause-next t c =
    let m = c.measure-size.ensures in
    next_measured (Frame c.args.plan.now) (Frame c.frame_take-2.new.plan) c.args.tree.now c.measure-size.new.tree c.args.kid (layout_facts c.facts-facts.result.now) (layout_facts c.facts.result.now)
    c.state.result.measured c.measure-size.result (record { across = c.in-Some.across; down = c.in-Some.down }) c.frame_ask.result c.args.work.now c.measure-size.new.work
    c.requires.live (sym (ap is_shown c.facts-facts.ensures.value) ∙ sym c.is_shown.ensures ∙ c.if-not-is_shown.false) (ap layout_facts c.facts-facts.ensures.value) (ap layout_facts c.facts.ensures.value)
    (ap (λ (state : State). state.measured) c.state.ensures.value) c.in-Some.is c.frame_ask.ensures c.frame_take-2.ensures m.same m.size m.measured m.costs (record { caches = m.caches; shares = m.shares })

pub frame::measure_kid-returns-then-not-is_shown-clause-rest : goal.frame::measure_kid-returns-then-not-is_shown-clause-rest
frame::measure_kid-returns-then-not-is_shown-clause-rest t c = rest_none c.args.tree.now (tree_from c.args.kid c.args.tree.now.tree) c.args.work.now c.requires.ready

pub frame::measure_kid-returns-in_default-clause-rest : goal.frame::measure_kid-returns-in_default-clause-rest
frame::measure_kid-returns-in_default-clause-rest t c = rest_none c.args.tree.now (tree_from c.args.kid c.args.tree.now.tree) c.args.work.now c.requires.ready

pub frame::measure_kid-returns-clause-rest : goal.frame::measure_kid-returns-clause-rest
frame::measure_kid-returns-clause-rest t c =
    let m = c.measure-size.ensures in
    rest_measured c.args.tree.now c.measure-size.new.tree c.args.kid _ c.args.work.now c.measure-size.new.work m.same m.measured m.keeps m.others m.counted

is_linear : (view : PlainView) (specs : Specs) (plan : LinearPlan) → view.class ≡ LinearLayout → RepresentsLinear plan view.facts specs [] [] → IsPlanOf (manner_of view specs) (Linear plan) view specs
is_linear view specs plan is represents = rw is (refl, represents)

pub linear::measure_linear-returns-clause-measured : goal.linear::measure_linear-returns-clause-measured
linear::measure_linear-returns-clause-measured t c =
    let specs : Specs = record { across = c.args.ws; down = c.args.hs } in
    let m = c.measure_phases in
    measured_planned c.args.tree.now c.args.view specs (Linear c.start-plan.result) (held_of c.args.tree.now) (held_of m.new.tree) m.result.size m.result.total
    c.args.work.now.measured m.new.work.measured m.ensures.is_tree c.requires.live
    (is_linear (for_layout (head_view (part_from c.args.view c.args.tree.now.tree))) specs c.start-plan.result c.requires.class
    (subst (λ (facts : Facts). RepresentsLinear c.start-plan.result facts specs [] []) (ap layout_facts c.facts.ensures.value) c.start-plan.ensures))
    m.ensures.phases

pub linear::measure_phases-returns-then-left-eq0-clause-phases : goal.linear::measure_phases-returns-then-left-eq0-clause-phases
linear::measure_phases-returns-then-left-eq0-clause-phases t c =
    all_at_0 (Linear c.args.plan.now) (Linear c.measure_kids.new.plan) c.args.tree.now c.measure_kids.new.tree (kids_from c.args.view c.args.tree.now.tree) c.args.left c.linear_outcome.result.size c.linear_outcome.result.total
    c.args.work.now c.measure_kids.new.work c.if-left-eq0.true c.measure_kids.ensures.phase c.linear_outcome.ensures

pub linear::measure_phases-returns-then-not-linear_turn-clause-phases : goal.linear::measure_phases-returns-then-not-linear_turn-clause-phases
linear::measure_phases-returns-then-not-linear_turn-clause-phases t c =
    all_here (Linear c.args.plan.now) (Linear c.measure_kids.new.plan) (Linear c.linear_turn.new.plan) c.args.tree.now c.measure_kids.new.tree (kids_from c.args.view c.args.tree.now.tree) c.args.left c.linear_outcome-then-not-linear_turn.result.size c.linear_outcome-then-not-linear_turn.result.total
    c.linear_turn.result c.args.work.now c.measure_kids.new.work c.if-not-linear_turn.true c.measure_kids.ensures.phase c.linear_turn.ensures c.linear_outcome-then-not-linear_turn.ensures

pub linear::measure_phases-returns-then-linear_leaves_all-clause-phases : goal.linear::measure_phases-returns-then-linear_leaves_all-clause-phases
linear::measure_phases-returns-then-linear_leaves_all-clause-phases t c =
    all_left (Linear c.args.plan.now) (Linear c.measure_kids.new.plan) (Linear c.linear_turn.new.plan) c.args.tree.now c.measure_kids.new.tree (kids_from c.args.view c.args.tree.now.tree) c.args.left c.linear_outcome-then-linear_leaves_all.result.size c.linear_outcome-then-linear_leaves_all.result.total
    c.linear_turn.result c.args.work.now c.measure_kids.new.work c.if-left-eq0.false c.if-not-linear_turn.false c.measure_kids.ensures.phase c.linear_turn.ensures (c.linear_leaves_all.ensures c.if-linear_leaves_all.true) c.linear_outcome-then-linear_leaves_all.ensures

pub linear::measure_phases-returns-clause-phases : goal.linear::measure_phases-returns-clause-phases
linear::measure_phases-returns-clause-phases t c =
    all_more (Linear c.args.plan.now) (Linear c.measure_kids.new.plan) (Linear c.linear_turn.new.plan) c.args.view c.args.tree.now c.measure_kids.new.tree c.measure_more.new.tree c.args.left c.measure_more.result.size c.measure_more.result.total
    c.linear_turn.result c.args.work.now c.measure_kids.new.work c.measure_more.new.work c.if-left-eq0.false c.if-not-linear_turn.false c.measure_kids.ensures.rest.same.tree
    c.measure_kids.ensures.phase c.linear_turn.ensures c.measure_more.ensures.phases

pub linear::measure_phases-returns-clause-rest : goal.linear::measure_phases-returns-clause-rest
linear::measure_phases-returns-clause-rest t c =
    rest_kids c.args.view c.args.tree.now c.measure_kids.new.tree c.measure_more.new.tree c.args.work.now c.measure_kids.new.work c.measure_more.new.work
    c.measure_kids.ensures.rest c.measure_more.ensures.rest

pub linear::measure_phases-measure_more-requires : goal.linear::measure_phases-measure_more-requires
linear::measure_phases-measure_more-requires t c =
    let k = c.measure_kids.ensures.rest in
    rw k.same.tree (omega arith, (c.requires.live, (omega arith, k.ready)))

pub linear::measure_kids-loop-next-init : goal.linear::measure_kids-loop-next-init
linear::measure_kids-loop-next-init t c =
    let first = c.first-next.ensures in
    plan_start (Linear c.args.plan.now) c.args.tree.now c.args.view c.first-next.result c.args.work.now c.requires.live first.is_tree c.requires.ready first.part first.live

pub linear::measure_kids-measure_kid-requires : goal.linear::measure_kids-measure_kid-requires
linear::measure_kids-measure_kid-requires t c =
    let next = plan_next (Linear c.args.plan.now) (Linear c.loop-next.plan) c.args.tree.now c.loop-next.tree c.args.view c.in-Some.kid c.loop-next.next c.args.work.now c.loop-next.work c.in-Some.is c.requires.live c.loop-next.invariant in
    let fewer = next.fewer in
    (omega arith, (next.live, next.ready))

pub linear::measure_kids-loop-next-smaller : goal.linear::measure_kids-loop-next-smaller
linear::measure_kids-loop-next-smaller t c =
    plan_falls (Linear c.args.plan.now) (Linear c.loop-next.plan) c.args.tree.now c.loop-next.tree c.measure_kid.new.tree (kids_from c.args.view c.args.tree.now.tree) c.in-Some.kid c.loop-next.next c.next-next.result c.args.work.now c.loop-next.work c.in-Some.is
    c.loop-next.invariant c.measure_kid.ensures.rest.same c.next-next.ensures.part

pub linear::measure_kids-loop-next-preserved : goal.linear::measure_kids-loop-next-preserved
linear::measure_kids-loop-next-preserved t c =
    plan_on (Linear c.args.plan.now) (Linear c.loop-next.plan) (Linear c.measure_kid.new.plan) c.args.tree.now c.loop-next.tree c.measure_kid.new.tree (kids_from c.args.view c.args.tree.now.tree) c.in-Some.kid c.loop-next.next c.next-next.result c.args.work.now c.loop-next.work
    c.measure_kid.new.work c.in-Some.is c.loop-next.invariant c.measure_kid.ensures.next c.measure_kid.ensures.rest c.next-next.ensures.part c.next-next.ensures.live

pub linear::measure_kids-returns-clause-phase : goal.linear::measure_kids-returns-clause-phase
linear::measure_kids-returns-clause-phase t c =
    plan_phase (Linear c.args.plan.now) (Linear c.loop-next.plan) c.args.tree.now c.loop-next.tree (kids_from c.args.view c.args.tree.now.tree) c.loop-next.next c.args.work.now c.loop-next.work c.in_default.is c.loop-next.invariant

pub linear::measure_kids-returns-clause-rest : goal.linear::measure_kids-returns-clause-rest
linear::measure_kids-returns-clause-rest t c =
    plan_rest (Linear c.args.plan.now) (Linear c.loop-next.plan) c.args.tree.now c.loop-next.tree (kids_from c.args.view c.args.tree.now.tree) c.loop-next.next c.args.work.now c.loop-next.work c.in_default.is c.loop-next.invariant

pub linear::measure_kid-measure-size-requires : goal.linear::measure_kid-measure-size-requires
linear::measure_kid-measure-size-requires t c =
    let shown = sym (ap is_shown c.facts-facts.ensures.value) ∙ sym c.is_shown.ensures ∙ c.if-not-is_shown.false in
    (omega arith, record { live = c.requires.live; shown = shown; ready = c.requires.ready })

pub linear::measure_kid-returns-then-not-is_shown-clause-next : goal.linear::measure_kid-returns-then-not-is_shown-clause-next
linear::measure_kid-returns-then-not-is_shown-clause-next t c =
    next_gone (Linear c.args.plan.now) c.args.tree.now c.args.kid c.args.work.now c.requires.live (sym (ap is_shown c.facts-facts.ensures.value) ∙ sym c.is_shown.ensures ∙ c.if-not-is_shown.true)

pub linear::measure_kid-returns-in_default-clause-next : goal.linear::measure_kid-returns-in_default-clause-next
linear::measure_kid-returns-in_default-clause-next t c =
    next_left (Linear c.args.plan.now) (Linear c.linear_take.new.plan) c.args.tree.now c.args.kid (layout_facts c.facts-facts.result.now) c.state.result.measured c.linear_ask.result c.args.work.now
    c.requires.live (sym (ap is_shown c.facts-facts.ensures.value) ∙ sym c.is_shown.ensures ∙ c.if-not-is_shown.false) (ap layout_facts c.facts-facts.ensures.value) (ap (λ (state : State). state.measured) c.state.ensures.value)
    c.in_default.is c.linear_ask.ensures c.linear_take.ensures

pub linear::measure_kid-returns-clause-next : goal.linear::measure_kid-returns-clause-next
linear::measure_kid-returns-clause-next t c =
    let m = c.measure-size.ensures in
    next_measured (Linear c.args.plan.now) (Linear c.linear_take-2.new.plan) c.args.tree.now c.measure-size.new.tree c.args.kid (layout_facts c.facts-facts.result.now) (layout_facts c.facts.result.now)
    c.state.result.measured c.measure-size.result (record { across = c.in-Some.across; down = c.in-Some.down }) c.linear_ask.result c.args.work.now c.measure-size.new.work
    c.requires.live (sym (ap is_shown c.facts-facts.ensures.value) ∙ sym c.is_shown.ensures ∙ c.if-not-is_shown.false) (ap layout_facts c.facts-facts.ensures.value) (ap layout_facts c.facts.ensures.value)
    (ap (λ (state : State). state.measured) c.state.ensures.value) c.in-Some.is c.linear_ask.ensures c.linear_take-2.ensures m.same m.size m.measured m.costs (record { caches = m.caches; shares = m.shares })

pub linear::measure_kid-returns-then-not-is_shown-clause-rest : goal.linear::measure_kid-returns-then-not-is_shown-clause-rest
linear::measure_kid-returns-then-not-is_shown-clause-rest t c = rest_none c.args.tree.now (tree_from c.args.kid c.args.tree.now.tree) c.args.work.now c.requires.ready

pub linear::measure_kid-returns-in_default-clause-rest : goal.linear::measure_kid-returns-in_default-clause-rest
linear::measure_kid-returns-in_default-clause-rest t c = rest_none c.args.tree.now (tree_from c.args.kid c.args.tree.now.tree) c.args.work.now c.requires.ready

pub linear::measure_kid-returns-clause-rest : goal.linear::measure_kid-returns-clause-rest
linear::measure_kid-returns-clause-rest t c =
    let m = c.measure-size.ensures in
    rest_measured c.args.tree.now c.measure-size.new.tree c.args.kid _ c.args.work.now c.measure-size.new.work m.same m.measured m.keeps m.others m.counted

is_scroll : (view : PlainView) (specs : Specs) (plan : ScrollPlan) → view.class ≡ ScrollView → RepresentsScroll plan view.facts specs [] [] → IsPlanOf (manner_of view specs) (Scroll plan) view specs
is_scroll view specs plan is represents = rw is (refl, represents)

pub scroll::measure_scroll-returns-clause-measured : goal.scroll::measure_scroll-returns-clause-measured
scroll::measure_scroll-returns-clause-measured t c =
    let specs : Specs = record { across = c.args.ws; down = c.args.hs } in
    let m = c.measure_phases in
    measured_planned c.args.tree.now c.args.view specs (Scroll c.start-plan.result) (held_of c.args.tree.now) (held_of m.new.tree) m.result (pos 0)
    c.args.work.now.measured m.new.work.measured m.ensures.is_tree c.requires.live
    (is_scroll (for_layout (head_view (part_from c.args.view c.args.tree.now.tree))) specs c.start-plan.result c.requires.class (rw (ap layout_facts c.facts.ensures.value) at c.start-plan.ensures))
    m.ensures.phases

pub scroll::measure_phases-returns-then-left-eq0-clause-phases : goal.scroll::measure_phases-returns-then-left-eq0-clause-phases
scroll::measure_phases-returns-then-left-eq0-clause-phases t c =
    all_at_0 (Scroll c.args.plan.now) (Scroll c.measure_kids.new.plan) c.args.tree.now c.measure_kids.new.tree (kids_from c.args.view c.args.tree.now.tree) c.args.left c.scroll_size.result (pos 0)
    c.args.work.now c.measure_kids.new.work c.if-left-eq0.true c.measure_kids.ensures.phase c.scroll_size.ensures

pub scroll::measure_phases-returns-then-not-scroll_turn-clause-phases : goal.scroll::measure_phases-returns-then-not-scroll_turn-clause-phases
scroll::measure_phases-returns-then-not-scroll_turn-clause-phases t c =
    all_here (Scroll c.args.plan.now) (Scroll c.measure_kids.new.plan) (Scroll c.scroll_turn.new.plan) c.args.tree.now c.measure_kids.new.tree (kids_from c.args.view c.args.tree.now.tree) c.args.left c.scroll_size-then-not-scroll_turn.result (pos 0)
    c.scroll_turn.result c.args.work.now c.measure_kids.new.work c.if-not-scroll_turn.true c.measure_kids.ensures.phase c.scroll_turn.ensures c.scroll_size-then-not-scroll_turn.ensures

pub scroll::measure_phases-returns-clause-phases : goal.scroll::measure_phases-returns-clause-phases
scroll::measure_phases-returns-clause-phases t c =
    all_more (Scroll c.args.plan.now) (Scroll c.measure_kids.new.plan) (Scroll c.scroll_turn.new.plan) c.args.view c.args.tree.now c.measure_kids.new.tree c.measure_more.new.tree c.args.left c.measure_more.result (pos 0)
    c.scroll_turn.result c.args.work.now c.measure_kids.new.work c.measure_more.new.work c.if-left-eq0.false c.if-not-scroll_turn.false c.measure_kids.ensures.rest.same.tree
    c.measure_kids.ensures.phase c.scroll_turn.ensures c.measure_more.ensures.phases

pub scroll::measure_phases-returns-clause-rest : goal.scroll::measure_phases-returns-clause-rest
scroll::measure_phases-returns-clause-rest t c =
    rest_kids c.args.view c.args.tree.now c.measure_kids.new.tree c.measure_more.new.tree c.args.work.now c.measure_kids.new.work c.measure_more.new.work
    c.measure_kids.ensures.rest c.measure_more.ensures.rest

pub scroll::measure_phases-measure_more-requires : goal.scroll::measure_phases-measure_more-requires
scroll::measure_phases-measure_more-requires t c =
    let k = c.measure_kids.ensures.rest in
    rw k.same.tree (omega arith, (c.requires.live, (omega arith, k.ready)))

pub scroll::measure_kids-loop-next-init : goal.scroll::measure_kids-loop-next-init
scroll::measure_kids-loop-next-init t c =
    let first = c.first-next.ensures in
    plan_start (Scroll c.args.plan.now) c.args.tree.now c.args.view c.first-next.result c.args.work.now c.requires.live first.is_tree c.requires.ready first.part first.live

pub scroll::measure_kids-measure_kid-requires : goal.scroll::measure_kids-measure_kid-requires
scroll::measure_kids-measure_kid-requires t c =
    let next = plan_next (Scroll c.args.plan.now) (Scroll c.loop-next.plan) c.args.tree.now c.loop-next.tree c.args.view c.in-Some.kid c.loop-next.next c.args.work.now c.loop-next.work c.in-Some.is c.requires.live c.loop-next.invariant in
    let fewer = next.fewer in
    (omega arith, (next.live, next.ready))

pub scroll::measure_kids-loop-next-smaller : goal.scroll::measure_kids-loop-next-smaller
scroll::measure_kids-loop-next-smaller t c =
    plan_falls (Scroll c.args.plan.now) (Scroll c.loop-next.plan) c.args.tree.now c.loop-next.tree c.measure_kid.new.tree (kids_from c.args.view c.args.tree.now.tree) c.in-Some.kid c.loop-next.next c.next-next.result c.args.work.now c.loop-next.work c.in-Some.is
    c.loop-next.invariant c.measure_kid.ensures.rest.same c.next-next.ensures.part

pub scroll::measure_kids-loop-next-preserved : goal.scroll::measure_kids-loop-next-preserved
scroll::measure_kids-loop-next-preserved t c =
    plan_on (Scroll c.args.plan.now) (Scroll c.loop-next.plan) (Scroll c.measure_kid.new.plan) c.args.tree.now c.loop-next.tree c.measure_kid.new.tree (kids_from c.args.view c.args.tree.now.tree) c.in-Some.kid c.loop-next.next c.next-next.result c.args.work.now c.loop-next.work
    c.measure_kid.new.work c.in-Some.is c.loop-next.invariant c.measure_kid.ensures.next c.measure_kid.ensures.rest c.next-next.ensures.part c.next-next.ensures.live

pub scroll::measure_kids-returns-clause-phase : goal.scroll::measure_kids-returns-clause-phase
scroll::measure_kids-returns-clause-phase t c =
    plan_phase (Scroll c.args.plan.now) (Scroll c.loop-next.plan) c.args.tree.now c.loop-next.tree (kids_from c.args.view c.args.tree.now.tree) c.loop-next.next c.args.work.now c.loop-next.work c.in_default.is c.loop-next.invariant

pub scroll::measure_kids-returns-clause-rest : goal.scroll::measure_kids-returns-clause-rest
scroll::measure_kids-returns-clause-rest t c =
    plan_rest (Scroll c.args.plan.now) (Scroll c.loop-next.plan) c.args.tree.now c.loop-next.tree (kids_from c.args.view c.args.tree.now.tree) c.loop-next.next c.args.work.now c.loop-next.work c.in_default.is c.loop-next.invariant

pub scroll::measure_kid-measure-size-requires : goal.scroll::measure_kid-measure-size-requires
scroll::measure_kid-measure-size-requires t c =
    let shown = sym (ap is_shown c.facts-facts.ensures.value) ∙ sym c.is_shown.ensures ∙ c.if-not-is_shown.false in
    (omega arith, record { live = c.requires.live; shown = shown; ready = c.requires.ready })

pub scroll::measure_kid-returns-then-not-is_shown-clause-next : goal.scroll::measure_kid-returns-then-not-is_shown-clause-next
scroll::measure_kid-returns-then-not-is_shown-clause-next t c =
    next_gone (Scroll c.args.plan.now) c.args.tree.now c.args.kid c.args.work.now c.requires.live (sym (ap is_shown c.facts-facts.ensures.value) ∙ sym c.is_shown.ensures ∙ c.if-not-is_shown.true)

pub scroll::measure_kid-returns-in_default-clause-next : goal.scroll::measure_kid-returns-in_default-clause-next
scroll::measure_kid-returns-in_default-clause-next t c =
    next_left (Scroll c.args.plan.now) (Scroll c.scroll_take.new.plan) c.args.tree.now c.args.kid (layout_facts c.facts-facts.result.now) c.state.result.measured c.scroll_ask.result c.args.work.now
    c.requires.live (sym (ap is_shown c.facts-facts.ensures.value) ∙ sym c.is_shown.ensures ∙ c.if-not-is_shown.false) (ap layout_facts c.facts-facts.ensures.value) (ap (λ (state : State). state.measured) c.state.ensures.value)
    c.in_default.is c.scroll_ask.ensures c.scroll_take.ensures

pub scroll::measure_kid-returns-clause-next : goal.scroll::measure_kid-returns-clause-next
scroll::measure_kid-returns-clause-next t c =
    let m = c.measure-size.ensures in
    next_measured (Scroll c.args.plan.now) (Scroll c.scroll_take-2.new.plan) c.args.tree.now c.measure-size.new.tree c.args.kid (layout_facts c.facts-facts.result.now) (layout_facts c.facts.result.now)
    c.state.result.measured c.measure-size.result (record { across = c.in-Some.across; down = c.in-Some.down }) c.scroll_ask.result c.args.work.now c.measure-size.new.work
    c.requires.live (sym (ap is_shown c.facts-facts.ensures.value) ∙ sym c.is_shown.ensures ∙ c.if-not-is_shown.false) (ap layout_facts c.facts-facts.ensures.value) (ap layout_facts c.facts.ensures.value)
    (ap (λ (state : State). state.measured) c.state.ensures.value) c.in-Some.is c.scroll_ask.ensures c.scroll_take-2.ensures m.same m.size m.measured m.costs (record { caches = m.caches; shares = m.shares })

pub scroll::measure_kid-returns-then-not-is_shown-clause-rest : goal.scroll::measure_kid-returns-then-not-is_shown-clause-rest
scroll::measure_kid-returns-then-not-is_shown-clause-rest t c = rest_none c.args.tree.now (tree_from c.args.kid c.args.tree.now.tree) c.args.work.now c.requires.ready

pub scroll::measure_kid-returns-in_default-clause-rest : goal.scroll::measure_kid-returns-in_default-clause-rest
scroll::measure_kid-returns-in_default-clause-rest t c = rest_none c.args.tree.now (tree_from c.args.kid c.args.tree.now.tree) c.args.work.now c.requires.ready

pub scroll::measure_kid-returns-clause-rest : goal.scroll::measure_kid-returns-clause-rest
scroll::measure_kid-returns-clause-rest t c =
    let m = c.measure-size.ensures in
    rest_measured c.args.tree.now c.measure-size.new.tree c.args.kid _ c.args.work.now c.measure-size.new.work m.same m.measured m.keeps m.others m.counted

pub relative::measure_siblings-measure_turns-requires-2 : goal.relative::measure_siblings-measure_turns-requires-2
relative::measure_siblings-measure_turns-requires-2 t c =
    let one = c.measure_turns.ensures.rest in
    rw one.same.tree (omega arith, (c.requires.live, (c.requires.siblings, one.ready)))

pub relative::measure_siblings-settle-requires : goal.relative::measure_siblings-settle-requires
relative::measure_siblings-settle-requires t c =
    let one = c.measure_turns.ensures in
    let two = c.measure_turns-2.ensures in
    let sizes = rw one.rest.same.tree at two.sizes in
    rw (two.rest.same.tree, one.rest.same.tree) (record { live = c.requires.live; siblings = c.requires.siblings; sizes = sizes })

pub relative::measure_siblings-returns-clause-rest : goal.relative::measure_siblings-returns-clause-rest
relative::measure_siblings-returns-clause-rest t c =
    let a = c.args.tree.now in
    let mid = c.measure_turns-2.new.tree in
    let end = c.settle.new.tree in
    let work = c.measure_turns-2.new.work in
    let s = c.settle.ensures in
    let both = rest_kids c.args.view a c.measure_turns.new.tree mid c.args.work.now c.measure_turns.new.work work c.measure_turns.ensures.rest c.measure_turns-2.ensures.rest in
    let settled : KeepsRest mid end (kids_from c.args.view mid.tree) work work =
    record { ready = s.ready (rw both.same.tree both.ready); same = s.same; keeps = s.keeps; others = s.others; counted = counted_none mid end work work s.counts refl } in
    rest_kids c.args.view a mid end c.args.work.now work work both settled

pub relative::measure_siblings-returns-clause-measured : goal.relative::measure_siblings-returns-clause-measured
relative::measure_siblings-returns-clause-measured t c =
    let tree = c.args.tree.now.tree in
    let specs : Specs = record { across = c.args.ws; down = c.args.hs } in
    let part = part_from c.args.view tree in
    let list = children_of_first part in
    let own = layout_facts (head_view part).facts in
    let kids = kids_in list in
    let orders = orders_of c.args.tree.now c.args.view in
    let wide = phase_of Horizontal own specs kids in
    let high = phase_of Vertical own specs kids in
    let first = spanned_in kids wide.spans orders.across in
    let facts_is : layout_facts c.facts.result.now ≡ own = ap layout_facts c.facts.ensures.value in
    let one = c.measure_turns.ensures in
    let across = one.turns own specs [] (rw facts_is at c.start-plan.ensures) refl (λ place. tt) in
    let turned = c.turn.ensures own specs [] first across.plan_represents in
    let two = c.measure_turns-2.ensures in
    let known = known_then own specs (held_of c.measure_turns.new.tree) list across.over in
    let known = subst (λ tree. (place : ℕ) → FirstIsKnown Vertical (held_of c.measure_turns.new.tree) ((phase_of Vertical own specs (kids_in (children_of_first (part_from c.args.view tree)))).before place)
    (siblings_from place (children_of_first (part_from c.args.view tree)))) (sym one.rest.same.tree) known in
    let down = two.turns own specs (first ∷ []) (turned.follows turned.answers) refl known in
    let down = subst (λ tree. AfterTurns c.measure_turns-2.new.plan own specs (first ∷ []) (phase_of Vertical own specs (kids_in (children_of_first (part_from c.args.view tree))))
    (order_on Vertical (orders_of c.measure_turns.new.tree c.args.view)) (held_of c.measure_turns.new.tree) (held_of c.measure_turns-2.new.tree)
    (children_of_first (part_from c.args.view tree)) c.measure_turns.new.work.measured c.measure_turns-2.new.work.measured) one.rest.same.tree down in
    let down = subst (λ orders. AfterTurns c.measure_turns-2.new.plan own specs (first ∷ []) high (order_on Vertical orders) (held_of c.measure_turns.new.tree)
    (held_of c.measure_turns-2.new.tree) list c.measure_turns.new.work.measured c.measure_turns-2.new.work.measured)
    (orders_same c.args.tree.now c.measure_turns.new.tree c.args.view one.rest.same) down in
    let size = c.finish.ensures.value own specs first (spanned_in kids high.spans orders.down) down.plan_represents in
    let are = one.ordered in
    let second = spanned_in kids high.spans orders.down in
    let settled = subst (λ tree. let list = children_of_first (part_from c.args.view tree) in
    relative_size own specs first second ≡ (arranged own specs (kids_in list)).size
    → ((place : ℕ) → place < length (kids_in list) → TurnIsOver (phase_of Vertical own specs (kids_in list)) (held_of c.measure_turns-2.new.tree) list place)
    → (place : ℕ) → place < length (kids_in list) → IsSettled own specs (held_of c.settle.new.tree) list place) (two.rest.same.tree ∙ one.rest.same.tree)
    (c.settle.ensures.settled own specs first second down.plan_represents) in
    settled_at tree c.args.view specs orders (held_of c.args.tree.now) (held_of c.settle.new.tree) c.finish.result (pos 0) c.args.work.now.measured c.measure_turns-2.new.work.measured
    c.requires.live c.requires.siblings are (size ∙ size_as own specs list orders are) refl c.finish.ensures.width c.finish.ensures.height
    (settled (size_as own specs list orders are) down.over)
    (costs_twice list (held_of c.args.tree.now) (held_of c.measure_turns.new.tree) (held_of c.settle.new.tree) c.args.work.now.measured c.measure_turns.new.work.measured c.measure_turns-2.new.work.measured _ _ across.costs
    (costs-edged list (held_of c.measure_turns.new.tree) (held_of c.measure_turns-2.new.tree) (held_of c.settle.new.tree) c.measure_turns.new.work.measured _ c.measure_turns-2.new.work.measured c.settle.ensures.edged down.costs))
    (trace_both own specs (held_of c.args.tree.now) (held_of c.measure_turns.new.tree) (held_of c.settle.new.tree) list c.args.work.now.measured c.measure_turns.new.work.measured c.measure_turns-2.new.work.measured across.trace
    (trace-edged _ (λ place. 1) (held_of c.measure_turns.new.tree) (held_of c.measure_turns-2.new.tree) (held_of c.settle.new.tree) list c.measure_turns.new.work.measured c.measure_turns-2.new.work.measured c.settle.ensures.edged down.trace))

pub relative::measure_turns-returns-clause-turns : goal.relative::measure_turns-returns-clause-turns
relative::measure_turns-returns-clause-turns t c = λ own specs past represents axis known.
    let list = children_of_first (part_from c.args.view c.args.tree.now.tree) in
    let orders = orders_of c.args.tree.now c.args.view in
    let order = order_on c.args.axis orders in
    let size = order_length c.args.axis list orders c.turns-turn-end.ensures.ordered in
    let is = orders_as c.args.axis list orders c.turns-turn-end.ensures.ordered in
    turning_end c.loop-turn.plan c.args.axis own specs past order c.loop-turn.turn (held_of c.args.tree.now) (held_of c.loop-turn.tree) list c.args.work.now.measured c.loop-turn.work.measured
    (omega arith) (omega arith) (λ place small. is.each place (omega (arith, is.size, size))) (c.loop-turn.invariant.turning own specs past represents axis known)

pub relative::measure_turns-loop-turn-init : goal.relative::measure_turns-loop-turn-init
relative::measure_turns-loop-turn-init t c =
    let list = kids_from c.args.view c.args.tree.now.tree in
    let order = order_on c.args.axis (orders_of c.args.tree.now c.args.view) in
    record {
      turning = λ own specs past represents is known. turning_start c.args.plan.now c.args.axis own specs past order (held_of c.args.tree.now) list c.args.work.now.measured represents known;
      sizes = λ q small. absurd (omega arith);
      rest = rest_none c.args.tree.now list c.args.work.now c.requires.ready;
      replaced = rw c.none-replaced.ensures (tt, tt, tt, tt);
    }

pub relative::measure_turns-returns-clause-sizes : goal.relative::measure_turns-returns-clause-sizes
relative::measure_turns-returns-clause-sizes t c = λ place small.
    let list = children_of_first (part_from c.args.view c.args.tree.now.tree) in
    let orders = orders_of c.args.tree.now c.args.view in
    let size = order_length c.args.axis list orders c.turns-turn-end.ensures.ordered in
    let is = orders_as c.args.axis list orders c.turns-turn-end.ensures.ordered in
    let q = is.each place (omega (arith, is.size)) in
    subst (λ place. FirstHasSize (held_of c.loop-turn.tree) (siblings_from place list)) q.2 (c.loop-turn.invariant.sizes q.0 (omega (arith, q.1)))

pub relative::measure_turns-loop-turn-preserved : goal.relative::measure_turns-loop-turn-preserved
relative::measure_turns-loop-turn-preserved t c =
    let tree = c.args.tree.now.tree in
    let list = children_of_first (part_from c.args.view tree) in
    let orders = orders_of c.args.tree.now c.args.view in
    let order = order_on c.args.axis orders in
    let turn = c.loop-turn.turn in
    let i = c.loop-turn.invariant in
    let same = i.rest.same in
    let old = held_of c.loop-turn.tree in
    let new = held_of c.measure_in_turn.new.tree in
    let m = c.measure_in_turn.ensures in
    let is = orders_as c.args.axis list orders c.turns-turn-end.ensures.ordered in
    let inside : turn < length order = omega (arith, order_length c.args.axis list orders c.turns-turn-end.ensures.ordered) in
    let part : part_from c.kid_in_turn-kid.result tree ≡ siblings_from (get_or order turn 0) list = rw (same.tree, same.orders) at c.kid_in_turn-kid.ensures.part in
    let once : (key : ℕ) → count_of_key key list ≤ 1 = once_below c.args.view tree c.requires.live (rw same.tree at c.kid_in_turn-kid.ensures.is_tree.keys) in
    let rest : KeepsRest c.loop-turn.tree c.measure_in_turn.new.tree (first_tree (siblings_from (get_or order turn 0) list)) c.loop-turn.work c.measure_in_turn.new.work =
    rw part at (subst (λ (tree : Forest Row). KeepsRest c.loop-turn.tree c.measure_in_turn.new.tree (tree_from c.kid_in_turn-kid.result tree) c.loop-turn.work c.measure_in_turn.new.work) same.tree m.rest) in
    let others = rest.others in
    record {
      turning = λ own specs past represents axis known.
          let phase = phase_of c.args.axis own specs (kids_in list) in
          let so_far = i.turning own specs past represents axis known in
          let fixed = turn_fixed c.args.axis own specs old list orders turn c.turns-turn-end.ensures.ordered inside so_far.over in
          let turned = rw same.tree at (m.turn own specs past (spanned_in (kids_in list) phase.spans (take turn order)) (get_or order turn 0) so_far.plan_represents axis (c.is_rtl-rtl.ensures own specs past [] represents)) in
          let after = rw part at (turned part fixed (rw part (so_far.ahead turn (omega arith) inside))) in
          turning_on c.loop-turn.plan c.measure_in_turn.new.plan c.args.axis own specs past order turn (held_of c.args.tree.now) old new list c.args.work.now.measured c.loop-turn.work.measured
          c.measure_in_turn.new.work.measured inside is.anchors.once once others so_far after;
      sizes = sizes_on old new list order turn inside is.anchors.once once others i.sizes (rw part at (rw same.tree at m.size));
      rest = rest_at c.args.tree.now c.loop-turn.tree c.measure_in_turn.new.tree list (get_or order turn 0) c.args.work.now c.loop-turn.work c.measure_in_turn.new.work once i.rest rest;
      replaced = rw same.tree at m.replaced;
    }

pub relative::measure_turns-measure_in_turn-requires : goal.relative::measure_turns-measure_in_turn-requires
relative::measure_turns-measure_in_turn-requires t c =
    let tree = c.args.tree.now.tree in
    let i = c.loop-turn.invariant.rest in
    let list = children_of_first (part_from c.args.view tree) in
    let kid = rw (i.same.tree, i.same.orders) at c.kid_in_turn-kid.ensures.part in
    let live = rw i.same.tree at c.kid_in_turn-kid.ensures.live in
    let fewer : count_of (first_tree (part_from c.kid_in_turn-kid.result tree)) < count_of (first_tree (part_from c.args.view tree)) =
    rw kid (let few = count_in_list list (slice_index (order_on c.args.axis (orders_of c.args.tree.now c.args.view)) c.loop-turn.turn) in let below = live_below c.args.view tree c.requires.live in omega arith) in
    let ready = Ready-place (held_of c.loop-turn.tree) (slice_index (order_on c.args.axis (orders_of c.args.tree.now c.args.view)) c.loop-turn.turn) list i.ready in
    rw i.same.tree (omega arith, (c.requires.live, (c.requires.siblings, (live, (rw kid ready, c.loop-turn.invariant.replaced)))))

pub relative::measure_in_turn-returns-then-not-is_shown-clause-rest : goal.relative::measure_in_turn-returns-then-not-is_shown-clause-rest
relative::measure_in_turn-returns-then-not-is_shown-clause-rest t c = rest_none c.args.tree.now (tree_from c.args.turn.kid c.args.tree.now.tree) c.args.work.now c.requires.ready

pub relative::measure_in_turn-measure-got-requires : goal.relative::measure_in_turn-measure-got-requires
relative::measure_in_turn-measure-got-requires t c =
    let shown = sym (ap is_shown c.facts.ensures.value) ∙ sym c.is_shown.ensures ∙ c.if-not-is_shown.false in
    (omega arith, record { live = c.requires.kid; shown = shown; ready = c.requires.ready })

pub relative::measure_in_turn-returns-clause-rest : goal.relative::measure_in_turn-returns-clause-rest
relative::measure_in_turn-returns-clause-rest t c =
    let tree = c.args.tree.now.tree in
    let kid = c.args.turn.kid in
    let old = held_of c.args.tree.now in
    let mid = held_of c.measure-got.new.tree in
    let new = held_of c.keep_edges.new.tree in
    let m = c.measure-got.ensures in
    let k = c.keep_edges.ensures in
    let wrote : Wrote mid new kid (record (mid kid) { state = record (mid kid).state { edges = c.take-edges.result } }) = record { at = k.held; others = k.others } in
    let ready : Ready mid (tree_from kid tree) = rw m.same.tree at m.measured.ready in
    record {
      ready = ready-edged tree kid mid new c.take-edges.result c.facts.ensures.is_tree.keys c.requires.kid wrote ready;
      same = same_then c.args.tree.now c.measure-got.new.tree c.keep_edges.new.tree m.same k.same;
      keeps = keeps_trans old mid new m.keeps (keeps_by mid new kid _ wrote refl refl refl);
      others = λ key none. k.others key (λ same. not_in key kid tree c.requires.kid none same) ∙ m.others key none;
      counted = counted_then 0 0 c.args.tree.now c.measure-got.new.tree c.keep_edges.new.tree c.args.work.now c.measure-got.new.work c.measure-got.new.work m.counted
          (counted_none c.measure-got.new.tree c.keep_edges.new.tree c.measure-got.new.work c.measure-got.new.work k.counts refl);
    }

pub relative::measure_in_turn-returns-then-not-is_shown-clause-turn : goal.relative::measure_in_turn-returns-then-not-is_shown-clause-turn
relative::measure_in_turn-returns-then-not-is_shown-clause-turn t c = λ own specs past taken place represents is rtl part fixed known.
    let tree = c.args.tree.now.tree in
    let list = children_of_first (part_from c.args.turn.view tree) in
    let x = located c.args.turn.kid tree c.requires.kid in
    let gone = sym (ap is_shown c.facts.ensures.value) ∙ sym c.is_shown.ensures ∙ c.if-not-is_shown.true in
    rw x.is (turn_gone c.args.turn.axis own specs past taken list place x.row x.kids x.siblings (sym x.is ∙ part) c.args.plan.now (held_of c.args.tree.now) c.args.work.now.measured (rw x.is at gone) represents)

pub relative::measure_in_turn-returns-clause-turn : goal.relative::measure_in_turn-returns-clause-turn
relative::measure_in_turn-returns-clause-turn t c = λ own specs past taken place represents is rtl part fixed known.
    let tree = c.args.tree.now.tree in
    let list = children_of_first (part_from c.args.turn.view tree) in
    let kids = kids_in list in
    let x = located c.args.turn.kid tree c.requires.kid in
    let m = c.measure-got.ensures in
    let shown = sym (ap is_shown c.facts.ensures.value) ∙ sym c.is_shown.ensures ∙ c.if-not-is_shown.false in
    let asked : Specs = record { across = c.ask.result.0; down = c.ask.result.1 } in
    let facts_is : layout_facts c.facts-2.result.now ≡ facts_in (part_from c.args.turn.kid tree) = ap layout_facts c.facts-2.ensures.value in
    let still : layout_facts c.facts-3.result.now ≡ facts_in (part_from c.args.turn.kid tree) = ap layout_facts c.facts-3.ensures.value ∙ ap (λ tree. facts_in (part_from c.args.turn.kid tree)) m.same.tree in
    let once : (key : ℕ) → count_of_key key (Branch x.row x.kids x.siblings) ≤ 1 = rw x.is at (once_from tree c.args.turn.kid c.facts.ensures.is_tree.keys c.requires.kid) in
    let wrote : Wrote (held_of c.measure-got.new.tree) (held_of c.keep_edges.new.tree) x.row.key
    (record (held_of c.measure-got.new.tree x.row.key) { state = record (held_of c.measure-got.new.tree x.row.key).state { edges = c.take-edges.result } }) =
    subst (λ key. Wrote (held_of c.measure-got.new.tree) (held_of c.keep_edges.new.tree) key
    (record (held_of c.measure-got.new.tree key) { state = record (held_of c.measure-got.new.tree key).state { edges = c.take-edges.result } })) (sym x.key_is)
    (record { at = c.keep_edges.ensures.held; others = c.keep_edges.ensures.others }) in
    rw x.is (turn_taken c.args.turn.axis own specs past taken list place x.row x.kids x.siblings (sym x.is ∙ part) c.take-edges.new.self
    (held_of c.args.tree.now) (held_of c.measure-got.new.tree) (held_of c.keep_edges.new.tree) (facts_in (part_from c.args.turn.kid tree)) c.edges_before-edges.result c.take-edges.result c.anchors_of.result asked
    c.measure-got.result c.args.work.now.measured c.measure-got.new.work.measured is fixed (rw x.is at shown) (rw x.is refl)
    (edges_known c.args.turn.axis own specs kids (held_of c.args.tree.now) c.args.turn.kid tree place c.edges_before-edges.result c.requires.kid shown c.edges_before-edges.ensures.first c.edges_before-edges.ensures.second known)
    (rw rtl at (c.anchors_of.ensures.anchors place part)) (rw facts_is at (c.ask.ensures own specs past taken represents)) (rw x.is at m.size) (rw (m.same.tree, x.is) at m.measured.sized)
    (subst (λ key. specs_of (held_of c.measure-got.new.tree key).state ≡ asked) (sym x.key_is) m.measured.last)
    (rw still at (c.take-edges.ensures.edges own specs past taken represents)) (rw still at (c.take-edges.ensures.taken own specs past taken represents)) wrote
    (let o = once x.row.key in omega arith)
    (rw x.is at m.costs) (record { caches = rw x.is at m.caches; shares = rw x.is at m.shares }))

pub relative::measure_in_turn-returns-clause-size : goal.relative::measure_in_turn-returns-clause-size
relative::measure_in_turn-returns-clause-size t c =
    let tree = c.args.tree.now.tree in
    let m = c.measure-got.ensures in
    let now : (held_of c.keep_edges.new.tree c.args.turn.kid).state.measured ≡ c.measure-got.result =
    ap (λ (held : Held). held.state.measured) c.keep_edges.ensures.held ∙ (rw m.same.tree at m.measured.size) ∙ sym m.size in
    size_kept tree c.args.turn.kid (held_of c.keep_edges.new.tree) c.requires.kid (rw now m.width) (rw now m.height)
