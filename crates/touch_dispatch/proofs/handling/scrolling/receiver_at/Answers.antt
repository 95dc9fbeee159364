use Rattle.std.proofs.Common.{sym, ◌∙◌, ap, rules}
use Rattle.std.proofs.lemmas.Int.{to_z-of_z}
use mir.Syntax.{w32}
use mir.Val.{SFits}
use Rattle.view_model.specs.Classes.{scrolls}
use Rattle.touch_dispatch.proofs.steps.SceneLaws.{rect_live, slop_is}
use Rattle.touch_dispatch.proofs.scrolls.ScrollSteps.{no_kids, receiver_same}
use Rattle.touch_dispatch.specs.Dispatch.{first_rect, range_for}
use Rattle.touch_dispatch.specs.reaching.TreeEvents.{kids_of, scene_of}
use Rattle.view_model.specs.declared.facts.Facts.{Facts}
use Rattle.kept_views.specs.Kept.{first_place}
use Rattle.view_tree.specs.Rows.{children_of_first, part_from}
use Rattle.view_tree.specs.Views.{class_of, held_of, number_of, state_of}
use Rattle.view_tree.specs.declared.node.state.State.{State}
use Rattle.touch_dispatch.proofs.handling.scrolling.receiver_at.Goals as goal

pub returns-clause-value : goal.returns-clause-value
returns-clause-value c =
    let views = c.args.tree.now in
    let slop = c.args.slop in
    let is = c.facts-facts.ensures.is_tree in
    let scrolls_is = c.scrolls-scrolls.ensures ∙ ap scrolls c.class.ensures.value in
    let rect_is = ap (λ (s : State). s.bounds) c.state-rect.ensures.value ∙ sym (rect_live views slop c.args.view is c.requires) in
    let fits : SFits w32 c.range_for.result = search rules in
    receiver_same _ _ _ _ _ _ _ _ _ _ _ _ _ _ _ _ c.number.ensures.value scrolls_is (ap (λ (f : Facts). f.answer) c.facts-facts.ensures.value) (ap (λ (f : Facts). f.intercept) c.facts-facts.ensures.value) rect_is
    (to_z-of_z w32 c.range_for.result fits ∙ c.range_for.ensures.value
    ∙ ap (λ b. range_for b c.facts-facts.result.now c.state-rect.result.bounds c.first_rect.result) scrolls_is
    ∙ ap (λ r. range_for (scrolls (class_of views c.args.view)) c.facts-facts.result.now r c.first_rect.result) rect_is
    ∙ ap (λ r. range_for (scrolls (class_of views c.args.view)) c.facts-facts.result.now ((scene_of views slop).rects (number_of views c.args.view)) r) (c.first_rect.ensures.scene slop)
    ∙ ap (λ f. range_for (scrolls (class_of views c.args.view)) f ((scene_of views slop).rects (number_of views c.args.view)) (first_rect (scene_of views slop) (kids_of views slop c.args.view))) c.facts-facts.ensures.value)
    (no_kids (scene_of views slop) (children_of_first (part_from c.args.view views.tree)) c.first.result c.is_none.result c.is_none.ensures c.first.ensures.key)
    (to_z-of_z w32 slop c.ranges.slop ∙ sym (slop_is views slop))

pub returns-clause-own : goal.returns-clause-own
returns-clause-own c =
    let views = c.args.tree.now in
    let scrolls_is = c.scrolls-scrolls.ensures ∙ ap scrolls c.class.ensures.value in
    let fits : SFits w32 c.range_for.result = search rules in
    to_z-of_z w32 c.range_for.result fits ∙ c.range_for.ensures.value
    ∙ ap (λ b. range_for b c.facts-facts.result.now c.state-rect.result.bounds c.first_rect.result) scrolls_is
    ∙ ap (λ r. range_for (scrolls (class_of views c.args.view)) c.facts-facts.result.now r c.first_rect.result) (ap (λ (s : State). s.bounds) c.state-rect.ensures.value)
    ∙ ap (λ r. range_for (scrolls (class_of views c.args.view)) c.facts-facts.result.now (state_of views c.args.view).bounds r) c.first_rect.ensures.place
    ∙ ap (λ f. range_for (scrolls (class_of views c.args.view)) f (state_of views c.args.view).bounds (first_place (held_of views) (children_of_first (part_from c.args.view views.tree)))) c.facts-facts.ensures.value
