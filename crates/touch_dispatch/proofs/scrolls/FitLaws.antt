-- The entries of a part are within those of the whole, in a tree that has scrolled.
use Rattle.std.proofs.Common.{◌≡◌, ℕ, ℤ, ◌<◌, ◌≤◌, Bool, true, List, sym, ◌∙◌, ap, subst, arith}
use Rattle.touch_event.specs.declared.event.Event.{Event}
use Rattle.view_tree.specs.Rows.{Later, part_from, count_of_key, views_of, children_of_first}
use Rattle.view_tree.specs.Views.{Views}
use Rattle.touch_dispatch.specs.declared.reaching.taker.Taker.{Taker}
use Rattle.touch_dispatch.proofs.steps.GrowLaws.{AllGrow, children_grow, out_fits}
use Rattle.touch_dispatch.proofs.steps.GroupEvents.{group_event}
use Rattle.touch_dispatch.proofs.steps.ReachSteps.{hand_to_same}
use Rattle.touch_dispatch.proofs.steps.TargetLaws.{headed}
use Rattle.touch_dispatch.specs.Dispatch.{hand_out, hand_to}
use Rattle.touch_dispatch.specs.handling.Handling.{Progress, Reached, many}
use Rattle.touch_dispatch.specs.reaching.TreeEvents.{IsKidAt, OnlyScrolls, kids_of, own_of, scene_of, target_of}
use Rattle.touch_targets.specs.Captures.{Target, first_ids, from_child, is_target}

pub kid_moved : (old new : Views) (view kid : ℕ) → OnlyScrolls old new → IsKidAt old view kid → IsKidAt new view kid
kid_moved old new view kid s is =
    let e = sym s.same.tree in
    record {
      live = subst (λ t. 0 < count_of_key kid t) e is.live;
      within = subst (λ t. Later (part_from kid t) (children_of_first (part_from view t))) e is.within;
    }

pub kids_grow : (views : Views) (slop : ℤ) (view : ℕ) → AllGrow (kids_of views slop view)
kids_grow views slop view = children_grow (scene_of views slop) (views_of (children_of_first (part_from view views.tree)))

pub out_fits_at : (old views : Views) (slop : ℤ) (view : ℕ) (event : Event) (intercepted : Bool) (taker : Taker) (child : ℕ) (targets code_targets : List Target) (said : Bool) (progress : Progress) → OnlyScrolls old views
    → code_targets ≡ targets → is_target child targets ≡ true
    → many (hand_to (group_event (scene_of views slop) (own_of views view) (kids_of views slop view) event intercepted taker) (target_of child code_targets) progress).progress
    ≤ many (hand_out (group_event (scene_of old slop) (own_of old view) (kids_of old slop view) event intercepted taker) (from_child child targets) said progress).progress
out_fits_at old views slop view event intercepted taker child targets code_targets said progress s same there =
    let h = headed child targets there in
    let head : target_of child code_targets ≡ record { child = child; ids = h.ids } = ap (target_of child) same ∙ ap (λ ts. let t : Target = record { child = child; ids = first_ids ts } in t) h.is in
    let fits = out_fits (scene_of old slop) (own_of old view) (kids_of old slop view) event intercepted taker child h.ids targets h.rest said progress (kids_grow old slop view) h.is in
    let k = ap (λ (r : Reached). many r.progress)
    (hand_to_same old views slop view event intercepted taker (record { child = child; ids = h.ids }) progress s
    ∙ ap (λ t. hand_to (group_event (scene_of views slop) (own_of views view) (kids_of views slop view) event intercepted taker) t progress) (sym head)) in
    omega (arith, fits, k)
