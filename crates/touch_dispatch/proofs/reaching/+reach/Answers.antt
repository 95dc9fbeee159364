use Rattle.std.proofs.Common.{◌≡◌, ◌<◌, ℕ, Bool, true, false, List, None, Some, refl, sym, ◌∙◌, ap, subst, arith, rules, ℤ, FitsSigned, to_z, of_z}
use Rattle.std.proofs.lemmas.Int.{to_z-of_z}
use mir.Syntax.{w32}
use Rattle.touch_dispatch.specs.declared.reaching.taker.Taker.{Taker}
use Rattle.touch_dispatch.specs.declared.reaching.taker.Taker.TheVariants.{NoChild, Sent}
use Rattle.view_model.specs.Classes.{is_group}
use Rattle.view_model.specs.declared.facts.Facts.{Facts}
use Rattle.view_model.specs.PlainTree.{PlainView}
use Rattle.view_tree.specs.Rows.{previous_key}
use Rattle.view_tree.specs.Views.{Views}
use Rattle.touch_dispatch.proofs.scrolls.FitLaws.{kid_moved, kids_grow, out_fits_at}
use Rattle.touch_dispatch.proofs.steps.GrowLaws.{answer_fits, ask_fits, asked_many, later_fits, many-settled, offer_fits, try_fits}
use Rattle.touch_dispatch.proofs.steps.KeepLaws.{group_asked, kept_ended, kept_on, kept_settled, kept_still, may_still}
use Rattle.touch_dispatch.proofs.gestures.ParentLaws.{may_target}
use Rattle.touch_dispatch.proofs.steps.ReachSteps.{WalkTo, answered_own, answered_same, asked_begun, from_kid, group_chain, none_by, not_taken, out_same, part_for_same, out_step, put_named, taken_no, taken_up, taken_yes, try_child_same, try_earlier, try_sent, try_no, walk_begin, walk_on, answered_targets, some_by}
use Rattle.touch_dispatch.proofs.steps.SceneLaws.{fewer_kid, kid_found, reach_at, reach_group, reach_own, same_own}
use Rattle.touch_dispatch.proofs.steps.TargetLaws.{TargetStep, target_step, walk_there}
use Rattle.touch_dispatch.proofs.steps.TryLaws.{gets_part, sends_to, kept_put, may_put, names_child, names_still, reads_child, target_read, tried_read}
use Rattle.touch_dispatch.proofs.steps.TryWalk.{TryWalk}
use Rattle.touch_dispatch.specs.reaching.Delivery.{delivered_own, delivered_targets, own_targets}
use Rattle.touch_dispatch.specs.Dispatch.{EventChild, Scene, Tried, ended, hand_to, is_offered, is_sent, offered, part_for, receiver, settled, tried_ids, try_children}
use Rattle.touch_dispatch.specs.handling.Handling.{Progress, Reached, many}
use Rattle.touch_dispatch.specs.gesture.Kept.{gesture_of, is_open}
use Rattle.touch_dispatch.specs.reaching.TreeEvents.{IsKidAt, child_at, kids_of, offsets_in, own_of, progress_of, scene_of, target_of}
use Rattle.touch_dispatch.specs.declared.handling.receiver.Receiver.{Receiver}
use Rattle.touch_event.specs.PointerSets.{has_id}
use Rattle.touch_event.specs.declared.event.Event.{Event}
use Rattle.touch_event.specs.Numbers.{max_pointers}
use Rattle.touch_targets.specs.Captures.{Target, first_child, first_ids, from_child, is_target, targets_from}
use Rattle.touch_dispatch.proofs.reaching.+reach.Goals as goal
use Rattle.touch_dispatch.proofs.reaching.+reach.Goals.{children::offer-then-intercepted-via-then-intercepted, children::offer-then-intercepted-via-else-intercepted+then-not-is_offered, targets::deliver_to-else-not-intercepted-via-else-not-intercepted, targets::deliver_to-else-not-intercepted-via-then-not-intercepted+else-not-put_part}
use Rattle.touch_dispatch.proofs.steps.GroupEvents.{group_event}

pub reach-returns-then-is_group-clause-reached : goal.reach-returns-then-is_group-clause-reached
reach-returns-then-is_group-clause-reached t c =
    let d = c.args.delivery.now in
    reach_group c.args.tree.now d.slop d.view d.event.now (progress_of c.args.tree.now c.args.gesture.now c.args.log.now) c.requires.may.live
    (ap is_group (sym c.class.ensures.value) ∙ sym c.is_group.ensures ∙ c.if-is_group.true)
    ∙ c.reach_group.ensures.reached

pub reach-returns-else-is_group-clause-reached : goal.reach-returns-else-is_group-clause-reached
reach-returns-else-is_group-clause-reached t c =
    let d = c.args.delivery.now in
    reach_own c.args.tree.now d.slop d.view d.event.now (progress_of c.args.tree.now c.args.gesture.now c.args.log.now) c.requires.may.live
    (ap is_group (sym c.class.ensures.value) ∙ sym c.is_group.ensures ∙ c.if-is_group.false)
    ∙ c.handle_at.ensures.reached

pub reach-reach_group-requires : goal.reach-reach_group-requires
reach-reach_group-requires t c =
    let d = c.args.delivery.now in
    let k = ap (λ (r : Reached). many r.progress)
    (reach_group c.args.tree.now d.slop d.view d.event.now (progress_of c.args.tree.now c.args.gesture.now c.args.log.now) c.requires.may.live
    (ap is_group (sym c.class.ensures.value) ∙ sym c.is_group.ensures ∙ c.if-is_group.true)) in
    let all = c.requires.fits in
    (omega (arith, c.decreases), (c.requires.may, omega (arith, k, all)))

pub reach-handle_at-requires-clause-fits : goal.reach-handle_at-requires-clause-fits
reach-handle_at-requires-clause-fits t c =
    let d = c.args.delivery.now in
    let k = ap (λ (r : Reached). many r.progress)
    (reach_own c.args.tree.now d.slop d.view d.event.now (progress_of c.args.tree.now c.args.gesture.now c.args.log.now) c.requires.may.live
    (ap is_group (sym c.class.ensures.value) ∙ sym c.is_group.ensures ∙ c.if-is_group.false)) in
    let all = c.requires.fits in
    omega (arith, k, all)

pub group::reach_group-ask-intercepted-requires-clause-open : goal.group::reach_group-ask-intercepted-requires-clause-open
group::reach_group-ask-intercepted-requires-clause-open t c =
    c.begin.ensures.opened c.receiver_at-own.result.number
    ∙ ap (is_open c.args.gesture.now) (ap (λ (r : Receiver). r.number) c.receiver_at-own.ensures.value) ∙ c.requires.may.caught.opened c.args.delivery.now.view c.requires.may.live

-- a view that was read by the slop as 32 bits hold it
read_at : (views : Views) (slop : ℤ) (view : ℕ) (own : Receiver) → FitsSigned w32 slop
    → own ≡ receiver (scene_of views (to_z w32 (of_z w32 slop))) (own_of views view) (kids_of views (to_z w32 (of_z w32 slop)) view)
    → own ≡ receiver (scene_of views slop) (own_of views view) (kids_of views slop view)
read_at views slop view own fits is = is ∙ ap (λ slop. receiver (scene_of views slop) (own_of views view) (kids_of views slop view)) (to_z-of_z w32 slop fits)

pub group::reach_group-ask-intercepted-requires-clause-fits : goal.group::reach_group-ask-intercepted-requires-clause-fits
group::reach_group-ask-intercepted-requires-clause-fits t c = λ offsets.
    let views = c.args.tree.now in
    let slop = c.args.delivery.now.slop in
    let own = own_of views c.args.delivery.now.view in
    let kids = kids_of views slop c.args.delivery.now.view in
    let start = progress_of views c.args.gesture.now c.args.log.now in
    let fits_in : FitsSigned w32 c.args.delivery.now.slop = search rules in
    let read = read_at c.args.tree.now c.args.delivery.now.slop c.args.delivery.now.view c.receiver_at-own.result fits_in c.receiver_at-own.ensures.value in
    let k = ap (λ (r : Reached). many r.progress)
    (asked_begun (scene_of views slop) own kids c.args.delivery.now.event.now start (progress_of views c.begin.new.gesture c.args.log.now) c.receiver_at-own.result _ read
    (c.begin.ensures.begun (offsets_in views) c.args.log.now.entries.items) refl) in
    let fits = ask_fits (scene_of views slop) own kids c.args.delivery.now.event.now start (kids_grow views slop c.args.delivery.now.view) in
    let m = asked_many c.receiver_at-own.result c.args.delivery.now.event.now (gesture_of c.begin.new.gesture) c.args.log.now.entries.items offsets (offsets_in views) in
    let all = c.requires.fits in
    omega (arith, fits, k, m, all)

pub group::reach_group-offer-taker-requires : goal.group::reach_group-offer-taker-requires
group::reach_group-offer-taker-requires t c =
    let d = c.args.delivery.now in
    let views = c.args.tree.now in
    let slop = d.slop in
    let fits_in : FitsSigned w32 c.args.delivery.now.slop = search rules in
    let read = read_at c.args.tree.now c.args.delivery.now.slop c.args.delivery.now.view c.receiver_at-own.result fits_in c.receiver_at-own.ensures.value in
    let a = group_asked c.begin.new.gesture c.ask-intercepted.new.gesture c.args.log.now c.ask-intercepted.new.log c.ask-intercepted.result c.requires.may read
    c.begin.ensures.opened c.begin.ensures.begun c.ask-intercepted.ensures.opened c.ask-intercepted.ensures.asked c.ask-intercepted.ensures.room in
    let fits = offer_fits (scene_of views slop) (own_of views d.view) (kids_of views slop d.view) d.event.now (progress_of views c.args.gesture.now c.args.log.now) _ (kids_grow views slop d.view) a.is in
    let room = a.kept.room in
    let all = c.requires.fits in
    (omega (arith, c.decreases), (may_still c.requires.may a.kept, omega (arith, fits, room, all)))

pub group::reach_group-answer-yes-requires : goal.group::reach_group-answer-yes-requires
group::reach_group-answer-yes-requires t c =
    let d = c.args.delivery.now in
    let views = c.args.tree.now in
    let slop = d.slop in
    let fits_in : FitsSigned w32 c.args.delivery.now.slop = search rules in
    let read = read_at c.args.tree.now c.args.delivery.now.slop c.args.delivery.now.view c.receiver_at-own.result fits_in c.receiver_at-own.ensures.value in
    let a = group_asked c.begin.new.gesture c.ask-intercepted.new.gesture c.args.log.now c.ask-intercepted.new.log c.ask-intercepted.result c.requires.may read
    c.begin.ensures.opened c.begin.ensures.begun c.ask-intercepted.ensures.opened c.ask-intercepted.ensures.asked c.ask-intercepted.ensures.room in
    let kept = kept_on a.kept c.offer-taker.ensures.kept in
    let second = progress_of c.offer-taker.new.tree c.offer-taker.new.gesture c.offer-taker.new.log in
    let fits =
    answer_fits (scene_of views slop) (own_of views d.view) (kids_of views slop d.view) d.event.now (progress_of views c.args.gesture.now c.args.log.now) _ _ (kids_grow views slop d.view) a.is
    c.offer-taker.ensures.offered in
    let k = ap (λ (r : Reached). many r.progress)
    (answered_same views c.offer-taker.new.tree slop d.view d.event.now c.ask-intercepted.result c.offer-taker.result second c.offer-taker.ensures.kept.scrolls) in
    let room = kept.room in
    let all = c.requires.fits in
    (rw kept.scrolls.same.tree (omega (arith, c.decreases)), (may_still c.requires.may kept, omega (arith, fits, k, room, all)))

pub group::reach_group-returns-clause-reached : goal.group::reach_group-returns-clause-reached
group::reach_group-returns-clause-reached t c =
    let d = c.args.delivery.now in
    let views = c.args.tree.now in
    let slop = d.slop in
    let own = own_of views d.view in
    let fits_in : FitsSigned w32 c.args.delivery.now.slop = search rules in
    let read = read_at c.args.tree.now c.args.delivery.now.slop c.args.delivery.now.view c.receiver_at-own.result fits_in c.receiver_at-own.ensures.value in
    let a = group_asked c.begin.new.gesture c.ask-intercepted.new.gesture c.args.log.now c.ask-intercepted.new.log c.ask-intercepted.result c.requires.may read
    c.begin.ensures.opened c.begin.ensures.begun c.ask-intercepted.ensures.opened c.ask-intercepted.ensures.asked c.ask-intercepted.ensures.room in
    let second = progress_of c.offer-taker.new.tree c.offer-taker.new.gesture c.offer-taker.new.log in
    let third = progress_of c.answer-yes.new.tree c.answer-yes.new.gesture c.answer-yes.new.log in
    group_chain (scene_of views slop) own (kids_of views slop d.view) d.event.now _ _ _ _ _
    a.is
    c.offer-taker.ensures.offered
    (answered_same views c.offer-taker.new.tree slop d.view d.event.now c.ask-intercepted.result c.offer-taker.result second c.offer-taker.ensures.kept.scrolls ∙ c.answer-yes.ensures.answered)
    (c.end.ensures.ended (offsets_in c.answer-yes.new.tree) c.answer-yes.new.log.entries.items
    ∙ ap (λ (r : Receiver). ended r.number c.facts.result.now.split d.event.now c.ask-intercepted.result third) c.receiver_at-own.ensures.value
    ∙ ap (λ (f : Facts). ended own.number f.split d.event.now c.ask-intercepted.result third) c.facts.ensures.value)

pub group::reach_group-returns-clause-kept : goal.group::reach_group-returns-clause-kept
group::reach_group-returns-clause-kept t c =
    let fits_in : FitsSigned w32 c.args.delivery.now.slop = search rules in
    let read = read_at c.args.tree.now c.args.delivery.now.slop c.args.delivery.now.view c.receiver_at-own.result fits_in c.receiver_at-own.ensures.value in
    let a = group_asked c.begin.new.gesture c.ask-intercepted.new.gesture c.args.log.now c.ask-intercepted.new.log c.ask-intercepted.result c.requires.may read
    c.begin.ensures.opened c.begin.ensures.begun c.ask-intercepted.ensures.opened c.ask-intercepted.ensures.asked c.ask-intercepted.ensures.room in
    kept_on (kept_on (kept_on a.kept c.offer-taker.ensures.kept) c.answer-yes.ensures.kept)
    (kept_ended c.receiver_at-own.result.number c.facts.result.now.split c.args.delivery.now.event.now c.ask-intercepted.result c.answer-yes.ensures.kept.caught c.end.ensures.opened c.end.ensures.ended)

pub reach-returns-then-is_group-clause-kept : goal.reach-returns-then-is_group-clause-kept
reach-returns-then-is_group-clause-kept t c = c.reach_group.ensures.kept

pub reach-returns-else-is_group-clause-kept : goal.reach-returns-else-is_group-clause-kept
reach-returns-else-is_group-clause-kept t c = c.handle_at.ensures.kept

-- the children are tried if the group does not take the event away and a pointer comes down
offered_not : (scene : Scene) (own : PlainView) (kids : List EventChild) (event : Event) (intercepted : Bool) (progress : Progress) → is_offered event.action own.facts.split ≡ false
    → offered scene own kids event intercepted progress ≡ record { taker = NoChild; progress = progress }
offered_not scene own kids event true progress e = refl
offered_not scene own kids event false progress e = rw e refl

offered_yes : (scene : Scene) (own : PlainView) (kids : List EventChild) (event : Event) (intercepted : Bool) (progress : Progress) → intercepted ≡ false → is_offered event.action own.facts.split ≡ true
    → offered scene own kids event intercepted progress ≡ settled own.number event (try_children scene own event kids progress)
offered_yes scene own kids event intercepted progress e1 e2 = rw (e1, e2) refl

pub children::offer-returns-then-intercepted-clause-offered : goal.children::offer-returns-then-intercepted-clause-offered
children::offer-returns-then-intercepted-clause-offered t c =
    let d = c.args.delivery.now in
    let views = c.args.tree.now in
    elim c.then-intercepted.branch [
      | children::offer-then-intercepted-via-then-intercepted w ↦ rw w.if-intercepted.true refl
      | children::offer-then-intercepted-via-else-intercepted+then-not-is_offered w ↦
          offered_not (scene_of views d.slop) (own_of views d.view) (kids_of views d.slop d.view) d.event.now c.args.intercepted _
          (ap (λ (f : Facts). is_offered d.event.now.action f.split) (sym w.facts.ensures.value) ∙ sym w.is_offered.ensures ∙ w.if-not-is_offered.true)
    ]

pub children::offer-returns-then-intercepted-clause-kept : goal.children::offer-returns-then-intercepted-clause-kept
children::offer-returns-then-intercepted-clause-kept t c = kept_still c.requires.may.caught

pub children::offer-try_children-taker-requires : goal.children::offer-try_children-taker-requires
children::offer-try_children-taker-requires t c =
    let d = c.args.delivery.now in
    let views = c.args.tree.now in
    let slop = d.slop in
    let own = own_of views d.view in
    let start = progress_of views c.args.gesture.now c.args.log.now in
    let tried = try_children (scene_of views slop) own d.event.now (kids_of views slop d.view) start in
    let k = ap (λ (t : Tried). many t.progress)
    (offered_yes (scene_of views slop) own (kids_of views slop d.view) d.event.now c.args.intercepted start c.if-intercepted.false
    (ap (λ (f : Facts). is_offered d.event.now.action f.split) (sym c.facts.ensures.value) ∙ sym c.is_offered.ensures ∙ c.if-not-is_offered.false)) in
    let m = many-settled own.number d.event.now tried.taker tried.progress in
    let all = c.requires.fits in
    (omega (arith, c.decreases), (c.requires.may, omega (arith, k, m, all)))

pub children::offer-settle-requires-clause-may : goal.children::offer-settle-requires-clause-may
children::offer-settle-requires-clause-may t c = λ child there.
    let may = may_still c.requires.may c.try_children-taker.ensures.kept in
    rw c.number.ensures.value
    (may_target c.try_children-taker.new.tree c.args.delivery.now.slop c.try_children-taker.new.gesture c.args.delivery.now.view child may.tree may.live may.caught (rw c.number.ensures.value at there))

pub children::offer-returns-clause-offered : goal.children::offer-returns-clause-offered
children::offer-returns-clause-offered t c =
    let d = c.args.delivery.now in
    let views = c.args.tree.now in
    let slop = d.slop in
    let tried : Tried = record { taker = c.try_children-taker.result; progress = progress_of c.try_children-taker.new.tree c.try_children-taker.new.gesture c.try_children-taker.new.log } in
    offered_yes (scene_of views slop) (own_of views d.view) (kids_of views slop d.view) d.event.now c.args.intercepted _ c.if-intercepted.false
    (ap (λ (f : Facts). is_offered d.event.now.action f.split) (sym c.facts.ensures.value) ∙ sym c.is_offered.ensures ∙ c.if-not-is_offered.false)
    ∙ ap (settled (own_of views d.view).number d.event.now) c.try_children-taker.ensures.tried
    ∙ ap (λ n. settled n d.event.now tried) (sym (c.number.ensures.value ∙ ap (λ (v : PlainView). v.number) (same_own views c.try_children-taker.new.tree d.view c.try_children-taker.ensures.kept.scrolls)))
    ∙ c.settle.ensures.settled (offsets_in c.try_children-taker.new.tree) c.try_children-taker.new.log.entries.items

pub children::offer-returns-clause-kept : goal.children::offer-returns-clause-kept
children::offer-returns-clause-kept t c =
    kept_on c.try_children-taker.ensures.kept
    (kept_settled c.number.result c.args.delivery.now.event.now c.try_children-taker.result c.try_children-taker.ensures.kept.caught c.settle.ensures.opened c.settle.ensures.settled)

-- from a child to the one before it
walked : (t : ℕ) (c : goal.children::try_children-After-previous-next t)
    → WalkTo c.args.tree.now c.args.delivery.now.slop c.args.delivery.now.view c.in-Some.kid c.args.delivery.now.event.now (progress_of c.args.tree.now c.args.gesture.now c.args.log.now)
    (progress_of c.try_child-taker.new.tree c.try_child-taker.new.gesture c.try_child-taker.new.log) c.previous-next.result
walked t c =
    let d = c.args.delivery.now in
    let views = c.args.tree.now in
    let slop = d.slop in
    let i = c.loop-next.invariant in
    let now = progress_of c.loop-next.tree c.loop-next.gesture c.loop-next.log in
    let new = progress_of c.try_child-taker.new.tree c.try_child-taker.new.gesture c.try_child-taker.new.log in
    walk_on views slop d.view c.in-Some.kid d.event.now (progress_of views c.args.gesture.now c.args.log.now) now new c.previous-next.result c.requires.may.tree c.requires.may.live (rw c.in-Some.is at i.walked)
    (try_child_same views c.loop-next.tree slop d.view c.in-Some.kid d.event.now now i.kept.scrolls ∙ c.try_child-taker.ensures.tried
    ∙ ap (λ taker. let t : Tried = record { taker = taker; progress = new } in t) (not_taken c.try_child-taker.result (sym c.is_taken.ensures ∙ c.if-is_taken.false)))
    (c.previous-next.ensures.key ∙ ap (previous_key None c.in-Some.kid) (c.try_child-taker.ensures.kept.scrolls.same.tree ∙ i.kept.scrolls.same.tree))

pub children::try_children-loop-next-init : goal.children::try_children-loop-next-init
children::try_children-loop-next-init t c = record {
  kept = kept_still c.requires.may.caught;
  walked = walk_begin c.args.tree.now c.args.delivery.now.slop c.args.delivery.now.view c.args.delivery.now.event.now _ c.last-next.result c.requires.may.tree c.requires.may.live c.last-next.ensures.key;
}

pub children::try_children-try_child-taker-requires : goal.children::try_children-try_child-taker-requires
children::try_children-try_child-taker-requires t c =
    let d = c.args.delivery.now in
    let views = c.args.tree.now in
    let slop = d.slop in
    let kept = c.loop-next.invariant.kept in
    let walk : TryWalk views slop d.view d.event.now (Some c.in-Some.kid) _ _ = rw c.in-Some.is at c.loop-next.invariant.walked in
    let kid : IsKidAt views d.view c.in-Some.kid = walk.kid in
    let now = progress_of c.loop-next.tree c.loop-next.gesture c.loop-next.log in
    let start = progress_of views c.args.gesture.now c.args.log.now in
    let tried = from_kid views slop d.view c.in-Some.kid d.event.now start now _ kid.live walk.rest (try_child_same views c.loop-next.tree slop d.view c.in-Some.kid d.event.now now kept.scrolls) in
    let k = ap (λ (t : Tried). many t.progress) tried in
    let fits = later_fits (scene_of views slop) (own_of views d.view) d.event.now start kid.within in
    let room = kept.room in
    let all = c.requires.fits in
    (rw kept.scrolls.same.tree (omega (arith, c.decreases)), (may_still c.requires.may kept, (kid_moved views c.loop-next.tree d.view c.in-Some.kid kept.scrolls kid, omega (arith, fits, k, room, all))))

pub children::try_children-returns-then-is_taken-clause-tried : goal.children::try_children-returns-then-is_taken-clause-tried
children::try_children-returns-then-is_taken-clause-tried t c =
    let d = c.args.delivery.now in
    let views = c.args.tree.now in
    let slop = d.slop in
    let i = c.loop-next.invariant in
    let walk : TryWalk views slop d.view d.event.now (Some c.in-Some.kid) _ _ = rw c.in-Some.is at i.walked in
    let kid : IsKidAt views d.view c.in-Some.kid = walk.kid in
    let tried : Tried = record { taker = c.try_child-taker.result; progress = progress_of c.try_child-taker.new.tree c.try_child-taker.new.gesture c.try_child-taker.new.log } in
    taken_up (scene_of views slop) (own_of views d.view) d.event.now _ tried kid.within (sym c.is_taken.ensures ∙ c.if-is_taken.true)
    (from_kid views slop d.view c.in-Some.kid d.event.now _ _ tried kid.live walk.rest
    (try_child_same views c.loop-next.tree slop d.view c.in-Some.kid d.event.now (progress_of c.loop-next.tree c.loop-next.gesture c.loop-next.log) i.kept.scrolls ∙ c.try_child-taker.ensures.tried))

pub children::try_children-returns-then-is_taken-clause-kept : goal.children::try_children-returns-then-is_taken-clause-kept
children::try_children-returns-then-is_taken-clause-kept t c = kept_on c.loop-next.invariant.kept c.try_child-taker.ensures.kept

pub children::try_children-returns-clause-tried : goal.children::try_children-returns-clause-tried
children::try_children-returns-clause-tried t c =
    let d = c.args.delivery.now in
    let walk : TryWalk c.args.tree.now d.slop d.view d.event.now None _ _ = rw c.in_default.is at c.loop-next.invariant.walked in
    walk.rest

pub children::try_children-returns-clause-kept : goal.children::try_children-returns-clause-kept
children::try_children-returns-clause-kept t c = c.loop-next.invariant.kept

pub children::try_children-loop-next-smaller : goal.children::try_children-loop-next-smaller
children::try_children-loop-next-smaller t c =
    rw (c.try_child-taker.ensures.kept.scrolls.same.tree, c.loop-next.invariant.kept.scrolls.same.tree, c.in-Some.is) (walked t c).1

pub children::try_children-loop-next-preserved : goal.children::try_children-loop-next-preserved
children::try_children-loop-next-preserved t c = record { kept = kept_on c.loop-next.invariant.kept c.try_child-taker.ensures.kept; walked = (walked t c).0 }

pub children::try_child-returns-then-not-is_tried-clause-tried : goal.children::try_child-returns-then-not-is_tried-clause-tried
children::try_child-returns-then-not-is_tried-clause-tried t c =
    let d = c.args.delivery.now in
    let views = c.args.tree.now in
    let slop = d.slop in
    let reads = reads_child (names_child c.requires.may c.requires.kid c.number-group.ensures.value c.number-child.ensures.value) c.facts-own.ensures.value c.facts.ensures.value c.state-rect.ensures.value in
    try_no (scene_of views slop) (own_of views d.view) d.event.now (child_at views slop c.args.kid) (progress_of views c.args.gesture.now c.args.log.now)
    (tried_read slop reads ∙ sym c.is_tried.ensures ∙ c.if-not-is_tried.true)

pub children::try_child-returns-then-not-is_tried-clause-kept : goal.children::try_child-returns-then-not-is_tried-clause-kept
children::try_child-returns-then-not-is_tried-clause-kept t c = kept_still c.requires.may.caught

pub children::try_child-put-requires-clause-ids : goal.children::try_child-put-requires-clause-ids
children::try_child-put-requires-clause-ids t c = c.id_bit.ensures.some

pub children::try_child-put-requires-clause-may : goal.children::try_child-put-requires-clause-may
children::try_child-put-requires-clause-may t c = may_put (names_child c.requires.may c.requires.kid c.number-group.ensures.value c.number-child.ensures.value)

pub children::try_child-returns-then-is_target-clause-tried : goal.children::try_child-returns-then-is_target-clause-tried
children::try_child-returns-then-is_target-clause-tried t c =
    let d = c.args.delivery.now in
    let views = c.args.tree.now in
    let slop = d.slop in
    let reads = reads_child (names_child c.requires.may c.requires.kid c.number-group.ensures.value c.number-child.ensures.value) c.facts-own.ensures.value c.facts.ensures.value c.state-rect.ensures.value in
    try_earlier (scene_of views slop) (own_of views d.view) d.event.now (child_at views slop c.args.kid) (progress_of views c.args.gesture.now c.args.log.now) (progress_of views c.put.new.self c.args.log.now)
    (tried_read slop reads ∙ sym c.is_tried.ensures ∙ c.if-not-is_tried.false)
    (target_read reads.names ∙ sym c.is_target.ensures ∙ c.if-is_target.true)
    (put_named (offsets_in views) c.args.log.now.entries.items (gesture_of c.args.gesture.now) (gesture_of c.put.new.self) _ _ _ _ _ _ c.put.ensures.gesture c.number-group.ensures.value c.number-child.ensures.value c.id_bit.ensures.value)

pub children::try_child-returns-then-is_target-clause-kept : goal.children::try_child-returns-then-is_target-clause-kept
children::try_child-returns-then-is_target-clause-kept t c =
    kept_put (has_id c.id_bit.result) (names_child c.requires.may c.requires.kid c.number-group.ensures.value c.number-child.ensures.value) c.put.ensures.opened c.put.ensures.gesture

pub children::try_child-reach-requires : goal.children::try_child-reach-requires
children::try_child-reach-requires t c =
    let d = c.args.delivery.now in
    let views = c.args.tree.now in
    let slop = d.slop in
    let slop_fits : FitsSigned w32 slop = search rules in
    let reads = reads_child (names_child c.requires.may c.requires.kid c.number-group.ensures.value c.number-child.ensures.value) c.facts-own.ensures.value c.facts.ensures.value c.state-rect.ensures.value in
    let gets =
    gets_part slop c.args.log.now.entries.items c.tried_event-part.result reads (sym c.is_tried.ensures ∙ c.if-not-is_tried.false) (sym c.is_target.ensures ∙ c.if-is_target.false) c.tried_event-part.ensures.value in
    let progress = progress_of views c.args.gesture.now c.args.log.now in
    let fewer = fewer_kid views d.view c.args.kid c.requires.may.live c.requires.kid in
    let fits = try_fits (scene_of views slop) (own_of views d.view) d.event.now (child_at views slop c.args.kid) progress c.tried_event-part.result gets in
    let k = ap (λ (r : Reached). many r.progress) (reach_at views slop c.args.kid c.tried_event-part.result progress c.requires.kid.live) in
    let all = c.requires.fits in
    let pointer = c.tried_event-part.ensures.pointer in
    (omega (arith, c.decreases, fewer), (record { tree = c.requires.may.tree; live = c.requires.kid.live; pointer = pointer; caught = c.requires.may.caught }, rw (to_z-of_z w32 slop slop_fits) (omega (arith, fits, k, all))))

pub children::try_child-returns-then-not-reach-clause-tried : goal.children::try_child-returns-then-not-reach-clause-tried
children::try_child-returns-then-not-reach-clause-tried t c =
    let d = c.args.delivery.now in
    let views = c.args.tree.now in
    let slop = d.slop in
    let slop_fits : FitsSigned w32 slop = search rules in
    let own = own_of views d.view in
    let reads = reads_child (names_child c.requires.may c.requires.kid c.number-group.ensures.value c.number-child.ensures.value) c.facts-own.ensures.value c.facts.ensures.value c.state-rect.ensures.value in
    let gets =
    gets_part slop c.args.log.now.entries.items c.tried_event-part.result reads (sym c.is_tried.ensures ∙ c.if-not-is_tried.false) (sym c.is_target.ensures ∙ c.if-is_target.false) c.tried_event-part.ensures.value in
    let reached : Reached = record { yes = c.reach.result; progress = progress_of c.reach.new.tree c.reach.new.gesture c.reach.new.log } in
    try_sent (scene_of views slop) own d.event.now (child_at views slop c.args.kid) _ c.tried_event-part.result reached gets (sym (reach_at views slop c.args.kid c.tried_event-part.result _ c.requires.kid.live) ∙ (rw (to_z-of_z w32 slop slop_fits) at c.reach.ensures.reached))
    ∙ taken_no own d.event.now (own_of views c.args.kid).number reached c.if-not-reach.true

pub children::try_child-returns-then-not-reach-clause-kept : goal.children::try_child-returns-then-not-reach-clause-kept
children::try_child-returns-then-not-reach-clause-kept t c = c.reach.ensures.kept

pub children::try_child-put-requires-2-clause-ids : goal.children::try_child-put-requires-2-clause-ids
children::try_child-put-requires-2-clause-ids t c = c.tried_ids.ensures.some

pub children::try_child-put-requires-2-clause-may : goal.children::try_child-put-requires-2-clause-may
children::try_child-put-requires-2-clause-may t c =
    may_put (names_still (names_child c.requires.may c.requires.kid c.number-group.ensures.value c.number-child.ensures.value) c.reach.ensures.kept)

pub children::try_child-returns-clause-tried : goal.children::try_child-returns-clause-tried
children::try_child-returns-clause-tried t c =
    let d = c.args.delivery.now in
    let views = c.args.tree.now in
    let slop = d.slop in
    let slop_fits : FitsSigned w32 slop = search rules in
    let own = own_of views d.view in
    let reads = reads_child (names_child c.requires.may c.requires.kid c.number-group.ensures.value c.number-child.ensures.value) c.facts-own.ensures.value c.facts.ensures.value c.state-rect.ensures.value in
    let gets =
    gets_part slop c.args.log.now.entries.items c.tried_event-part.result reads (sym c.is_tried.ensures ∙ c.if-not-is_tried.false) (sym c.is_target.ensures ∙ c.if-is_target.false) c.tried_event-part.ensures.value in
    let reached : Reached = record { yes = c.reach.result; progress = progress_of c.reach.new.tree c.reach.new.gesture c.reach.new.log } in
    let new = progress_of c.reach.new.tree c.put-2.new.self c.reach.new.log in
    try_sent (scene_of views slop) own d.event.now (child_at views slop c.args.kid) _ c.tried_event-part.result reached gets (sym (reach_at views slop c.args.kid c.tried_event-part.result _ c.requires.kid.live) ∙ (rw (to_z-of_z w32 slop slop_fits) at c.reach.ensures.reached))
    ∙ taken_yes own d.event.now (own_of views c.args.kid).number reached new c.if-not-reach.false
    (put_named (offsets_in c.reach.new.tree) c.reach.new.log.entries.items (gesture_of c.reach.new.gesture) (gesture_of c.put-2.new.self) _ _ _ _ _ _ c.put-2.ensures.gesture c.number-group.ensures.value c.number-child.ensures.value
    (c.tried_ids.ensures.value ∙ ap (λ (f : Facts). tried_ids f.split d.event.now) c.facts-own.ensures.value))
    ∙ ap (λ n. let t : Tried = record { taker = Sent n; progress = new } in t) (sym c.number-child.ensures.value)

pub children::try_child-returns-clause-kept : goal.children::try_child-returns-clause-kept
children::try_child-returns-clause-kept t c =
    let names = names_still (names_child c.requires.may c.requires.kid c.number-group.ensures.value c.number-child.ensures.value) c.reach.ensures.kept in
    kept_on c.reach.ensures.kept (kept_put (has_id c.tried_ids.result) names c.put-2.ensures.opened c.put-2.ensures.gesture)

pub group::answer-handle_at-requires-clause-fits : goal.group::answer-handle_at-requires-clause-fits
group::answer-handle_at-requires-clause-fits t c =
    let s = c.args.shared.now in
    let d = s.delivery.now in
    let views = c.args.tree.now in
    let slop = d.slop in
    let own = own_of views d.view in
    let targets = (gesture_of c.args.gesture.now).targets in
    let start = progress_of views c.args.gesture.now c.args.log.now in
    let k = ap (λ (r : Reached). many r.progress)
    (answered_own (scene_of views slop) own (kids_of views slop d.view) d.event.now s.intercepted s.taker start (delivered_own views d start)
    (none_by c.newest.result c.is_none.result (targets own.number) c.is_none.ensures c.if-is_none.true (c.newest.ensures.child ∙ ap (λ n. first_child (targets n)) c.number.ensures.value)) refl) in
    let all = c.requires.fits in
    omega (arith, k, all)

pub group::answer-deliver-requires : goal.group::answer-deliver-requires
group::answer-deliver-requires t c =
    let s = c.args.shared.now in
    let d = s.delivery.now in
    let views = c.args.tree.now in
    let slop = d.slop in
    let own = own_of views d.view in
    let targets = (gesture_of c.args.gesture.now).targets in
    let start = progress_of views c.args.gesture.now c.args.log.now in
    let k = ap (λ (r : Reached). many r.progress)
    (answered_targets (scene_of views slop) own (kids_of views slop d.view) d.event.now s.intercepted s.taker start (delivered_targets views s (targets own.number) false start)
    (some_by c.newest.result c.is_none.result (targets own.number) c.is_none.ensures c.if-is_none.false (c.newest.ensures.child ∙ ap (λ n. first_child (targets n)) c.number.ensures.value)) refl) in
    let all = c.requires.fits in
    (omega (arith, c.decreases), (c.requires.may, omega (arith, k, all)))

pub group::answer-returns-then-is_none-clause-kept : goal.group::answer-returns-then-is_none-clause-kept
group::answer-returns-then-is_none-clause-kept t c = c.handle_at.ensures.kept

pub group::answer-returns-clause-kept : goal.group::answer-returns-clause-kept
group::answer-returns-clause-kept t c = c.deliver.ensures.kept

pub group::answer-returns-then-is_none-clause-answered : goal.group::answer-returns-then-is_none-clause-answered
group::answer-returns-then-is_none-clause-answered t c =
    let s = c.args.shared.now in
    let d = s.delivery.now in
    let targets = (gesture_of c.args.gesture.now).targets in
    answered_own (scene_of c.args.tree.now d.slop) (own_of c.args.tree.now d.view) (kids_of c.args.tree.now d.slop d.view)
    d.event.now s.intercepted s.taker (progress_of c.args.tree.now c.args.gesture.now c.args.log.now) _
    (none_by c.newest.result c.is_none.result (targets (own_of c.args.tree.now d.view).number) c.is_none.ensures c.if-is_none.true
    (c.newest.ensures.child ∙ ap (λ n. first_child (targets n)) c.number.ensures.value))
    c.handle_at.ensures.reached

pub group::answer-returns-clause-answered : goal.group::answer-returns-clause-answered
group::answer-returns-clause-answered t c =
    let s = c.args.shared.now in
    let d = s.delivery.now in
    let targets = (gesture_of c.args.gesture.now).targets in
    answered_targets (scene_of c.args.tree.now d.slop) (own_of c.args.tree.now d.view) (kids_of c.args.tree.now d.slop d.view)
    d.event.now s.intercepted s.taker (progress_of c.args.tree.now c.args.gesture.now c.args.log.now) _
    (some_by c.newest.result c.is_none.result (targets (own_of c.args.tree.now d.view).number) c.is_none.ensures c.if-is_none.false
    (c.newest.ensures.child ∙ ap (λ n. first_child (targets n)) c.number.ensures.value))
    c.deliver.ensures.delivered

pub targets::deliver-loop-next-init : goal.targets::deliver-loop-next-init
targets::deliver-loop-next-init t c =
    let view = c.args.shared.now.delivery.now.view in
    let targets = (gesture_of c.args.gesture.now).targets in
    let number = (own_of c.args.tree.now view).number in
    let whole : targets_from c.newest-next.result (targets number) ≡ targets number =
    subst (λ n. targets_from c.newest-next.result (targets n) ≡ targets n) c.number-group.ensures.value c.newest-next.ensures.part in
    record {
      kept = kept_still c.requires.may.caught;
      group = c.number-group.ensures.value;
      same = refl;
      next = c.newest-next.ensures.child ∙ ap (λ n. first_child (targets n)) c.number-group.ensures.value ∙ ap first_child (sym whole);
      rest = ap (λ ts. delivered_targets c.args.tree.now c.args.shared.now ts false (progress_of c.args.tree.now c.args.gesture.now c.args.log.now)) whole;
    }

pub targets::deliver-returns-clause-delivered : goal.targets::deliver-returns-clause-delivered
targets::deliver-returns-clause-delivered t c = sym (rw c.in_default.is at c.loop-next.invariant.rest)

pub targets::deliver-returns-clause-kept : goal.targets::deliver-returns-clause-kept
targets::deliver-returns-clause-kept t c = c.loop-next.invariant.kept

pub targets::deliver-deliver_to-said-requires : goal.targets::deliver-deliver_to-said-requires
targets::deliver-deliver_to-said-requires t c =
    let s = c.args.shared.now in
    let d = s.delivery.now in
    let i = c.loop-next.invariant in
    let targets = own_targets c.args.tree.now c.args.gesture.now d.view in
    let there = walk_there c.in-Some.child c.loop-next.next targets c.in-Some.is i.next in
    let same : (gesture_of c.loop-next.gesture).targets (own_of c.loop-next.tree d.view).number ≡ targets =
    ap (λ (v : PlainView). (gesture_of c.loop-next.gesture).targets v.number) (same_own c.args.tree.now c.loop-next.tree d.view i.kept.scrolls) ∙ i.same in
    let fits =
    out_fits_at c.args.tree.now c.loop-next.tree d.slop d.view d.event.now s.intercepted s.taker c.in-Some.child targets _ c.loop-next.yes
    (progress_of c.loop-next.tree c.loop-next.gesture c.loop-next.log) i.kept.scrolls same there in
    let whole = ap (λ (r : Reached). many r.progress) (rw c.in-Some.is at i.rest) in
    let room = i.kept.room in
    let all = c.requires.fits in
    (rw i.kept.scrolls.same.tree (omega (arith, c.decreases)), (may_still c.requires.may i.kept, (ap (is_target c.in-Some.child) same ∙ there, omega (arith, fits, whole, room, all))))

-- the targets of the group stay while one of them gets its part
stayed : (t : ℕ) (c : goal.targets::deliver-After-next-next t)
    → (gesture_of c.deliver_to-said.new.gesture).targets (own_of c.args.tree.now c.args.shared.now.delivery.now.view).number ≡ own_targets c.args.tree.now c.args.gesture.now c.args.shared.now.delivery.now.view
stayed t c =
    let s = c.args.shared.now in
    let d = s.delivery.now in
    out_same c.args.tree.now c.loop-next.tree d.slop d.view d.event.now s.intercepted s.taker
    (target_of c.in-Some.child ((gesture_of c.loop-next.gesture).targets (own_of c.loop-next.tree d.view).number))
    (progress_of c.loop-next.tree c.loop-next.gesture c.loop-next.log) _ c.requires.may.tree c.requires.may.live c.loop-next.invariant.kept.scrolls c.deliver_to-said.ensures.delivered
    ∙ c.loop-next.invariant.same

-- from a target to the next older one
stepped : (t : ℕ) (c : goal.targets::deliver-After-next-next t) → TargetStep c.in-Some.child c.loop-next.next c.next-next.result (own_targets c.args.tree.now c.args.gesture.now c.args.shared.now.delivery.now.view)
stepped t c =
    let n = (own_of c.args.tree.now c.args.shared.now.delivery.now.view).number in
    subst (TargetStep c.in-Some.child c.loop-next.next c.next-next.result) (stayed t c)
    (target_step c.in-Some.child c.loop-next.next c.next-next.result _ c.in-Some.is (c.loop-next.invariant.next ∙ ap (λ ts. first_child (targets_from c.loop-next.next ts)) (sym (stayed t c)))
    (c.next-next.ensures.part n) (c.next-next.ensures.child n))

pub targets::deliver-loop-next-smaller : goal.targets::deliver-loop-next-smaller
targets::deliver-loop-next-smaller t c = rw (c.loop-next.invariant.group, stayed t c, c.loop-next.invariant.same) (stepped t c).fewer

pub targets::deliver-loop-next-preserved : goal.targets::deliver-loop-next-preserved
targets::deliver-loop-next-preserved t c =
    let s = c.args.shared.now in
    let d = s.delivery.now in
    let i = c.loop-next.invariant in
    let old = c.args.tree.now in
    let slop = d.slop in
    let step = stepped t c in
    record {
      kept = kept_on i.kept c.deliver_to-said.ensures.kept;
      group = i.group;
      same = stayed t c;
      next = step.first;
      rest =
          out_step old c.loop-next.tree slop d.view d.event.now s.intercepted s.taker c.in-Some.child _ _ c.loop-next.yes c.either-yes.result
          (progress_of c.loop-next.tree c.loop-next.gesture c.loop-next.log) (progress_of c.deliver_to-said.new.tree c.deliver_to-said.new.gesture c.deliver_to-said.new.log) c.deliver_to-said.result c.next-next.result i.kept.scrolls
          (ap (λ (v : PlainView). (gesture_of c.loop-next.gesture).targets v.number) (same_own old c.loop-next.tree d.view i.kept.scrolls) ∙ i.same) step.there step.part c.either-yes.ensures c.deliver_to-said.ensures.delivered
          ∙ rw c.in-Some.is at i.rest;
    }

-- a target that gets nothing
kept_back : (scene : Scene) (own : PlainView) (kids : List EventChild) (event : Event) (intercepted : Bool) (taker : Taker) (target : Target) (progress : Progress) → is_sent taker target.child ≡ false
    → part_for (scene.rects target.child) (progress.offsets own.number) event intercepted target.ids ≡ None → hand_to (group_event scene own kids event intercepted taker) target progress ≡ record { yes = false; progress = progress }
kept_back scene own kids event intercepted taker target progress other none = rw (other, none) refl

pub targets::deliver_to-returns-then-is_sent-clause-delivered : goal.targets::deliver_to-returns-then-is_sent-clause-delivered
targets::deliver_to-returns-then-is_sent-clause-delivered t c = rw (sym c.is_sent.ensures ∙ c.if-is_sent.true) refl

pub targets::deliver_to-returns-then-is_sent-clause-kept : goal.targets::deliver_to-returns-then-is_sent-clause-kept
targets::deliver_to-returns-then-is_sent-clause-kept t c = kept_still c.requires.may.caught

pub targets::deliver_to-returns-in_default-clause-kept : goal.targets::deliver_to-returns-in_default-clause-kept
targets::deliver_to-returns-in_default-clause-kept t c = kept_still c.requires.may.caught

pub targets::deliver_to-returns-then-not-put_part-clause-delivered : goal.targets::deliver_to-returns-then-not-put_part-clause-delivered
targets::deliver_to-returns-then-not-put_part-clause-delivered t c =
    let s = c.args.shared.now in
    let d = s.delivery.now in
    let views = c.args.tree.now in
    let slop = d.slop in
    let targets = own_targets views c.args.gesture.now d.view in
    kept_back (scene_of views slop) (own_of views d.view) (kids_of views slop d.view) d.event.now s.intercepted s.taker (target_of c.args.child targets) _ (sym c.is_sent.ensures ∙ c.if-is_sent.false)
    (part_for_same views slop d.view c.in-Some.kid c.args.child (first_ids (from_child c.args.child targets)) (has_id c.ids-ids.result) d.event.now s.intercepted c.facts-own.result.now c.state-rect.result
    c.requires.may.tree c.requires.may.live c.in-Some.ensures.live c.facts-own.ensures.value c.state-rect.ensures.value c.in-Some.ensures.number (c.ids-ids.ensures _ c.requires.target)
    ∙ rw c.if-not-intercepted.true (sym (rw c.if-not-put_part.true at c.put_part.ensures.value)))

pub targets::deliver_to-returns-then-not-put_part-clause-kept : goal.targets::deliver_to-returns-then-not-put_part-clause-kept
targets::deliver_to-returns-then-not-put_part-clause-kept t c = kept_still c.requires.may.caught

pub targets::deliver_to-returns-clause-kept : goal.targets::deliver_to-returns-clause-kept
targets::deliver_to-returns-clause-kept t c = c.reach.ensures.kept

pub targets::deliver_to-returns-in_default-clause-delivered : goal.targets::deliver_to-returns-in_default-clause-delivered
targets::deliver_to-returns-in_default-clause-delivered t c =
    let d = c.args.shared.now.delivery.now in
    let k = kid_found c.args.tree.now d.slop d.view c.args.child c.requires.may.tree c.requires.may.live
    (c.requires.may.caught.children (own_of c.args.tree.now d.view).number c.args.child c.requires.target) in
    let key = k.key_is in
    let found = c.find.ensures.key in
    let none = c.in_default.is in
    absurd (cc)

pub targets::deliver_to-reach-requires : goal.targets::deliver_to-reach-requires
targets::deliver_to-reach-requires t c =
    let d = c.args.shared.now.delivery.now in
    let slop_fits : FitsSigned w32 d.slop = search rules in
    let part : part_for c.state-rect.result.bounds c.facts-own.result.now.offset d.event.now c.args.shared.now.intercepted (has_id c.ids-ids.result) ≡ Some c.else-not-intercepted.part =
    elim c.else-not-intercepted.branch [
      | targets::deliver_to-else-not-intercepted-via-else-not-intercepted w ↦ rw (w.if-not-intercepted.false, w.part-is, c.cancel_event-part.ensures) refl
      | targets::deliver_to-else-not-intercepted-via-then-not-intercepted+else-not-put_part w ↦
          rw (w.if-not-intercepted.true, w.part-is) (sym (rw w.if-not-put_part.false at w.put_part.ensures.value))
    ] in
    let pointer : c.else-not-intercepted.part.pointer < max_pointers =
    elim c.else-not-intercepted.branch [
      | targets::deliver_to-else-not-intercepted-via-else-not-intercepted w ↦ rw (w.part-is, c.cancel_event-part.ensures) (omega arith)
      | targets::deliver_to-else-not-intercepted-via-then-not-intercepted+else-not-put_part w ↦ rw (w.part-is, w.put_part.ensures.pointer) c.requires.may.pointer
    ] in
    let passes_on =
    sends_to d.slop c.args.log.now.entries.items c.requires.may c.requires.target (sym c.find.ensures.key ∙ c.in-Some.is) c.in-Some.ensures.number c.facts-own.ensures.value c.state-rect.ensures.value
    (c.ids-ids.ensures _ c.requires.target) (sym c.is_sent.ensures ∙ c.if-is_sent.false) part in
    let fewer = fewer_kid c.args.tree.now d.view c.in-Some.kid c.requires.may.live passes_on.there in
    let fits = ap (λ (r : Reached). many r.progress) passes_on.is in
    let all = c.requires.fits in
    (omega (arith, c.decreases, fewer), (record { tree = c.requires.may.tree; live = passes_on.there.live; pointer = pointer; caught = c.requires.may.caught }, rw (to_z-of_z w32 d.slop slop_fits) (omega (arith, fits, all))))

pub targets::deliver_to-returns-clause-delivered : goal.targets::deliver_to-returns-clause-delivered
targets::deliver_to-returns-clause-delivered t c =
    let d = c.args.shared.now.delivery.now in
    let slop_fits : FitsSigned w32 d.slop = search rules in
    let part : part_for c.state-rect.result.bounds c.facts-own.result.now.offset d.event.now c.args.shared.now.intercepted (has_id c.ids-ids.result) ≡ Some c.else-not-intercepted.part =
    elim c.else-not-intercepted.branch [
      | targets::deliver_to-else-not-intercepted-via-else-not-intercepted w ↦ rw (w.if-not-intercepted.false, w.part-is, c.cancel_event-part.ensures) refl
      | targets::deliver_to-else-not-intercepted-via-then-not-intercepted+else-not-put_part w ↦
          rw (w.if-not-intercepted.true, w.part-is) (sym (rw w.if-not-put_part.false at w.put_part.ensures.value))
    ] in
    let passes_on =
    sends_to d.slop c.args.log.now.entries.items c.requires.may c.requires.target (sym c.find.ensures.key ∙ c.in-Some.is) c.in-Some.ensures.number c.facts-own.ensures.value c.state-rect.ensures.value
    (c.ids-ids.ensures _ c.requires.target) (sym c.is_sent.ensures ∙ c.if-is_sent.false) part in
    passes_on.is ∙ (rw (to_z-of_z w32 d.slop slop_fits) at c.reach.ensures.reached)
