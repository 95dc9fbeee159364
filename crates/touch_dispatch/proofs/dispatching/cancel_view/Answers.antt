use Rattle.std.proofs.Common.{◌≡◌, ◌∷◌, [], ℕ, ℤ, Bool, true, false, None, Some, refl, sym, ◌∙◌, ap, subst, arith, FitsSigned, to_z, of_z}
use Rattle.std.proofs.lemmas.Int.{to_z-of_z}
use mir.Syntax.{w32}
use Rattle.touch_dispatch.proofs.gestures.CaughtLaws.{caught_without}
use Rattle.touch_dispatch.proofs.gestures.DistinctLaws.{without_self}
use Rattle.touch_dispatch.proofs.gestures.ParentLaws.{gesture_in}
use Rattle.touch_dispatch.specs.Dispatch.{reach}
use Rattle.touch_dispatch.specs.gesture.Gestures.{PlainGesture, without_target}
use Rattle.touch_dispatch.specs.gesture.Kept.{Kept, gesture_of}
use Rattle.touch_dispatch.specs.handling.Handling.{Progress, Reached, with_gesture}
use Rattle.touch_dispatch.specs.reaching.Points.{cancel_event}
use Rattle.touch_dispatch.specs.reaching.TreeEvents.{first_number, offsets_in, parent_number, part_at, progress_by, scene_of}
use Rattle.touch_targets.specs.Captures.{is_target, without_child}
use Rattle.view_tree.specs.Rows.{ancestors, views_of}
use Rattle.view_tree.specs.Views.{Views, number_of}
use Rattle.touch_dispatch.proofs.dispatching.cancel_view.Goals as goal

-- the number of the parent of a view, by its ancestors
root_parent : (views : Views) (view : ℕ) → ancestors view views.tree ≡ [] → parent_number views view ≡ None
root_parent views view path = ap (first_number views) path

kid_parent : (views : Views) (view parent : ℕ) → ancestors view views.tree ≡ parent ∷ ancestors parent views.tree → parent_number views view ≡ Some (number_of views parent)
kid_parent views view parent path = ap (first_number views) path

-- what is so of the group of the parent's number is so of the group of that number
parent_group : (views : Views) (kept : Kept) (view parent group : ℕ) (b : Bool) → ancestors view views.tree ≡ parent ∷ ancestors parent views.tree → parent_number views view ≡ Some group
    → is_target (number_of views view) ((gesture_of kept).targets (number_of views parent)) ≡ b → is_target (number_of views view) ((gesture_of kept).targets group) ≡ b
parent_group views kept view parent group b path number is =
    let first = kid_parent views view parent path in
    let same : number_of views parent ≡ group = cc in
    subst (λ g. is_target (number_of views view) ((gesture_of kept).targets g) ≡ b) same is

-- what the view got is what becomes of its cancel
given : (views : Views) (slop : ℤ) (view : ℕ) (old new : Progress) (yes_ : Bool) → FitsSigned w32 slop → reach (scene_of views (to_z w32 (of_z w32 slop))) (part_at views view) cancel_event old ≡ record { yes = yes_; progress = new }
    → new ≡ (reach (scene_of views slop) (part_at views view) cancel_event old).progress
given views slop view old new yes_ fits is =
    sym (ap (λ (r : Reached). r.progress) is) ∙ ap (λ slop. (reach (scene_of views slop) (part_at views view) cancel_event old).progress) (to_z-of_z w32 slop fits)

pub reach_whole-requires-clause-may : goal.reach_whole-requires-clause-may
reach_whole-requires-clause-may c = record { tree = c.recall_tree.ensures; live = c.requires.live; pointer = rw c.cancel_event-event.ensures (omega arith); caught = c.requires.caught }

pub reach_whole-requires-2-clause-may : goal.reach_whole-requires-2-clause-may
reach_whole-requires-2-clause-may c = record { tree = c.recall_tree.ensures; live = c.requires.live; pointer = rw c.cancel_event-event.ensures (omega arith); caught = c.requires.caught }

pub returns-in_default-clause-cancelled : goal.returns-in_default-clause-cancelled
returns-in_default-clause-cancelled c =
    rw (root_parent c.args.tree.now c.args.view c.in_default.ensures.path)
    (given c.args.tree.now c.args.slop c.args.view _ _ _ c.ranges.slop (rw c.cancel_event-event.ensures at c.reach_whole.ensures.reached))

pub returns-in_default-clause-gone : goal.returns-in_default-clause-gone
returns-in_default-clause-gone c = λ group parent. absurd (let none = root_parent c.args.tree.now c.args.view c.in_default.ensures.path in cc)

pub returns-in_default-clause-unchanged : goal.returns-in_default-clause-unchanged
returns-in_default-clause-unchanged c = λ group parent not_. absurd (let none = root_parent c.args.tree.now c.args.view c.in_default.ensures.path in cc)

pub returns-then-not-is_target-clause-cancelled : goal.returns-then-not-is_target-clause-cancelled
returns-then-not-is_target-clause-cancelled c = rw (kid_parent c.args.tree.now c.args.view c.in-Some.parent c.in-Some.ensures.path) (rw (sym c.number-number.ensures.value, sym c.number.ensures.value, sym c.is_target.ensures ∙ c.if-not-is_target.true) refl)

pub returns-then-not-is_target-clause-gone : goal.returns-then-not-is_target-clause-gone
returns-then-not-is_target-clause-gone c = λ group parent.
    parent_group c.args.tree.now c.args.gesture.now c.args.view c.in-Some.parent group false c.in-Some.ensures.path parent (rw (sym c.number-number.ensures.value, sym c.number.ensures.value) (sym c.is_target.ensures ∙ c.if-not-is_target.true))

pub returns-then-not-is_target-clause-unchanged : goal.returns-then-not-is_target-clause-unchanged
returns-then-not-is_target-clause-unchanged c = λ group parent none. record { tree = refl; gesture = refl; log = refl }

pub returns-clause-cancelled : goal.returns-clause-cancelled
returns-clause-cancelled c = rw (kid_parent c.args.tree.now c.args.view c.in-Some.parent c.in-Some.ensures.path) (rw (sym c.number-number.ensures.value, sym c.number.ensures.value, sym c.is_target.ensures ∙ c.if-not-is_target.false)
    (ap (λ g. progress_by (offsets_in c.reach_whole-2.new.tree) g c.reach_whole-2.new.log.entries.items) c.remove.ensures.gesture
    ∙ ap (with_gesture (without_target c.number-number.result))
    (given c.args.tree.now c.args.slop c.args.view _ _ _ c.ranges.slop (rw c.cancel_event-event.ensures at c.reach_whole-2.ensures.reached))))

pub returns-clause-unchanged : goal.returns-clause-unchanged
returns-clause-unchanged c = λ group parent none.
    let there = parent_group c.args.tree.now c.args.gesture.now c.args.view c.in-Some.parent group true c.in-Some.ensures.path parent (rw (sym c.number-number.ensures.value, sym c.number.ensures.value) (sym c.is_target.ensures ∙ c.if-not-is_target.false)) in
    absurd (cc)

pub returns-clause-opened : goal.returns-clause-opened
returns-clause-opened c = λ number. c.remove.ensures.opened number ∙ c.reach_whole-2.ensures.kept.opened number

pub returns-clause-gone : goal.returns-clause-gone
returns-clause-gone c = λ group parent.
    let number = number_of c.args.tree.now c.args.view in
    let left = (gesture_of c.reach_whole-2.new.gesture).targets group in
    ap (λ (g : PlainGesture). is_target number (g.targets group)) c.remove.ensures.gesture
    ∙ ap (λ n. is_target number (without_child n left)) c.number-number.ensures.value
    ∙ without_self number left

pub returns-clause-caught : goal.returns-clause-caught
returns-clause-caught c =
    let tree = c.reach_whole-2.new.tree.tree in
    gesture_in tree c.reach_whole-2.new.gesture c.remove.new.self c.reach_whole-2.ensures.kept.caught c.remove.ensures.opened
    (caught_without (views_of tree) (gesture_of c.reach_whole-2.new.gesture) (gesture_of c.remove.new.self) c.number-number.result c.remove.ensures.gesture c.reach_whole-2.ensures.kept.caught.children)
