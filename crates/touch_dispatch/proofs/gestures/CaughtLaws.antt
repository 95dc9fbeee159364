-- Each target of a group stays a child of it.
use Rattle.std.proofs.Common.{◌≡◌, ℕ, Bool, true, false, List, [], Option, Some, None, refl, sym, ap, subst, eqb-true, inl, inr, ◌∙◌}
use Rattle.std.proofs.lemmas.Bool.{cases_Bool}
use Rattle.std.specs.Prelude.{if◌then◌else◌, ◌==◌}
use Rattle.touch_event.specs.declared.event.Action.{Action}
use Rattle.touch_event.specs.declared.event.Action.TheVariants.{Down, Up, Move, Cancel, PointerDown, PointerUp}
use Rattle.touch_event.specs.declared.event.Event.{Event}
use Rattle.view_model.specs.declared.answer.Answer.{Answer}
use Rattle.view_model.specs.declared.answer.Answer.TheVariants.{Off, Yes, Click as ClickPlan}
use Rattle.view_model.specs.Forest.{Forest}
use Rattle.view_model.specs.PlainTree.{PlainView, part_of}
use Rattle.std.specs.Prelude.{ℤ, ◌||◌, not}
use Rattle.touch_dispatch.specs.declared.reaching.taker.Taker.{Taker}
use Rattle.touch_dispatch.specs.declared.reaching.taker.Taker.TheVariants.{NoChild, Earlier, Sent}
use Rattle.touch_dispatch.specs.declared.handling.receiver.Receiver.{Receiver}
use Rattle.touch_dispatch.proofs.gestures.DistinctLaws.{without_none}
use Rattle.touch_dispatch.proofs.steps.TargetLaws.{dropped_there, oldest_there, put_cases}
use Rattle.touch_dispatch.specs.Dispatch.{begun, ended, ended_by, given, intercepted_cleared, oldest, only, settled}
use Rattle.touch_dispatch.specs.handling.Drags.{pulled}
use Rattle.touch_dispatch.specs.gesture.Gestures.{PlainGesture, cleared, set_targets, without_target}
use Rattle.touch_dispatch.specs.handling.Handling.{Progress, asked, click_noted, clicks, drag_handled, handled, handled_by, is_down, is_nil, is_same_offset, looked, moved_by, offset_after, targets_at}
use Rattle.touch_dispatch.specs.reaching.Points.{is_near_first}
use Rattle.touch_dispatch.specs.reaching.TreeEvents.{AreChildren, below_first, is_root}
use Rattle.touch_targets.specs.Captures.{Target, drop_pointers, is_target, put_target}

-- other targets of a group that are children of it
pub caught_set : (tree : Forest PlainView) (gesture : PlainGesture) (group : ℕ) (targets : List Target) → AreChildren tree gesture
    → ((child : ℕ) → is_target child targets ≡ true → is_root child (below_first (part_of group tree)) ≡ true)
    → AreChildren tree (set_targets group targets gesture)
caught_set tree gesture group targets caught new g child there =
    elim (cases_Bool (g == group)) [
      | inl e ↦ let there = rw e at there in subst (λ g. is_root child (below_first (part_of g tree)) ≡ true) (sym (eqb-true _ _ e)) (new child there)
      | inr e ↦ let there = rw e at there in caught g child there
    ]

pub caught_clear : (tree : Forest PlainView) (gesture : PlainGesture) (group : ℕ) → AreChildren tree gesture → AreChildren tree (set_targets group [] gesture)
caught_clear tree gesture group caught = caught_set tree gesture group [] caught (λ child there. absurd (cc))

pub caught_put : (tree : Forest PlainView) (gesture : PlainGesture) (group child : ℕ) (ids : ℕ → Bool) → AreChildren tree gesture
    → is_root child (below_first (part_of group tree)) ≡ true
    → AreChildren tree (set_targets group (put_target child ids (gesture.targets group)) gesture)
caught_put tree gesture group child ids caught root =
    caught_set tree gesture group (put_target child ids (gesture.targets group)) caught
    (λ c there. elim (put_cases c child ids (gesture.targets group) there) [
      | inl e ↦ subst (λ c. is_root c (below_first (part_of group tree)) ≡ true) e root
      | inr t ↦ caught group c t
    ])

pub caught_drop : (tree : Forest PlainView) (gesture : PlainGesture) (group : ℕ) (id : ℕ → Bool) → AreChildren tree gesture
    → AreChildren tree (set_targets group (drop_pointers id (gesture.targets group)) gesture)
caught_drop tree gesture group id caught =
    caught_set tree gesture group (drop_pointers id (gesture.targets group)) caught (λ c there. caught group c (dropped_there c id (gesture.targets group) there))

pub caught_cleared : (tree : Forest PlainView) (gesture : PlainGesture) (group : ℕ) → AreChildren tree gesture → AreChildren tree (cleared group gesture)
caught_cleared tree gesture group caught = caught_clear tree gesture group caught

pub caught_begun : (tree : Forest PlainView) (group : ℕ) (action : Action) (progress : Progress) → AreChildren tree progress.gesture → AreChildren tree (begun group action progress).gesture
caught_begun tree group action progress caught =
    elim (cases_Bool (is_down action)) [
      | inl e ↦ rw e (caught_cleared tree progress.gesture group caught)
      | inr e ↦ rw e caught
    ]

-- asking changes no targets
looked_targets : (own : Receiver) (event : Event) (gesture : PlainGesture) → (looked own event gesture).targets ≡ gesture.targets
looked_targets own event gesture = elim (cases_Bool own.scrolls) [
  | inl e ↦ rw e refl
  | inr e ↦ rw e refl
]

pub asked_targets : (own : Receiver) (event : Event) (progress : Progress) → (asked own event progress).progress.gesture.targets ≡ progress.gesture.targets
asked_targets own event progress =
    elim (cases_Bool (is_down event.action || not (is_nil (targets_at progress own.number)))) [
      | inl e ↦ elim (cases_Bool (progress.gesture.disallows own.number)) [
        | inl d ↦ rw (e, d) refl
        | inr d ↦ rw (e, d) (looked_targets own event progress.gesture)
      ]
      | inr e ↦ rw e refl
    ]

pub caught_given : (tree : Forest PlainView) (gesture : PlainGesture) (o : Option ℕ) (group pointer : ℕ) → AreChildren tree gesture
    → ((child : ℕ) → o ≡ Some child → is_target child (gesture.targets group) ≡ true)
    → AreChildren tree (given o group pointer gesture)
caught_given tree gesture None group pointer caught there = caught
caught_given tree gesture (Some child) group pointer caught there = caught_put tree gesture group child (only pointer) caught (caught group child (there child refl))

pub caught_settled : (tree : Forest PlainView) (group : ℕ) (event : Event) (taker : Taker) (progress : Progress) → AreChildren tree progress.gesture
    → AreChildren tree (settled group event (record { taker = taker; progress = progress })).progress.gesture
caught_settled tree group event NoChild progress caught =
    caught_given tree progress.gesture (oldest (progress.gesture.targets group)) group event.pointer caught (λ child is. oldest_there child (progress.gesture.targets group) is)
caught_settled tree group event Earlier progress caught = caught
caught_settled tree group event (Sent child) progress caught = caught

pub caught_ended : (tree : Forest PlainView) (group : ℕ) (split : Bool) (event : Event) (intercepted : Bool) (progress : Progress) → AreChildren tree progress.gesture
    → AreChildren tree (ended group split event intercepted progress).gesture
caught_ended tree group split event intercepted progress caught =
    by_action event.action (intercepted_cleared intercepted group progress) (elim (cases_Bool intercepted) [
      | inl e ↦ rw e (caught_clear tree progress.gesture group caught)
      | inr e ↦ rw e caught
    ])
  where
    by_action : (action : Action) (progress : Progress) → AreChildren tree progress.gesture → AreChildren tree (ended_by action split group event.pointer progress).gesture
    by_action Up progress caught = caught_cleared tree progress.gesture group caught
    by_action Cancel progress caught = caught_cleared tree progress.gesture group caught
    by_action Down progress caught = caught
    by_action Move progress caught = caught
    by_action PointerDown progress caught = caught
    by_action PointerUp progress caught = elim (cases_Bool split) [
      | inl e ↦ rw e (caught_drop tree progress.gesture group (only event.pointer) caught)
      | inr e ↦ rw e caught
    ]

-- a view that handles an event itself changes no targets
pub click_targets : (b : Bool) (number : ℕ) (event : Event) (progress : Progress) → (click_noted b number event progress).gesture ≡ progress.gesture
click_targets true number event progress = refl
click_targets false number event progress = refl

pub by_plan_targets : (answer : Answer) (own : Receiver) (event : Event) (progress : Progress)
    → (handled_by answer own event progress).progress.gesture.targets ≡ progress.gesture.targets
by_plan_targets Off own event progress = refl
by_plan_targets Yes own event progress = refl
by_plan_targets ClickPlan own event progress =
    ap (λ (g : PlainGesture). g.targets) (click_targets (clicks event.action (is_near_first own.rect own.slop event.points.items) (progress.gesture.presses own.number)) own.number event _)

moved_gesture : (by : Option ℤ) (own : Receiver) (event : Event) (progress : Progress) → (moved_by by own event progress).gesture ≡ progress.gesture
moved_gesture None own event progress = refl
moved_gesture (Some way) own event progress = elim (cases_Bool (is_same_offset (progress.offsets own.number) (offset_after own.range (progress.offsets own.number) way))) [
  | inl e ↦ rw e refl
  | inr e ↦ rw e refl
]

pub drag_targets : (own : Receiver) (event : Event) (progress : Progress) → (drag_handled own event progress).progress.gesture.targets ≡ progress.gesture.targets
drag_targets own event progress = ap (λ (g : PlainGesture). g.targets) (moved_gesture (pulled own.slop event (progress.gesture.drags own.number)).by own event _)

pub handled_targets : (own : Receiver) (event : Event) (progress : Progress) → (handled own event progress).progress.gesture.targets ≡ progress.gesture.targets
handled_targets own event progress = by_class own.scrolls
  where
    by_class : (b : Bool) → (if b then drag_handled own event progress else handled_by own.answer own event progress).progress.gesture.targets ≡ progress.gesture.targets
    by_class true = drag_targets own event progress
    by_class false = by_plan_targets own.answer own event progress

pub caught_without : (tree : Forest PlainView) (old new : PlainGesture) (number : ℕ) → new ≡ without_target number old → AreChildren tree old → AreChildren tree new
caught_without tree old new number e is group child there =
    is group child (elim (cases_Bool (is_target child (old.targets group))) [
      | inl yes_ ↦ yes_
      | inr no_ ↦ absurd (
          let none = without_none child number (old.targets group) no_ in
          let still = ap (λ (g : PlainGesture). is_target child (g.targets group)) (sym e) ∙ there in
          cc)
    ])
