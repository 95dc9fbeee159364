-- A cancel is the same whatever bounds views have, and however far a pointer may slip.
use Rattle.std.proofs.Common.{◌≡◌, ℕ, ℤ, Bool, true, false, List, [], ◌∷◌, Option, Some, None, refl, sym, ◌∙◌, ap, inl, inr}
use Rattle.std.proofs.lemmas.Bool.{cases_Bool}
use Rattle.std.specs.Prelude.{◌==◌, ◌||◌}
use Rattle.geom_core.specs.declared.geometry.Rect.{Rect}
use Rattle.touch_dispatch.proofs.steps.GroupEvents.{group_event}
use Rattle.touch_dispatch.specs.Dispatch.{EventChild, Scene, Tried, answered, cancelled, child_of, ended, event_children, group_reached, hand_out, hand_part, hand_to, offered, range_for, first_rect, reach, reached_by, receiver}
use Rattle.touch_dispatch.specs.gesture.Gestures.{without_target}
use Rattle.touch_dispatch.specs.handling.Handling.{Progress, Reached, asked, handled, is_nil, targets_at, with_gesture}
use Rattle.touch_dispatch.specs.reaching.Points.{cancel_event}
use Rattle.touch_dispatch.specs.declared.handling.receiver.Receiver.{Receiver}
use Rattle.touch_dispatch.specs.declared.reaching.taker.Taker.TheVariants.{NoChild}
use Rattle.touch_targets.specs.Captures.{Target, is_target}
use Rattle.view_model.specs.Forest.{Forest, Nothing, Branch}
use Rattle.view_model.specs.Classes.{is_group, scrolls}
use Rattle.view_model.specs.PlainTree.{PlainView}
use Rattle.view_model.specs.declared.answer.Answer.{Answer}
use Rattle.view_model.specs.declared.answer.Answer.TheVariants.{Off, Yes, Click}

-- what is read of a view that handles an event itself
abbrev received : ℕ → Bool → Answer → ℕ → Option Rect → ℤ → Bool → ℤ → Receiver
received number moves answer intercept rect range childless slop = record {
  number = number;
  scrolls = moves;
  answer = answer;
  intercept = intercept;
  rect = rect;
  range = range;
  childless = childless;
  slop = slop;
}

handled_alike : (number : ℕ) (moves : Bool) (answer : Answer) (intercept : ℕ) (one other : Option Rect) (range reach : ℤ) (childless bare : Bool) (slop slip : ℤ) (progress : Progress)
    → handled (received number moves answer intercept one range childless slop) cancel_event progress
    ≡ handled (received number moves answer intercept other reach bare slip) cancel_event progress
handled_alike number true answer intercept one other range reach true true slop slip progress = refl
handled_alike number true answer intercept one other range reach true false slop slip progress = refl
handled_alike number true answer intercept one other range reach false true slop slip progress = refl
handled_alike number true answer intercept one other range reach false false slop slip progress = refl
handled_alike number false Off intercept one other range reach childless bare slop slip progress = refl
handled_alike number false Yes intercept one other range reach childless bare slop slip progress = refl
handled_alike number false Click intercept one other range reach childless bare slop slip progress = refl

asked_alike : (number : ℕ) (moves : Bool) (answer : Answer) (intercept : ℕ) (one other : Option Rect) (range reach : ℤ) (childless bare : Bool) (slop slip : ℤ) (progress : Progress)
    → asked (received number moves answer intercept one range childless slop) cancel_event progress
    ≡ asked (received number moves answer intercept other reach bare slip) cancel_event progress
asked_alike number true answer intercept one other range reach childless bare slop slip progress = refl
asked_alike number false answer intercept one other range reach childless bare slop slip progress = refl

-- a view itself
handled_cancelled : (first second : Scene) (own : PlainView) (kids others : List EventChild) (progress : Progress)
    → handled (receiver first own kids) cancel_event progress ≡ handled (receiver second own others) cancel_event progress
handled_cancelled first second own kids others progress =
    handled_alike own.number (scrolls own.class) own.facts.answer own.facts.intercept (first.rects own.number) (second.rects own.number)
    (range_for (scrolls own.class) own.facts (first.rects own.number) (first_rect first kids))
    (range_for (scrolls own.class) own.facts (second.rects own.number) (first_rect second others))
    (is_nil kids) (is_nil others) first.slop second.slop progress

asked_cancelled : (first second : Scene) (own : PlainView) (kids others : List EventChild) (progress : Progress)
    → asked (receiver first own kids) cancel_event progress ≡ asked (receiver second own others) cancel_event progress
asked_cancelled first second own kids others progress =
    asked_alike own.number (scrolls own.class) own.facts.answer own.facts.intercept (first.rects own.number) (second.rects own.number)
    (range_for (scrolls own.class) own.facts (first.rects own.number) (first_rect first kids))
    (range_for (scrolls own.class) own.facts (second.rects own.number) (first_rect second others))
    (is_nil kids) (is_nil others) first.slop second.slop progress

-- no child is tried
offered_cancel : (scene : Scene) (own : PlainView) (kids : List EventChild) (intercepted : Bool) (progress : Progress)
    → offered scene own kids cancel_event intercepted progress ≡ (let tried : Tried = record { taker = NoChild; progress = progress } in tried)
offered_cancel scene own kids true progress = refl
offered_cancel scene own kids false progress = refl

-- a cancel does the same with each view of a list
CancelsAlike : Scene → Scene → Forest PlainView → Type 0
CancelsAlike first second Nothing = Unit {0}
CancelsAlike first second (Branch view below after) =
    ((progress : Progress) → reached_by first view (event_children first below) cancel_event progress ≡ reached_by second view (event_children second below) cancel_event progress)
    × CancelsAlike first second after

part_cancelled : (first second : Scene) (child : ℕ) (list : Forest PlainView) (progress : Progress) → CancelsAlike first second list
    → hand_part (Some cancel_event) (child_of child (event_children first list)) progress ≡ hand_part (Some cancel_event) (child_of child (event_children second list)) progress
unfolding CancelsAlike
part_cancelled first second child Nothing progress alike = refl
part_cancelled first second child (Branch view below after) progress alike =
    elim (cases_Bool (view.number == child)) [
      | inl e ↦ rw e (alike.0 progress)
      | inr e ↦ rw e (part_cancelled first second child after progress alike.1)
    ]

-- each target gets the whole cancel
hand_to_cancel : (scene : Scene) (own : PlainView) (kids : List EventChild) (intercepted : Bool) (target : Target) (progress : Progress)
    → hand_to (group_event scene own kids cancel_event intercepted NoChild) target progress ≡ hand_part (Some cancel_event) (child_of target.child kids) progress
hand_to_cancel scene own kids true target progress = refl
hand_to_cancel scene own kids false target progress = refl

hand_to_cancelled : (first second : Scene) (own : PlainView) (below : Forest PlainView) (intercepted : Bool) (target : Target) (progress : Progress) → CancelsAlike first second below
    → hand_to (group_event first own (event_children first below) cancel_event intercepted NoChild) target progress
    ≡ hand_to (group_event second own (event_children second below) cancel_event intercepted NoChild) target progress
hand_to_cancelled first second own below intercepted target progress alike =
    hand_to_cancel first own (event_children first below) intercepted target progress
    ∙ part_cancelled first second target.child below progress alike
    ∙ sym (hand_to_cancel second own (event_children second below) intercepted target progress)

hand_out_cancelled : (first second : Scene) (own : PlainView) (below : Forest PlainView) (intercepted : Bool) (targets : List Target) (said : Bool) (progress : Progress)
    → CancelsAlike first second below
    → hand_out (group_event first own (event_children first below) cancel_event intercepted NoChild) targets said progress
    ≡ hand_out (group_event second own (event_children second below) cancel_event intercepted NoChild) targets said progress
hand_out_cancelled first second own below intercepted [] said progress alike = refl
hand_out_cancelled first second own below intercepted (t ∷ targets) said progress alike =
    ap (λ (r : Reached). hand_out (group_event first own (event_children first below) cancel_event intercepted NoChild) targets (said || r.yes) r.progress)
    (hand_to_cancelled first second own below intercepted t progress alike)
    ∙ (let r = hand_to (group_event second own (event_children second below) cancel_event intercepted NoChild) t progress in
    hand_out_cancelled first second own below intercepted targets (said || r.yes) r.progress alike)

answered_cancelled : (first second : Scene) (own : PlainView) (below : Forest PlainView) (intercepted : Bool) (progress : Progress) → CancelsAlike first second below
    → answered (group_event first own (event_children first below) cancel_event intercepted NoChild) progress
    ≡ answered (group_event second own (event_children second below) cancel_event intercepted NoChild) progress
answered_cancelled first second own below intercepted progress alike =
    elim (cases_Bool (is_nil (targets_at progress own.number))) [
      | inl e ↦ rw e (handled_cancelled first second own (event_children first below) (event_children second below) progress)
      | inr e ↦ rw e (hand_out_cancelled first second own below intercepted (targets_at progress own.number) false progress alike)
    ]

-- the answer of a group that was asked in this way
abbrev group_answered : Scene → PlainView → List EventChild → Reached → Reached
group_answered scene own kids first =
    let third = answered (group_event scene own kids cancel_event first.yes NoChild) first.progress in
    record { yes = third.yes; progress = ended own.number own.facts.split cancel_event first.yes third.progress }

group_cancel : (scene : Scene) (own : PlainView) (kids : List EventChild) (progress : Progress)
    → group_reached scene own kids cancel_event progress ≡ group_answered scene own kids (asked (receiver scene own kids) cancel_event progress)
group_cancel scene own kids progress =
    let first = asked (receiver scene own kids) cancel_event progress in
    ap (λ (second : Tried).
    let third = answered (group_event scene own kids cancel_event first.yes second.taker) second.progress in
    let r : Reached = record { yes = third.yes; progress = ended own.number own.facts.split cancel_event first.yes third.progress } in r)
    (offered_cancel scene own kids first.yes first.progress)

group_cancelled : (first second : Scene) (own : PlainView) (below : Forest PlainView) (progress : Progress) → CancelsAlike first second below
    → group_reached first own (event_children first below) cancel_event progress ≡ group_reached second own (event_children second below) cancel_event progress
group_cancelled first second own below progress alike =
    let start = asked (receiver second own (event_children second below)) cancel_event progress in
    group_cancel first own (event_children first below) progress
    ∙ ap (group_answered first own (event_children first below)) (asked_cancelled first second own (event_children first below) (event_children second below) progress)
    ∙ ap (λ (third : Reached). let r : Reached = record { yes = third.yes; progress = ended own.number own.facts.split cancel_event start.yes third.progress } in r)
    (answered_cancelled first second own below start.yes start.progress alike)
    ∙ sym (group_cancel second own (event_children second below) progress)

reached_cancelled : (first second : Scene) (own : PlainView) (below : Forest PlainView) (progress : Progress) → CancelsAlike first second below
    → reached_by first own (event_children first below) cancel_event progress ≡ reached_by second own (event_children second below) cancel_event progress
reached_cancelled first second own below progress alike =
    elim (cases_Bool (is_group own.class)) [
      | inl e ↦ rw e (group_cancelled first second own below progress alike)
      | inr e ↦ rw e (handled_cancelled first second own (event_children first below) (event_children second below) progress)
    ]

cancels_alike : (first second : Scene) (list : Forest PlainView) → CancelsAlike first second list
unfolding CancelsAlike
cancels_alike first second Nothing = tt
cancels_alike first second (Branch view below after) =
    let inner = cancels_alike first second below in
    (λ progress. reached_cancelled first second view below progress inner, cancels_alike first second after)

reach_cancelled : (first second : Scene) (part : Forest PlainView) (progress : Progress) → reach first part cancel_event progress ≡ reach second part cancel_event progress
reach_cancelled first second Nothing progress = refl
reach_cancelled first second (Branch view below after) progress = reached_cancelled first second view below progress (cancels_alike first second below)

-- a cancel reads no bounds of a view
pub same_cancel : (first second : Scene) (parent : Option ℕ) (number : ℕ) (part : Forest PlainView) (progress : Progress)
    → cancelled first parent number part progress ≡ cancelled second parent number part progress
same_cancel first second None number part progress = ap (λ (r : Reached). r.progress) (reach_cancelled first second part progress)
same_cancel first second (Some parent) number part progress =
    elim (cases_Bool (is_target number (targets_at progress parent))) [
      | inl e ↦ rw e (ap (λ (r : Reached). with_gesture (without_target number) r.progress) (reach_cancelled first second part progress))
      | inr e ↦ rw e refl
    ]

-- a cancel moves nothing that is below a scroll view

handled_still : (number : ℕ) (moves : Bool) (answer : Answer) (intercept : ℕ) (rect : Option Rect) (range : ℤ) (childless : Bool) (slop : ℤ) (progress : Progress)
    → (handled (received number moves answer intercept rect range childless slop) cancel_event progress).progress.offsets ≡ progress.offsets
handled_still number true answer intercept rect range childless slop progress = refl
handled_still number false Off intercept rect range childless slop progress = refl
handled_still number false Yes intercept rect range childless slop progress = refl
handled_still number false Click intercept rect range childless slop progress = refl

own_still : (scene : Scene) (own : PlainView) (kids : List EventChild) (progress : Progress) → (handled (receiver scene own kids) cancel_event progress).progress.offsets ≡ progress.offsets
own_still scene own kids progress =
    handled_still own.number (scrolls own.class) own.facts.answer own.facts.intercept (scene.rects own.number)
    (range_for (scrolls own.class) own.facts (scene.rects own.number) (first_rect scene kids)) (is_nil kids) scene.slop progress

asked_still : (own : Receiver) (progress : Progress) → (asked own cancel_event progress).progress.offsets ≡ progress.offsets
asked_still own progress = elim (cases_Bool (is_nil (targets_at progress own.number))) [
  | inl e ↦ rw e refl
  | inr e ↦ elim (cases_Bool (progress.gesture.disallows own.number)) [
    | inl d ↦ rw (e, d) refl
    | inr d ↦ rw (e, d) refl
  ]
]

-- a cancel that goes to a view of a list
CancelsStill : Scene → Forest PlainView → Type 0
CancelsStill scene Nothing = Unit {0}
CancelsStill scene (Branch view below after) =
    ((progress : Progress) → (reached_by scene view (event_children scene below) cancel_event progress).progress.offsets ≡ progress.offsets) × CancelsStill scene after

part_still : (scene : Scene) (child : ℕ) (list : Forest PlainView) (progress : Progress) → CancelsStill scene list
    → (hand_part (Some cancel_event) (child_of child (event_children scene list)) progress).progress.offsets ≡ progress.offsets
unfolding CancelsStill
part_still scene child Nothing progress still = refl
part_still scene child (Branch view below after) progress still = elim (cases_Bool (view.number == child)) [
  | inl e ↦ rw e (still.0 progress)
  | inr e ↦ rw e (part_still scene child after progress still.1)
]

hand_out_still : (scene : Scene) (own : PlainView) (below : Forest PlainView) (intercepted : Bool) (targets : List Target) (said : Bool) (progress : Progress) → CancelsStill scene below
    → (hand_out (group_event scene own (event_children scene below) cancel_event intercepted NoChild) targets said progress).progress.offsets ≡ progress.offsets
hand_out_still scene own below intercepted [] said progress still = refl
hand_out_still scene own below intercepted (t ∷ targets) said progress still =
    let r = hand_to (group_event scene own (event_children scene below) cancel_event intercepted NoChild) t progress in
    hand_out_still scene own below intercepted targets (said || r.yes) r.progress still
    ∙ ap (λ (r : Reached). r.progress.offsets) (hand_to_cancel scene own (event_children scene below) intercepted t progress)
    ∙ part_still scene t.child below progress still

answered_still : (scene : Scene) (own : PlainView) (below : Forest PlainView) (intercepted : Bool) (progress : Progress) → CancelsStill scene below
    → (answered (group_event scene own (event_children scene below) cancel_event intercepted NoChild) progress).progress.offsets ≡ progress.offsets
answered_still scene own below intercepted progress still = elim (cases_Bool (is_nil (targets_at progress own.number))) [
  | inl e ↦ rw e (own_still scene own (event_children scene below) progress)
  | inr e ↦ rw e (hand_out_still scene own below intercepted (targets_at progress own.number) false progress still)
]

ended_still : (group : ℕ) (split intercepted : Bool) (progress : Progress) → (ended group split cancel_event intercepted progress).offsets ≡ progress.offsets
ended_still group split true progress = refl
ended_still group split false progress = refl

group_still : (scene : Scene) (own : PlainView) (below : Forest PlainView) (progress : Progress) → CancelsStill scene below
    → (group_reached scene own (event_children scene below) cancel_event progress).progress.offsets ≡ progress.offsets
group_still scene own below progress still =
    let first = asked (receiver scene own (event_children scene below)) cancel_event progress in
    let third = answered (group_event scene own (event_children scene below) cancel_event first.yes NoChild) first.progress in
    ap (λ (r : Reached). r.progress.offsets) (group_cancel scene own (event_children scene below) progress)
    ∙ ended_still own.number own.facts.split first.yes third.progress
    ∙ answered_still scene own below first.yes first.progress still
    ∙ asked_still (receiver scene own (event_children scene below)) progress

reached_still : (scene : Scene) (own : PlainView) (below : Forest PlainView) (progress : Progress) → CancelsStill scene below
    → (reached_by scene own (event_children scene below) cancel_event progress).progress.offsets ≡ progress.offsets
reached_still scene own below progress still = elim (cases_Bool (is_group own.class)) [
  | inl e ↦ rw e (group_still scene own below progress still)
  | inr e ↦ rw e (own_still scene own (event_children scene below) progress)
]

cancels_still : (scene : Scene) (list : Forest PlainView) → CancelsStill scene list
unfolding CancelsStill
cancels_still scene Nothing = tt
cancels_still scene (Branch view below after) = let inner = cancels_still scene below in (λ progress. reached_still scene view below progress inner, cancels_still scene after)

reach_still : (scene : Scene) (part : Forest PlainView) (progress : Progress) → (reach scene part cancel_event progress).progress.offsets ≡ progress.offsets
reach_still scene Nothing progress = refl
reach_still scene (Branch view below after) progress = reached_still scene view below progress (cancels_still scene below)

-- a view that goes away leaves all offsets
pub still_cancelled : (scene : Scene) (parent : Option ℕ) (number : ℕ) (part : Forest PlainView) (progress : Progress) → (cancelled scene parent number part progress).offsets ≡ progress.offsets
still_cancelled scene None number part progress = reach_still scene part progress
still_cancelled scene (Some parent) number part progress = elim (cases_Bool (is_target number (targets_at progress parent))) [
  | inl e ↦ rw e (reach_still scene part progress)
  | inr e ↦ rw e refl
]
