-- An event that goes down to a view leaves the targets of groups that are not among it and those below it.
use Rattle.std.proofs.Common.{◌≡◌, ◌≢◌, ℕ, ◌+◌, Bool, false, List, [], ◌∷◌, Option, Some, None, refl, sym, ◌∙◌, ap, arith, inl, inr}
use Rattle.std.proofs.lemmas.Bool.{cases_Bool, eq-eqb, ne_eqb}
use Rattle.std.specs.Prelude.{if◌then◌else◌, ◌==◌, ◌||◌, ◌&&◌, not}
use Rattle.touch_event.specs.declared.event.Action.{Action}
use Rattle.touch_event.specs.declared.event.Action.TheVariants.{Down, Up, Move, Cancel, PointerDown, PointerUp}
use Rattle.touch_event.specs.declared.event.Event.{Event}
use Rattle.view_model.specs.Classes.{is_group}
use Rattle.view_model.specs.Forest.{Forest, Nothing, Branch}
use Rattle.view_model.specs.PlainTree.{PlainView}
use Rattle.touch_dispatch.specs.declared.reaching.taker.Taker.{Taker}
use Rattle.touch_dispatch.specs.declared.reaching.taker.Taker.TheVariants.{NoChild, Earlier, Sent}
use Rattle.touch_dispatch.proofs.gestures.CaughtLaws.{asked_targets, handled_targets}
use Rattle.touch_dispatch.proofs.steps.GroupEvents.{group_event}
use Rattle.touch_dispatch.specs.Dispatch.{EventChild, Scene, Tried, answered, begun, child_of, ended, ended_by, event_children, given, group_reached, hand_out, hand_part, hand_to, intercepted_cleared, is_sent, is_offered, offered, oldest, reached_by, receiver, taken_by, tried_event, try_child, try_children, unless_taken}
use Rattle.touch_dispatch.specs.gesture.Gestures.{PlainGesture, set_targets}
use Rattle.touch_dispatch.specs.handling.Handling.{Progress, Reached, asked, is_down, is_nil, targets_at}
use Rattle.touch_dispatch.specs.reaching.Points.{is_tried, local_event}
use Rattle.touch_targets.specs.Captures.{Target, is_target}

-- whether a view is in a forest, counted
abbrev pub occurs : ℕ → Forest PlainView → ℕ
occurs n Nothing = 0
occurs n (Branch view below after) = (if view.number == n then 1 else 0) + (occurs n below + occurs n after)

abbrev pub Stays : ℕ → EventChild → Type 0
Stays n kid = (event : Event) (progress : Progress) → targets_at (kid.reach event progress).progress n ≡ targets_at progress n

abbrev pub AllStay : ℕ → List EventChild → Type 0
AllStay n [] = Unit {0}
AllStay n (kid ∷ kids) = Stays n kid × AllStay n kids

pub stays_set : (n group : ℕ) (targets : List Target) (gesture : PlainGesture) → group ≢ n → (set_targets group targets gesture).targets n ≡ gesture.targets n
stays_set n group targets gesture ne = rw (ne_eqb n group (λ e. ne (sym e))) refl

stays_begun : (n group : ℕ) (action : Action) (progress : Progress) → group ≢ n → targets_at (begun group action progress) n ≡ targets_at progress n
stays_begun n group action progress ne = elim (cases_Bool (is_down action)) [
  | inl e ↦ rw e (stays_set n group [] progress.gesture ne)
  | inr e ↦ rw e refl
]

stays_taken : (n child : ℕ) (own : PlainView) (event : Event) (reached : Reached) → own.number ≢ n → targets_at (taken_by own event child reached).progress n ≡ targets_at reached.progress n
stays_taken n child own event reached ne = elim (cases_Bool reached.yes) [
  | inl e ↦ rw e (stays_set n own.number _ reached.progress.gesture ne)
  | inr e ↦ rw e refl
]

stays_try : (n : ℕ) (scene : Scene) (own : PlainView) (event : Event) (kid : EventChild) (progress : Progress) → own.number ≢ n → Stays n kid
    → targets_at (try_child scene own event kid progress).progress n ≡ targets_at progress n
stays_try n scene own event kid progress ne stays =
    elim (cases_Bool (is_tried kid.view.facts.visibility (scene.rects kid.view.number) (progress.offsets own.number) event)) [
      | inl e ↦ elim (cases_Bool (is_target kid.view.number (targets_at progress own.number))) [
        | inl t ↦ rw (e, t) (stays_set n own.number _ progress.gesture ne)
        | inr t ↦
            let part = local_event (scene.rects kid.view.number) (progress.offsets own.number) (tried_event own.facts.split event) in
            rw (e, t) (stays_taken n kid.view.number own event (kid.reach part progress) ne ∙ stays part progress)
      ]
      | inr e ↦ rw e refl
    ]

stays_unless : (n : ℕ) (next : Progress → Tried) (taker : Taker) (progress : Progress) → targets_at (next progress).progress n ≡ targets_at progress n
    → targets_at (unless_taken next taker progress).progress n ≡ targets_at progress n
stays_unless n next NoChild progress stays = stays
stays_unless n next Earlier progress stays = refl
stays_unless n next (Sent child) progress stays = refl

stays_tries : (n : ℕ) (scene : Scene) (own : PlainView) (event : Event) (kids : List EventChild) (progress : Progress) → own.number ≢ n → AllStay n kids
    → targets_at (try_children scene own event kids progress).progress n ≡ targets_at progress n
stays_tries n scene own event [] progress ne stays = refl
stays_tries n scene own event (kid ∷ kids) progress ne stays =
    stays_unless n (try_child scene own event kid) (try_children scene own event kids progress).taker (try_children scene own event kids progress).progress
    (stays_try n scene own event kid (try_children scene own event kids progress).progress ne stays.0)
    ∙ stays_tries n scene own event kids progress ne stays.1

stays_given : (n : ℕ) (o : Option ℕ) (group pointer : ℕ) (gesture : PlainGesture) → group ≢ n → (given o group pointer gesture).targets n ≡ gesture.targets n
stays_given n None group pointer gesture ne = refl
stays_given n (Some child) group pointer gesture ne = stays_set n group _ gesture ne

stays_offered : (n : ℕ) (scene : Scene) (own : PlainView) (kids : List EventChild) (event : Event) (intercepted : Bool) (progress : Progress) → own.number ≢ n → AllStay n kids
    → targets_at (offered scene own kids event intercepted progress).progress n ≡ targets_at progress n
stays_offered n scene own kids event intercepted progress ne stays =
    elim (cases_Bool (not intercepted && is_offered event.action own.facts.split)) [
      | inl e ↦
          let tried = try_children scene own event kids progress in
          rw e (stays_unless n _ tried.taker tried.progress (stays_given n (oldest (targets_at tried.progress own.number)) own.number event.pointer tried.progress.gesture ne)
          ∙ stays_tries n scene own event kids progress ne stays)
      | inr e ↦ rw e refl
    ]

stays_child : (n child : ℕ) (part : Event) (kids : List EventChild) (progress : Progress) → AllStay n kids
    → targets_at (hand_part (Some part) (child_of child kids) progress).progress n ≡ targets_at progress n
stays_child n child part [] progress stays = refl
stays_child n child part (kid ∷ kids) progress stays =
    elim (cases_Bool (kid.view.number == child)) [
      | inl e ↦ rw e (stays.0 part progress)
      | inr e ↦ rw e (stays_child n child part kids progress stays.1)
    ]

stays_part : (n child : ℕ) (part : Option Event) (kids : List EventChild) (progress : Progress) → AllStay n kids
    → targets_at (hand_part part (child_of child kids) progress).progress n ≡ targets_at progress n
stays_part n child None kids progress stays = refl
stays_part n child (Some part) kids progress stays = stays_child n child part kids progress stays

pub stays_hand_to : (n : ℕ) (scene : Scene) (own : PlainView) (kids : List EventChild) (event : Event) (intercepted : Bool) (taker : Taker) (target : Target) (progress : Progress)
    → AllStay n kids → targets_at (hand_to (group_event scene own kids event intercepted taker) target progress).progress n ≡ targets_at progress n
stays_hand_to n scene own kids event intercepted taker target progress stays =
    elim (cases_Bool (is_sent taker target.child)) [
      | inl e ↦ rw e refl
      | inr e ↦ rw e (stays_part n target.child _ kids progress stays)
    ]

stays_hand_out : (n : ℕ) (scene : Scene) (own : PlainView) (kids : List EventChild) (event : Event) (intercepted : Bool) (taker : Taker) (targets : List Target) (said : Bool) (progress : Progress)
    → AllStay n kids → targets_at (hand_out (group_event scene own kids event intercepted taker) targets said progress).progress n ≡ targets_at progress n
stays_hand_out n scene own kids event intercepted taker [] said progress stays = refl
stays_hand_out n scene own kids event intercepted taker (t ∷ targets) said progress stays =
    let reached = hand_to (group_event scene own kids event intercepted taker) t progress in
    stays_hand_out n scene own kids event intercepted taker targets (said || reached.yes) reached.progress stays
    ∙ stays_hand_to n scene own kids event intercepted taker t progress stays

stays_answered : (n : ℕ) (scene : Scene) (own : PlainView) (kids : List EventChild) (event : Event) (intercepted : Bool) (taker : Taker) (progress : Progress)
    → AllStay n kids → targets_at (answered (group_event scene own kids event intercepted taker) progress).progress n ≡ targets_at progress n
stays_answered n scene own kids event intercepted taker progress stays =
    elim (cases_Bool (is_nil (targets_at progress own.number))) [
      | inl e ↦ rw e (ap (λ (t : ℕ → List Target). t n) (handled_targets (receiver scene own kids) event progress))
      | inr e ↦ rw e (stays_hand_out n scene own kids event intercepted taker (targets_at progress own.number) false progress stays)
    ]

stays_ended : (n group : ℕ) (split : Bool) (event : Event) (intercepted : Bool) (progress : Progress) → group ≢ n
    → targets_at (ended group split event intercepted progress) n ≡ targets_at progress n
stays_ended n group split event intercepted progress ne =
    by_action event.action (intercepted_cleared intercepted group progress) ∙ cleared_first
  where
    by_action : (action : Action) (progress : Progress) → targets_at (ended_by action split group event.pointer progress) n ≡ targets_at progress n
    by_action Up progress = stays_set n group [] progress.gesture ne
    by_action Cancel progress = stays_set n group [] progress.gesture ne
    by_action Down progress = refl
    by_action Move progress = refl
    by_action PointerDown progress = refl
    by_action PointerUp progress = elim (cases_Bool split) [
      | inl e ↦ rw e (stays_set n group _ progress.gesture ne)
      | inr e ↦ rw e refl
    ]

    cleared_first : targets_at (intercepted_cleared intercepted group progress) n ≡ targets_at progress n
    cleared_first = elim (cases_Bool intercepted) [
      | inl e ↦ rw e (stays_set n group [] progress.gesture ne)
      | inr e ↦ rw e refl
    ]

stays_group : (n : ℕ) (scene : Scene) (own : PlainView) (kids : List EventChild) (event : Event) (progress : Progress) → own.number ≢ n → AllStay n kids
    → targets_at (group_reached scene own kids event progress).progress n ≡ targets_at progress n
stays_group n scene own kids event progress ne stays =
    let zero_ = begun own.number event.action progress in
    let first = asked (receiver scene own kids) event zero_ in
    let second = offered scene own kids event first.yes first.progress in
    let third = answered (group_event scene own kids event first.yes second.taker) second.progress in
    stays_ended n own.number own.facts.split event first.yes third.progress ne
    ∙ stays_answered n scene own kids event first.yes second.taker second.progress stays
    ∙ stays_offered n scene own kids event first.yes first.progress ne stays
    ∙ ap (λ (t : ℕ → List Target). t n) (asked_targets (receiver scene own kids) event zero_)
    ∙ stays_begun n own.number event.action progress ne

stays_reached : (n : ℕ) (scene : Scene) (own : PlainView) (kids : List EventChild) (event : Event) (progress : Progress) → own.number ≢ n → AllStay n kids
    → targets_at (reached_by scene own kids event progress).progress n ≡ targets_at progress n
stays_reached n scene own kids event progress ne stays = elim (cases_Bool (is_group own.class)) [
  | inl e ↦ rw e (stays_group n scene own kids event progress ne stays)
  | inr e ↦ rw e (ap (λ (t : ℕ → List Target). t n) (handled_targets (receiver scene own kids) event progress))
]

pub children_stay : (n : ℕ) (scene : Scene) (list : Forest PlainView) → occurs n list ≡ 0 → AllStay n (event_children scene list)
children_stay n scene Nothing none = tt
children_stay n scene (Branch view below after) none =
    elim (cases_Bool (view.number == n)) [
      | inl e ↦ absurd (let none = rw e at none in omega arith)
      | inr e ↦ (
        λ event progress. stays_reached n scene view (event_children scene below) event progress (λ same. absurd (let t = eq-eqb view.number n same in cc)) (children_stay n scene below (omega arith)),
        children_stay n scene after (omega arith),
      )
    ]
