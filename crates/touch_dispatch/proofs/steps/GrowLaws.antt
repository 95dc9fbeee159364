-- An event only adds entries.
use Rattle.std.proofs.Common.{◌≡◌, ◌∙◌, ℕ, ℤ, ◌+◌, ◌≤◌, Bool, true, false, List, [], ◌∷◌, Option, Some, None, length-append, refl, subst, arith, inl, inr, ap, sym}
use Rattle.std.proofs.lemmas.Bool.{cases_Bool}
use Rattle.std.specs.Prelude.{if◌then◌else◌, ◌==◌, ◌||◌, ◌&&◌, not}
use Rattle.touch_event.specs.declared.event.Action.{Action}
use Rattle.touch_event.specs.declared.event.Action.TheVariants.{Down, Up, Move, Cancel, PointerDown, PointerUp}
use Rattle.touch_event.specs.declared.event.Event.{Event}
use Rattle.view_model.specs.declared.answer.Answer.{Answer}
use Rattle.view_model.specs.declared.answer.Answer.TheVariants.{Off, Yes, Click as ClickPlan}
use Rattle.view_model.specs.Classes.{is_group}
use Rattle.view_model.specs.Forest.{Forest, Nothing, Branch}
use Rattle.view_model.specs.PlainTree.{PlainView}
use Rattle.touch_dispatch.proofs.steps.GroupEvents.{group_event}
use Rattle.touch_dispatch.specs.declared.log.Entry.{Entry}
use Rattle.view_tree.specs.Rows.{At_first, Later, Later_on, Row, views_of}
use Rattle.touch_dispatch.specs.declared.log.Kind.{Kind}
use Rattle.touch_dispatch.specs.declared.log.Kind.TheVariants.{Ask, Touch, Click, Scroll}
use Rattle.touch_dispatch.specs.declared.reaching.taker.Taker.{Taker}
use Rattle.touch_dispatch.specs.declared.reaching.taker.Taker.TheVariants.{NoChild, Earlier, Sent}
use Rattle.touch_dispatch.specs.declared.handling.receiver.Receiver.{Receiver}
use Rattle.touch_dispatch.proofs.steps.TryWalk.{GetsPart}
use Rattle.touch_dispatch.specs.Dispatch.{EventChild, Scene, Tried, answered, begun, child_of, ended, ended_by, event_children, group_reached, hand_out, hand_part, hand_to, intercepted_cleared, is_sent, is_offered, offered, part_for, reached_by, receiver, settled, taken_by, tried_event, try_child, try_children, unless_taken}
use Rattle.touch_dispatch.specs.handling.Drags.{pulled}
use Rattle.touch_dispatch.specs.gesture.Gestures.{PlainGesture, at_number, set_drag, set_pressed}
use Rattle.touch_dispatch.specs.handling.Handling.{Progress, Reached, asked, click_handled, click_noted, clicks, drag_answer, drag_handled, handled, handled_by, intercepts, is_down, is_nil, is_same_offset, looked, many, moved_by, noted, noted_with, offset_after, pressed_after, scrolled_to, targets_at, with_gesture}
use Rattle.touch_dispatch.specs.reaching.Points.{is_near_first, is_tried, local_event}
use Rattle.touch_dispatch.specs.reaching.TreeEvents.{progress_by}
use Rattle.touch_targets.specs.Captures.{Target, from_child, is_target}

abbrev pub Grows : EventChild → Type 0
Grows kid = (event : Event) (progress : Progress) → many progress ≤ many (kid.reach event progress).progress

abbrev pub AllGrow : List EventChild → Type 0
AllGrow [] = Unit {0}
AllGrow (kid ∷ kids) = Grows kid × AllGrow kids

pub many-noted : (view : ℕ) (kind : Kind) (event : Event) (answer : Bool) (progress : Progress) → many (noted view kind event answer progress) ≡ many progress + 1
many-noted view kind event answer progress = length-append progress.entries _

grow_begun : (group : ℕ) (action : Action) (progress : Progress) → many (begun group action progress) ≡ many progress
grow_begun group action progress = elim (cases_Bool (is_down action)) [
  | inl e ↦ rw e refl
  | inr e ↦ rw e refl
]

pub grow_asked : (own : Receiver) (event : Event) (progress : Progress) → many progress ≤ many (asked own event progress).progress
grow_asked own event progress =
    elim (cases_Bool (is_down event.action || not (is_nil (targets_at progress own.number)))) [
      | inl e ↦ elim (cases_Bool (progress.gesture.disallows own.number)) [
        | inl d ↦ rw (e, d) (omega arith)
        | inr d ↦
            let looked_on = with_gesture (looked own event) progress in
            let n = many-noted own.number Ask event (intercepts own event looked_on.gesture) looked_on in
            rw (e, d) (omega arith)
      ]
      | inr e ↦ rw e (omega arith)
    ]

pub grow_clicked : (b : Bool) (number : ℕ) (event : Event) (progress : Progress) → many progress ≤ many (click_noted b number event progress)
grow_clicked true number event progress = let n = many-noted number Click event true progress in omega arith
grow_clicked false number event progress = omega arith

-- a view first records that it got an event
pub touch_fits : (answer : Answer) (own : Receiver) (event : Event) (progress : Progress) → many progress + 1 ≤ many (handled_by answer own event progress).progress
touch_fits Off own event progress = let n = many-noted own.number Touch event false progress in omega arith
touch_fits Yes own event progress = let n = many-noted own.number Touch event true progress in omega arith
touch_fits ClickPlan own event progress =
    let n = many-noted own.number Touch event true progress in
    let near = is_near_first own.rect own.slop event.points.items in
    let pressed = progress.gesture.presses own.number in
    let c = grow_clicked (clicks event.action near pressed) own.number event (with_gesture (set_pressed own.number (pressed_after event.action near pressed)) (noted own.number Touch event true progress)) in
    omega arith

pub grow_scrolled : (offset : ℤ) (number : ℕ) (event : Event) (progress : Progress) → many progress ≤ many (scrolled_to offset number event progress)
grow_scrolled offset number event progress =
    elim (cases_Bool (is_same_offset (progress.offsets number) offset)) [
      | inl e ↦ rw e (omega arith)
      | inr e ↦
          let n : many (noted_with offset number Scroll event true (record progress { offsets = at_number number offset progress.offsets })) ≡ many progress + 1 = length-append progress.entries _ in
          rw e (omega arith)
    ]

pub grow_moved : (by : Option ℤ) (own : Receiver) (event : Event) (progress : Progress) → many progress ≤ many (moved_by by own event progress)
grow_moved None own event progress = omega arith
grow_moved (Some way) own event progress = grow_scrolled (offset_after own.range (progress.offsets own.number) way) own.number event progress

pub moved_fits : (own : Receiver) (event : Event) (progress : Progress) (by : Option ℤ) (way : ℤ) → by ≡ Some way
    → is_same_offset (progress.offsets own.number) (offset_after own.range (progress.offsets own.number) way) ≡ false → many progress + 1 ≤ many (moved_by by own event progress)
moved_fits own event progress by way e other =
    let offset = offset_after own.range (progress.offsets own.number) way in
    let n : many (noted_with offset own.number Scroll event true (record progress { offsets = at_number own.number offset progress.offsets })) ≡ many progress + 1 = length-append progress.entries _ in
    rw (e, other) (omega arith)

pub drag_fits : (own : Receiver) (event : Event) (progress : Progress) → many progress + 1 ≤ many (drag_handled own event progress).progress
drag_fits own event progress =
    let said = drag_answer own.childless event.action in
    let pull = pulled own.slop event (progress.gesture.drags own.number) in
    let n = many-noted own.number Touch event said progress in
    let m = grow_moved pull.by own event (with_gesture (set_drag own.number pull.drag) (noted own.number Touch event said progress)) in
    omega arith

pub grow_handled : (own : Receiver) (event : Event) (progress : Progress) → many progress ≤ many (handled own event progress).progress
grow_handled own event progress = by_class own.scrolls
  where
    by_class : (b : Bool) → many progress ≤ many (if b then drag_handled own event progress else handled_by own.answer own event progress).progress
    by_class true = let d = drag_fits own event progress in omega arith
    by_class false = let t = touch_fits own.answer own event progress in omega arith

pub grow_taken : (own : PlainView) (event : Event) (child : ℕ) (reached : Reached) → many (taken_by own event child reached).progress ≡ many reached.progress
grow_taken own event child reached = elim (cases_Bool reached.yes) [
  | inl e ↦ rw e refl
  | inr e ↦ rw e refl
]

pub grow_try : (scene : Scene) (own : PlainView) (event : Event) (kid : EventChild) (progress : Progress) → Grows kid → many progress ≤ many (try_child scene own event kid progress).progress
grow_try scene own event kid progress grows =
    elim (cases_Bool (is_tried kid.view.facts.visibility (scene.rects kid.view.number) (progress.offsets own.number) event)) [
      | inl e ↦ elim (cases_Bool (is_target kid.view.number (targets_at progress own.number))) [
        | inl t ↦ rw (e, t) (omega arith)
        | inr t ↦
            let part = local_event (scene.rects kid.view.number) (progress.offsets own.number) (tried_event own.facts.split event) in
            let g = grows part progress in
            let n = grow_taken own event kid.view.number (kid.reach part progress) in
            rw (e, t) (omega arith)
      ]
      | inr e ↦ rw e (omega arith)
    ]

pub grow_unless : (next : Progress → Tried) (taker : Taker) (progress : Progress) → many progress ≤ many (next progress).progress → many progress ≤ many (unless_taken next taker progress).progress
grow_unless next NoChild progress grows = grows
grow_unless next Earlier progress grows = omega arith
grow_unless next (Sent child) progress grows = omega arith

pub grow_tries : (scene : Scene) (own : PlainView) (event : Event) (kids : List EventChild) (progress : Progress) → AllGrow kids → many progress ≤ many (try_children scene own event kids progress).progress
grow_tries scene own event [] progress grow = omega arith
grow_tries scene own event (kid ∷ kids) progress grow =
    let tried = try_children scene own event kids progress in
    let a = grow_tries scene own event kids progress grow.1 in
    let b = grow_unless (try_child scene own event kid) tried.taker tried.progress (grow_try scene own event kid tried.progress grow.0) in
    omega arith

pub many-settled : (group : ℕ) (event : Event) (taker : Taker) (progress : Progress) → many (settled group event (record { taker = taker; progress = progress })).progress ≡ many progress
many-settled group event NoChild progress = refl
many-settled group event Earlier progress = refl
many-settled group event (Sent child) progress = refl

pub grow_offered : (scene : Scene) (own : PlainView) (kids : List EventChild) (event : Event) (intercepted : Bool) (progress : Progress) → AllGrow kids → many progress ≤ many (offered scene own kids event intercepted progress).progress
grow_offered scene own kids event intercepted progress grow =
    elim (cases_Bool (not intercepted && is_offered event.action own.facts.split)) [
      | inl e ↦
          let tried = try_children scene own event kids progress in
          let a = grow_tries scene own event kids progress grow in
          let s = many-settled own.number event tried.taker tried.progress in
          rw e (omega arith)
      | inr e ↦ rw e (omega arith)
    ]

grow_child : (child : ℕ) (part : Event) (kids : List EventChild) (progress : Progress) → AllGrow kids → many progress ≤ many (hand_part (Some part) (child_of child kids) progress).progress
grow_child child part [] progress grow = omega arith
grow_child child part (kid ∷ kids) progress grow =
    elim (cases_Bool (kid.view.number == child)) [
      | inl e ↦ rw e (grow.0 part progress)
      | inr e ↦ rw e (grow_child child part kids progress grow.1)
    ]

grow_part : (child : ℕ) (part : Option Event) (kids : List EventChild) (progress : Progress) → AllGrow kids → many progress ≤ many (hand_part part (child_of child kids) progress).progress
grow_part child None kids progress grow = omega arith
grow_part child (Some part) kids progress grow = grow_child child part kids progress grow

pub grow_hand_to : (scene : Scene) (own : PlainView) (kids : List EventChild) (event : Event) (intercepted : Bool) (taker : Taker) (child : ℕ) (ids : ℕ → Bool) (progress : Progress) → AllGrow kids
    → many progress ≤ many (hand_to (group_event scene own kids event intercepted taker) (record { child = child; ids = ids }) progress).progress
grow_hand_to scene own kids event intercepted taker child ids progress grow = elim (cases_Bool (is_sent taker child)) [
  | inl e ↦ rw e (omega arith)
  | inr e ↦ rw e (grow_part child (part_for (scene.rects child) (progress.offsets own.number) event intercepted ids) kids progress grow)
]

pub grow_hand_out : (scene : Scene) (own : PlainView) (kids : List EventChild) (event : Event) (intercepted : Bool) (taker : Taker) (targets : List Target) (said : Bool) (progress : Progress) → AllGrow kids
    → many progress ≤ many (hand_out (group_event scene own kids event intercepted taker) targets said progress).progress
grow_hand_out scene own kids event intercepted taker [] said progress grow = omega arith
grow_hand_out scene own kids event intercepted taker (t ∷ targets) said progress grow =
    let reached = hand_to (group_event scene own kids event intercepted taker) t progress in
    let a = grow_hand_to scene own kids event intercepted taker t.child t.ids progress grow in
    let b = grow_hand_out scene own kids event intercepted taker targets (said || reached.yes) reached.progress grow in
    omega arith

pub grow_answered : (scene : Scene) (own : PlainView) (kids : List EventChild) (event : Event) (intercepted : Bool) (taker : Taker) (progress : Progress) → AllGrow kids
    → many progress ≤ many (answered (group_event scene own kids event intercepted taker) progress).progress
grow_answered scene own kids event intercepted taker progress grow =
    elim (cases_Bool (is_nil (targets_at progress own.number))) [
      | inl e ↦ rw e (grow_handled (receiver scene own kids) event progress)
      | inr e ↦ rw e (grow_hand_out scene own kids event intercepted taker (targets_at progress own.number) false progress grow)
    ]

pub many-ended : (group : ℕ) (split : Bool) (event : Event) (intercepted : Bool) (progress : Progress) → many (ended group split event intercepted progress) ≡ many progress
many-ended group split event true progress = by_action event.action progress
  where
    by_action : (action : Action) (progress : Progress) → many (ended_by action split group event.pointer (intercepted_cleared true group progress)) ≡ many progress
    by_action Up progress = refl
    by_action Cancel progress = refl
    by_action Down progress = refl
    by_action Move progress = refl
    by_action PointerDown progress = refl
    by_action PointerUp progress = elim (cases_Bool split) [
      | inl e ↦ rw e refl
      | inr e ↦ rw e refl
    ]
many-ended group split event false progress = by_action event.action progress
  where
    by_action : (action : Action) (progress : Progress) → many (ended_by action split group event.pointer progress) ≡ many progress
    by_action Up progress = refl
    by_action Cancel progress = refl
    by_action Down progress = refl
    by_action Move progress = refl
    by_action PointerDown progress = refl
    by_action PointerUp progress = elim (cases_Bool split) [
      | inl e ↦ rw e refl
      | inr e ↦ rw e refl
    ]

pub grow_group : (scene : Scene) (own : PlainView) (kids : List EventChild) (event : Event) (progress : Progress) → AllGrow kids → many progress ≤ many (group_reached scene own kids event progress).progress
grow_group scene own kids event progress grow =
    let zero_ = begun own.number event.action progress in
    let first = asked (receiver scene own kids) event zero_ in
    let second = offered scene own kids event first.yes first.progress in
    let third = answered (group_event scene own kids event first.yes second.taker) second.progress in
    let a = grow_begun own.number event.action progress in
    let b = grow_asked (receiver scene own kids) event zero_ in
    let c = grow_offered scene own kids event first.yes first.progress grow in
    let d = grow_answered scene own kids event first.yes second.taker second.progress grow in
    let e = many-ended own.number own.facts.split event first.yes third.progress in
    omega arith

pub children_grow : (scene : Scene) (list : Forest PlainView) → AllGrow (event_children scene list)
children_grow scene Nothing = tt
children_grow scene (Branch view below after) = (
  λ event progress. elim (cases_Bool (is_group view.class)) [
    | inl e ↦ rw e (grow_group scene view (event_children scene below) event progress (children_grow scene below))
    | inr e ↦ rw e (grow_handled (receiver scene view (event_children scene below)) event progress)
  ],
  children_grow scene after,
)

-- the number of entries does not depend on offsets
pub asked_many : (own : Receiver) (event : Event) (g : PlainGesture) (e : List Entry) (one two : ℕ → ℤ)
    → many (asked own event (progress_by one g e)).progress ≡ many (asked own event (progress_by two g e)).progress
asked_many own event g e one two =
    elim (cases_Bool (is_down event.action || not (is_nil (g.targets own.number)))) [
      | inl b ↦ elim (cases_Bool (g.disallows own.number)) [
        | inl d ↦ rw (b, d) refl
        | inr d ↦ rw (b, d) refl
      ]
      | inr b ↦ rw b refl
    ]

-- what is recorded fits if the whole does
pub asks_fit : (own : Receiver) (event : Event) (progress : Progress) → (is_down event.action || not (is_nil (targets_at progress own.number))) ≡ true
    → progress.gesture.disallows own.number ≡ false → many progress + 1 ≤ many (asked own event progress).progress
asks_fit own event progress e d =
    let looked_on = with_gesture (looked own event) progress in
    let n = many-noted own.number Ask event (intercepts own event looked_on.gesture) looked_on in
    rw (e, d) (omega arith)

pub click_fits : (own : Receiver) (event : Event) (progress : Progress) (near pressed : Bool) → near ≡ is_near_first own.rect own.slop event.points.items
    → pressed ≡ progress.gesture.presses own.number → clicks event.action near pressed ≡ true → many progress + 1 ≤ many (click_handled own event progress)
click_fits own event progress near pressed e1 e2 e3 =
    let set = with_gesture (set_pressed own.number (pressed_after event.action near pressed)) progress in
    let n = many-noted own.number Click event true set in
    let is : clicks event.action (is_near_first own.rect own.slop event.points.items) (progress.gesture.presses own.number) ≡ true =
    ap (λ b. clicks event.action b (progress.gesture.presses own.number)) (sym e1) ∙ ap (λ b. clicks event.action near b) (sym e2) ∙ e3 in
    rw is (omega arith)

pub click_part : (answer : Answer) (own : Receiver) (event : Event) (progress : Progress) → answer ≡ ClickPlan
    → many (click_handled own event (noted own.number Touch event true progress)) ≤ many (handled_by answer own event progress).progress
click_part answer own event progress is = rw is (omega arith)

-- each step of a group fits if the whole does
pub ask_fits : (scene : Scene) (own : PlainView) (kids : List EventChild) (event : Event) (progress : Progress) → AllGrow kids
    → many (asked (receiver scene own kids) event (begun own.number event.action progress)).progress ≤ many (group_reached scene own kids event progress).progress
ask_fits scene own kids event progress grow =
    let first = asked (receiver scene own kids) event (begun own.number event.action progress) in
    let second = offered scene own kids event first.yes first.progress in
    let third = answered (group_event scene own kids event first.yes second.taker) second.progress in
    let c = grow_offered scene own kids event first.yes first.progress grow in
    let d = grow_answered scene own kids event first.yes second.taker second.progress grow in
    let e = many-ended own.number own.facts.split event first.yes third.progress in
    omega arith

pub offer_fits : (scene : Scene) (own : PlainView) (kids : List EventChild) (event : Event) (progress : Progress) (first : Reached) → AllGrow kids
    → asked (receiver scene own kids) event (begun own.number event.action progress) ≡ first
    → many (offered scene own kids event first.yes first.progress).progress ≤ many (group_reached scene own kids event progress).progress
offer_fits scene own kids event progress first grow is =
    subst (λ (first : Reached). many (offered scene own kids event first.yes first.progress).progress ≤ many (group_reached scene own kids event progress).progress) is (
    let first = asked (receiver scene own kids) event (begun own.number event.action progress) in
    let second = offered scene own kids event first.yes first.progress in
    let third = answered (group_event scene own kids event first.yes second.taker) second.progress in
    let d = grow_answered scene own kids event first.yes second.taker second.progress grow in
    let e = many-ended own.number own.facts.split event first.yes third.progress in
    omega arith
    )

pub answer_fits : (scene : Scene) (own : PlainView) (kids : List EventChild) (event : Event) (progress : Progress) (first : Reached) (second : Tried) → AllGrow kids
    → asked (receiver scene own kids) event (begun own.number event.action progress) ≡ first
    → offered scene own kids event first.yes first.progress ≡ second
    → many (answered (group_event scene own kids event first.yes second.taker) second.progress).progress ≤ many (group_reached scene own kids event progress).progress
answer_fits scene own kids event progress first second grow is then_ =
    subst (λ (second : Tried). many (answered (group_event scene own kids event first.yes second.taker) second.progress).progress ≤ many (group_reached scene own kids event progress).progress) then_
    (subst (λ (first : Reached). let second = offered scene own kids event first.yes first.progress in
    many (answered (group_event scene own kids event first.yes second.taker) second.progress).progress ≤ many (group_reached scene own kids event progress).progress) is (
    let first = asked (receiver scene own kids) event (begun own.number event.action progress) in
    let second = offered scene own kids event first.yes first.progress in
    let third = answered (group_event scene own kids event first.yes second.taker) second.progress in
    let e = many-ended own.number own.facts.split event first.yes third.progress in
    omega arith
    ))

-- a child of a group gets the event within what the group makes of it
pub try_fits : (scene : Scene) (own : PlainView) (event : Event) (kid : EventChild) (progress : Progress) (part : Event) → GetsPart scene own event kid progress part
    → many (kid.reach part progress).progress ≤ many (try_child scene own event kid progress).progress
try_fits scene own event kid progress part gets =
    let n = grow_taken own event kid.view.number (kid.reach part progress) in
    let m : many (kid.reach part progress).progress ≤ many (taken_by own event kid.view.number (kid.reach part progress)).progress = omega arith in
    rw (gets.tried, gets.other, ← gets.part_is) m

-- what is left of a list of children is within the whole list
pub later_fits : (scene : Scene) (own : PlainView) (event : Event) {rest list : Forest Row} (start : Progress) → Later rest list
    → many (try_children scene own event (event_children scene (views_of rest)) start).progress ≤ many (try_children scene own event (event_children scene (views_of list)) start).progress
later_fits scene own event start At_first = omega arith
later_fits scene own event start (Later_on {row = row} {kids = kids} {siblings = siblings} l) =
    let h = later_fits scene own event start l in
    let tried = try_children scene own event (event_children scene (views_of siblings)) start in
    let kid : EventChild = record { view = row.view; reach = reached_by scene row.view (event_children scene (views_of kids)) } in
    let all : AllGrow (event_children scene (views_of (Branch row kids siblings))) = children_grow scene (views_of (Branch row kids siblings)) in
    let g = grow_unless (try_child scene own event kid) tried.taker tried.progress (grow_try scene own event kid tried.progress all.0) in
    omega arith

pub out_fits : (scene : Scene) (own : PlainView) (kids : List EventChild) (event : Event) (intercepted : Bool) (taker : Taker) (child : ℕ) (ids : ℕ → Bool) (targets rest : List Target) (said : Bool) (progress : Progress) → AllGrow kids
    → from_child child targets ≡ record { child = child; ids = ids } ∷ rest
    → many (hand_to (group_event scene own kids event intercepted taker) (record { child = child; ids = ids }) progress).progress
    ≤ many (hand_out (group_event scene own kids event intercepted taker) (from_child child targets) said progress).progress
out_fits scene own kids event intercepted taker child ids targets rest said progress grow is =
    let reached = hand_to (group_event scene own kids event intercepted taker) (record { child = child; ids = ids }) progress in
    let g = grow_hand_out scene own kids event intercepted taker rest (said || reached.yes) reached.progress grow in
    rw is g
