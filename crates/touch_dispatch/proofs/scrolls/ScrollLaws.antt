-- The log of an event has each view whose offset it changes, and no other view as scrolled.
use Rattle.std.proofs.Common.{◌≡◌, ◌≢◌, ◌+◌, ◌≤◌, arith, ℕ, ℤ, Bool, true, false, List, [], ◌∷◌, ◌++◌, Option, Some, None, refl, sym, ◌∙◌, ap, inl, inr, ◌⊎◌, eqb-true}
use Rattle.std.proofs.lemmas.Bool.{cases_Bool, eq-eqb}
use Rattle.std.proofs.lemmas.Int.{ints}
use Rattle.std.specs.Prelude.{if◌then◌else◌, ◌==◌, ◌||◌, ◌&&◌, not, is_some, pos}
use Rattle.touch_dispatch.proofs.counts.OnceLaws.{total_more}
use Rattle.touch_dispatch.proofs.steps.GroupEvents.{group_event}
use Rattle.touch_dispatch.specs.Once.{total, touches}
use Rattle.touch_dispatch.specs.Dispatch.{EventChild, Scene, Tried, answered, begun, child_of, dispatched, ended, ended_by, event_children, group_reached, hand_out, hand_part, hand_to, intercepted_cleared, is_sent, is_offered, offered, reach, reached_by, receiver, taken_by, tried_event, try_child, try_children, unless_taken}
use Rattle.touch_dispatch.specs.gesture.Gestures.{at_number, set_drag, set_pressed}
use Rattle.touch_dispatch.specs.handling.Handling.{Progress, Reached, answered_ask, drag_answer, intercepts, looked, pressed_after, asked, click_handled, click_noted, clicks, drag_handled, handled, handled_by, is_down, is_nil, is_same_offset, moved_by, noted_with, offset_after, targets_at, with_gesture}
use Rattle.touch_dispatch.specs.reaching.Points.{is_near_first, is_tried, local_event}
use Rattle.touch_dispatch.specs.handling.Drags.{pulled}
use Rattle.touch_dispatch.specs.handling.Scrolled.{has_scrolled, is_scroll}
use Rattle.touch_dispatch.specs.declared.handling.drag.Drag.{Drag}
use Rattle.touch_dispatch.specs.declared.log.Entry.{Entry}
use Rattle.touch_dispatch.specs.declared.log.Kind.{Kind}
use Rattle.touch_dispatch.specs.declared.log.Kind.TheVariants.{Ask, Touch, Click, Scroll}
use Rattle.touch_dispatch.specs.declared.handling.receiver.Receiver.{Receiver}
use Rattle.touch_dispatch.specs.declared.reaching.taker.Taker.{Taker}
use Rattle.touch_dispatch.specs.declared.reaching.taker.Taker.TheVariants.{NoChild, Earlier, Sent}
use Rattle.touch_event.specs.declared.event.Action.{Action}
use Rattle.touch_event.specs.declared.event.Action.TheVariants.{Down, Up, Move, Cancel, PointerDown, PointerUp}
use Rattle.touch_event.specs.declared.event.Event.{Event}
use Rattle.touch_targets.specs.Captures.{Target, is_target}
use Rattle.view_model.specs.declared.answer.Answer.{Answer}
use Rattle.view_model.specs.declared.answer.Answer.TheVariants.{Off, Yes, Click as ClickPlan}
use Rattle.view_model.specs.Facts.{is_shown}
use Rattle.view_model.specs.Classes.{is_group}
use Rattle.view_model.specs.Forest.{Forest, Nothing, Branch}
use Rattle.view_model.specs.PlainTree.{PlainView}

-- how often a view has handled an event, by its entries
abbrev touched : ℕ → Progress → ℕ
touched n progress = total (touches n) progress.entries

-- a view was not scrolled
pub record StaysPut (n : ℕ) (old new : Progress) : Type 0 where
  pub entries : has_scrolled n new.entries ≡ has_scrolled n old.entries
  pub offset : new.offsets n ≡ old.offsets n

-- a view was scrolled by an event that it handled
pub record IsScrolled (n : ℕ) (old new : Progress) : Type 0 where
  pub handled : touched n old + 1 ≤ touched n new
  pub differs : new.offsets n ≢ old.offsets n

-- one of both, or it has handled two events
abbrev pub MovesOnce : ℕ → Progress → Progress → Type 0
MovesOnce n old new = StaysPut n old new ⊎ (IsScrolled n old new ⊎ (touched n old + 2 ≤ touched n new))

-- the progress of an event, and some steps further: where an offset has changed, the log has that; a view that handles
-- at most one event, and that the log has as scrolled, has another offset
pub record LogsScrolls (old new : Progress) : Type 0 where
  pub grew : (n : ℕ) → has_scrolled n old.entries ≡ true → has_scrolled n new.entries ≡ true
  pub logged : (n : ℕ) → (new.offsets n ≡ old.offsets n) ⊎ (has_scrolled n new.entries ≡ true)
  pub rose : (n : ℕ) → touched n old ≤ touched n new
  pub moved : (n : ℕ) → MovesOnce n old new

still : (progress : Progress) → LogsScrolls progress progress
still progress = record { grew = λ n e. e; logged = λ n. inl refl; rose = λ n. omega arith; moved = λ n. inl (record { entries = refl; offset = refl }) }

-- one step, and then another
moves_on : (n : ℕ) (first second third : Progress) → touched n first ≤ touched n second → touched n second ≤ touched n third
    → MovesOnce n first second → MovesOnce n second third → MovesOnce n first third
moves_on n first second third one two (inl still) (inl rests) = inl (record { entries = rests.entries ∙ still.entries; offset = rests.offset ∙ still.offset })
moves_on n first second third one two (inl still) (inr (inl scrolled)) =
    inr (inl (record { handled = let h = scrolled.handled in omega arith; differs = λ e. scrolled.differs (e ∙ sym still.offset) }))
moves_on n first second third one two (inl still) (inr (inr twice)) = inr (inr (omega arith))
moves_on n first second third one two (inr (inl scrolled)) (inl rests) =
    inr (inl (record { handled = let h = scrolled.handled in omega arith; differs = λ e. scrolled.differs (sym rests.offset ∙ e) }))
moves_on n first second third one two (inr (inl scrolled)) (inr (inl again)) = inr (inr (let h = scrolled.handled in let m = again.handled in omega arith))
moves_on n first second third one two (inr (inl scrolled)) (inr (inr twice)) = inr (inr (omega arith))
moves_on n first second third one two (inr (inr twice)) more = inr (inr (omega arith))

onward : {first second third : Progress} → LogsScrolls first second → LogsScrolls second third → LogsScrolls first third
onward {first = first} {second = second} {third = third} one two = record {
  grew = λ n e. two.grew n (one.grew n e);
  logged = λ n. elim (two.logged n) [
    | inr has ↦ inr has
    | inl same ↦ elim (one.logged n) [
      | inl before ↦ inl (same ∙ before)
      | inr has ↦ inr (two.grew n has)
    ]
  ];
  rose = λ n. let a = one.rose n in let b = two.rose n in omega arith;
  moved = λ n. moves_on n first second third (one.rose n) (two.rose n) (one.moved n) (two.moved n);
}

-- an operation on a gesture
gestured : {old new : Progress} → new.offsets ≡ old.offsets → new.entries ≡ old.entries → LogsScrolls old new
gestured {old = old} {new = new} offsets entries = record {
  grew = λ n e. ap (has_scrolled n) entries ∙ e;
  logged = λ n. inl (ap (λ (f : ℕ → ℤ). f n) offsets);
  rose = λ n. let e = ap (total (touches n)) entries in omega arith;
  moved = λ n. inl (record { entries = ap (has_scrolled n) entries; offset = ap (λ (f : ℕ → ℤ). f n) offsets });
}

either : (t a b : Bool) → (a ≡ true → b ≡ true) → (t || a) ≡ true → (t || b) ≡ true
either true a b on e = refl
either false a b on e = on e

scrolled_first : (n : ℕ) (one more : List Entry) → has_scrolled n one ≡ true → has_scrolled n (one ++ more) ≡ true
scrolled_first n [] more e = absurd (cc)
scrolled_first n (entry ∷ one) more e = either (is_scroll entry.kind && entry.view == n) (has_scrolled n one) (has_scrolled n (one ++ more)) (scrolled_first n one more) e

or_true : (t : Bool) → (t || true) ≡ true
or_true true = refl
or_true false = refl

scrolled_last : (n : ℕ) (one : List Entry) (entry : Entry) → (is_scroll entry.kind && entry.view == n) ≡ true → has_scrolled n (one ++ entry ∷ []) ≡ true
scrolled_last n [] entry e = rw e refl
scrolled_last n (first ∷ one) entry e = either (is_scroll first.kind && first.view == n) true (has_scrolled n (one ++ entry ∷ [])) (λ _. scrolled_last n one entry e) (or_true (is_scroll first.kind && first.view == n))

unscrolled_last : (n : ℕ) (one : List Entry) (entry : Entry) → (is_scroll entry.kind && entry.view == n) ≡ false → has_scrolled n (one ++ entry ∷ []) ≡ has_scrolled n one
unscrolled_last n [] entry e = rw e refl
unscrolled_last n (first ∷ one) entry e = ap (λ (t : Bool). (is_scroll first.kind && first.view == n) || t) (unscrolled_last n one entry e)

one_noted : (offset : ℤ) (view : ℕ) (kind : Kind) (event : Event) (said : Bool) (progress : Progress) → is_scroll kind ≡ false → LogsScrolls progress (noted_with offset view kind event said progress)
one_noted offset view kind event said progress other = record {
  grew = λ n e. scrolled_first n progress.entries _ e;
  logged = λ n. inl refl;
  rose = λ n. let t = total_more (touches n) progress.entries (record { view = view; kind = kind; event = event; yes = said; offset = offset }) in omega arith;
  moved = λ n. inl (record { entries = unscrolled_last n progress.entries _ (rw other refl); offset = refl });
}

clicks_log : (click : Bool) (view : ℕ) (event : Event) (progress : Progress) → LogsScrolls progress (click_noted click view event progress)
clicks_log true view event progress = one_noted _ view Click event true progress refl
clicks_log false view event progress = still progress

clicked_logs : (own : Receiver) (event : Event) (progress : Progress) → LogsScrolls progress (click_handled own event progress)
clicked_logs own event progress =
    let near = is_near_first own.rect own.slop event.points.items in
    let pressed = progress.gesture.presses own.number in
    let mid = with_gesture (set_pressed own.number (pressed_after event.action near pressed)) progress in
    onward {second = mid} (gestured refl refl) (clicks_log (clicks event.action near pressed) own.number event mid)

plan_logs : (answer : Answer) (own : Receiver) (event : Event) (progress : Progress) → LogsScrolls progress (handled_by answer own event progress).progress
plan_logs Off own event progress = one_noted (pos 0) own.number Touch event false progress refl
plan_logs Yes own event progress = one_noted (pos 0) own.number Touch event true progress refl
plan_logs ClickPlan own event progress =
    onward {second = noted_with (pos 0) own.number Touch event true progress} (one_noted (pos 0) own.number Touch event true progress refl)
    (clicked_logs own event (noted_with (pos 0) own.number Touch event true progress))

other_offset : (old new : ℤ) → is_same_offset old new ≡ false → new ≢ old
unfolding is_same_offset
other_offset old new e same = absurd (grind (arith, ints))

-- a scroll view handles an event, and moves its child
module _ (own : Receiver) (event : Event) (said : Bool) (drag : Drag) (offset : ℤ) (progress : Progress) (other : is_same_offset (progress.offsets own.number) offset ≡ false) where
  abbrev first : Progress
  first = with_gesture (set_drag own.number drag) (noted_with (pos 0) own.number Touch event said progress)

  abbrev last : Progress
  last = noted_with offset own.number Scroll event true (record first { offsets = at_number own.number offset first.offsets })

  abbrev touch_entry : Entry
  touch_entry = record { view = own.number; kind = Touch; event = event; yes = said; offset = pos 0 }

  abbrev scroll_entry : Entry
  scroll_entry = record { view = own.number; kind = Scroll; event = event; yes = true; offset = offset }

  counted : (n : ℕ) → touched n last ≡ touched n progress + touches n touch_entry
  counted n =
      let one = total_more (touches n) progress.entries touch_entry in
      let two = total_more (touches n) (progress.entries ++ touch_entry ∷ []) scroll_entry in
      omega arith

  moved_child : (n : ℕ) → MovesOnce n progress last
  moved_child n = elim (cases_Bool (n == own.number)) [
    | inl same ↦ inr (inl (record {
      handled = let c = counted n in let t : touches n touch_entry ≡ 1 = rw (eq-eqb own.number n (sym (eqb-true _ _ same))) refl in omega arith;
      differs = λ e. other_offset (progress.offsets own.number) offset other (let here : last.offsets n ≡ offset = rw same refl in sym here ∙ e ∙ ap progress.offsets (eqb-true _ _ same));
    }))
    | inr apart ↦ inl (record {
      entries =
          unscrolled_last n (progress.entries ++ touch_entry ∷ []) scroll_entry (apart_back n own.number apart)
          ∙ unscrolled_last n progress.entries touch_entry refl;
      offset = rw apart refl;
    })
  ]
    where
      apart_back : (n m : ℕ) → (n == m) ≡ false → (m == n) ≡ false
      apart_back n m e = elim (cases_Bool (m == n)) [
        | inl same ↦ absurd (let f : true ≡ false = sym (eq-eqb n m (sym (eqb-true _ _ same))) ∙ e in cc)
        | inr none ↦ none
      ]

  scroll_logs : LogsScrolls progress last
  scroll_logs = record {
    grew = λ n e. scrolled_first n (progress.entries ++ touch_entry ∷ []) _ (scrolled_first n progress.entries _ e);
    logged = λ n. elim (cases_Bool (n == own.number)) [
      | inl same ↦ inr (scrolled_last n (progress.entries ++ touch_entry ∷ []) scroll_entry (eq-eqb own.number n (sym (eqb-true _ _ same))))
      | inr apart ↦ inl (rw apart refl)
    ];
    rose = λ n. let c = counted n in omega arith;
    moved = moved_child;
  }

unmoved_log : (own : Receiver) (event : Event) (said : Bool) (drag : Drag) (progress : Progress)
    → LogsScrolls progress (with_gesture (set_drag own.number drag) (noted_with (pos 0) own.number Touch event said progress))
unmoved_log own event said drag progress =
    onward {second = noted_with (pos 0) own.number Touch event said progress} (one_noted (pos 0) own.number Touch event said progress refl) (gestured refl refl)

moves_log : (by : Option ℤ) (own : Receiver) (event : Event) (said : Bool) (drag : Drag) (progress : Progress)
    → LogsScrolls progress (moved_by by own event (with_gesture (set_drag own.number drag) (noted_with (pos 0) own.number Touch event said progress)))
moves_log None own event said drag progress = unmoved_log own event said drag progress
moves_log (Some way) own event said drag progress =
    let offset = offset_after own.range (progress.offsets own.number) way in
    elim (cases_Bool (is_same_offset (progress.offsets own.number) offset)) [
      | inl e ↦ rw e (unmoved_log own event said drag progress)
      | inr e ↦ rw e (scroll_logs own event said drag offset progress e)
    ]

drag_logs : (own : Receiver) (event : Event) (progress : Progress) → LogsScrolls progress (drag_handled own event progress).progress
drag_logs own event progress =
    let pull = pulled own.slop event (progress.gesture.drags own.number) in
    moves_log pull.by own event (drag_answer own.childless event.action) pull.drag progress

handled_logs : (own : Receiver) (event : Event) (progress : Progress) → LogsScrolls progress (handled own event progress).progress
handled_logs own event progress = by own.scrolls
  where
    by : (scrolls : Bool) → LogsScrolls progress (if scrolls then drag_handled own event progress else handled_by own.answer own event progress).progress
    by true = drag_logs own event progress
    by false = plan_logs own.answer own event progress

answered_logs : (own : Receiver) (event : Event) (progress : Progress) → LogsScrolls progress (answered_ask own event progress).progress
answered_logs own event progress =
    let looked_on = with_gesture (looked own event) progress in
    onward {second = looked_on} (gestured refl refl) (one_noted (pos 0) own.number Ask event (intercepts own event looked_on.gesture) looked_on refl)

asked_logs : (own : Receiver) (event : Event) (progress : Progress) → LogsScrolls progress (asked own event progress).progress
asked_logs own event progress = elim (cases_Bool (is_down event.action || not (is_nil (targets_at progress own.number)))) [
  | inl e ↦ rw e (elim (cases_Bool (progress.gesture.disallows own.number)) [
    | inl f ↦ rw f (still progress)
    | inr f ↦ rw f (answered_logs own event progress)
  ])
  | inr e ↦ rw e (still progress)
]

abbrev LogsBy : EventChild → Type 0
LogsBy kid = (event : Event) (progress : Progress) → LogsScrolls progress (kid.reach event progress).progress

abbrev AllLog : List EventChild → Type 0
AllLog [] = Unit {0}
AllLog (kid ∷ kids) = LogsBy kid × AllLog kids

begun_logs : (group : ℕ) (action : Action) (progress : Progress) → LogsScrolls progress (begun group action progress)
begun_logs group action progress = elim (cases_Bool (is_down action)) [
  | inl e ↦ rw e (gestured refl refl)
  | inr e ↦ rw e (still progress)
]

taken_logs : (own : PlainView) (event : Event) (child : ℕ) (reached : Reached) → LogsScrolls reached.progress (taken_by own event child reached).progress
taken_logs own event child reached = elim (cases_Bool reached.yes) [
  | inl e ↦ rw e (gestured refl refl)
  | inr e ↦ rw e (still reached.progress)
]

try_logs : (scene : Scene) (own : PlainView) (event : Event) (kid : EventChild) (progress : Progress) → LogsBy kid → LogsScrolls progress (try_child scene own event kid progress).progress
try_logs scene own event kid progress logs =
    elim (cases_Bool (is_tried kid.view.facts.visibility (scene.rects kid.view.number) (progress.offsets own.number) event)) [
      | inl e ↦ elim (cases_Bool (is_target kid.view.number (targets_at progress own.number))) [
        | inl t ↦ rw (e, t) (gestured refl refl)
        | inr t ↦
            let part = local_event (scene.rects kid.view.number) (progress.offsets own.number) (tried_event own.facts.split event) in
            rw (e, t) (onward (logs part progress) (taken_logs own event kid.view.number (kid.reach part progress)))
      ]
      | inr e ↦ rw e (still progress)
    ]

unless_logs : (next : Progress → Tried) (taker : Taker) (progress : Progress) → LogsScrolls progress (next progress).progress → LogsScrolls progress (unless_taken next taker progress).progress
unless_logs next NoChild progress logs = logs
unless_logs next Earlier progress logs = still progress
unless_logs next (Sent child) progress logs = still progress

tries_log : (scene : Scene) (own : PlainView) (event : Event) (kids : List EventChild) (progress : Progress) → AllLog kids → LogsScrolls progress (try_children scene own event kids progress).progress
tries_log scene own event [] progress logs = still progress
tries_log scene own event (kid ∷ kids) progress logs =
    let tried = try_children scene own event kids progress in
    onward (tries_log scene own event kids progress logs.1)
    (unless_logs (try_child scene own event kid) tried.taker tried.progress (try_logs scene own event kid tried.progress logs.0))

offered_logs : (scene : Scene) (own : PlainView) (kids : List EventChild) (event : Event) (intercepted : Bool) (progress : Progress) → AllLog kids
    → LogsScrolls progress (offered scene own kids event intercepted progress).progress
offered_logs scene own kids event intercepted progress logs =
    elim (cases_Bool (not intercepted && is_offered event.action own.facts.split)) [
      | inl e ↦
          let tried = try_children scene own event kids progress in
          rw e (onward (tries_log scene own event kids progress logs) (unless_logs _ tried.taker tried.progress (gestured refl refl)))
      | inr e ↦ rw e (still progress)
    ]

child_logs : (child : ℕ) (part : Event) (kids : List EventChild) (progress : Progress) → AllLog kids → LogsScrolls progress (hand_part (Some part) (child_of child kids) progress).progress
child_logs child part [] progress logs = still progress
child_logs child part (kid ∷ kids) progress logs =
    elim (cases_Bool (kid.view.number == child)) [
      | inl e ↦ rw e (logs.0 part progress)
      | inr e ↦ rw e (child_logs child part kids progress logs.1)
    ]

part_logs : (child : ℕ) (part : Option Event) (kids : List EventChild) (progress : Progress) → AllLog kids → LogsScrolls progress (hand_part part (child_of child kids) progress).progress
part_logs child None kids progress logs = still progress
part_logs child (Some part) kids progress logs = child_logs child part kids progress logs

hand_to_logs : (scene : Scene) (own : PlainView) (kids : List EventChild) (event : Event) (intercepted : Bool) (taker : Taker) (target : Target) (progress : Progress) → AllLog kids
    → LogsScrolls progress (hand_to (group_event scene own kids event intercepted taker) target progress).progress
hand_to_logs scene own kids event intercepted taker target progress logs =
    elim (cases_Bool (is_sent taker target.child)) [
      | inl e ↦ rw e (still progress)
      | inr e ↦ rw e (part_logs target.child _ kids progress logs)
    ]

hand_out_logs : (scene : Scene) (own : PlainView) (kids : List EventChild) (event : Event) (intercepted : Bool) (taker : Taker) (targets : List Target) (said : Bool) (progress : Progress) → AllLog kids
    → LogsScrolls progress (hand_out (group_event scene own kids event intercepted taker) targets said progress).progress
hand_out_logs scene own kids event intercepted taker [] said progress logs = still progress
hand_out_logs scene own kids event intercepted taker (t ∷ targets) said progress logs =
    let reached = hand_to (group_event scene own kids event intercepted taker) t progress in
    onward (hand_to_logs scene own kids event intercepted taker t progress logs)
    (hand_out_logs scene own kids event intercepted taker targets (said || reached.yes) reached.progress logs)

answered_group_logs : (scene : Scene) (own : PlainView) (kids : List EventChild) (event : Event) (intercepted : Bool) (taker : Taker) (progress : Progress) → AllLog kids
    → LogsScrolls progress (answered (group_event scene own kids event intercepted taker) progress).progress
answered_group_logs scene own kids event intercepted taker progress logs =
    elim (cases_Bool (is_nil (targets_at progress own.number))) [
      | inl e ↦ rw e (handled_logs (receiver scene own kids) event progress)
      | inr e ↦ rw e (hand_out_logs scene own kids event intercepted taker (targets_at progress own.number) false progress logs)
    ]

ended_logs : (group : ℕ) (split : Bool) (event : Event) (intercepted : Bool) (progress : Progress) → LogsScrolls progress (ended group split event intercepted progress)
ended_logs group split event intercepted progress = onward cleared (by_action event.action (intercepted_cleared intercepted group progress))
  where
    by_action : (action : Action) (progress : Progress) → LogsScrolls progress (ended_by action split group event.pointer progress)
    by_action Up progress = gestured refl refl
    by_action Cancel progress = gestured refl refl
    by_action Down progress = still progress
    by_action Move progress = still progress
    by_action PointerDown progress = still progress
    by_action PointerUp progress = elim (cases_Bool split) [
      | inl e ↦ rw e (gestured refl refl)
      | inr e ↦ rw e (still progress)
    ]

    cleared : LogsScrolls progress (intercepted_cleared intercepted group progress)
    cleared = elim (cases_Bool intercepted) [
      | inl e ↦ rw e (gestured refl refl)
      | inr e ↦ rw e (still progress)
    ]

group_logs : (scene : Scene) (own : PlainView) (kids : List EventChild) (event : Event) (progress : Progress) → AllLog kids → LogsScrolls progress (group_reached scene own kids event progress).progress
group_logs scene own kids event progress logs =
    let zero_ = begun own.number event.action progress in
    let first = asked (receiver scene own kids) event zero_ in
    let second = offered scene own kids event first.yes first.progress in
    let third = answered (group_event scene own kids event first.yes second.taker) second.progress in
    onward (begun_logs own.number event.action progress)
    (onward (asked_logs (receiver scene own kids) event zero_)
    (onward (offered_logs scene own kids event first.yes first.progress logs)
    (onward (answered_group_logs scene own kids event first.yes second.taker second.progress logs)
    (ended_logs own.number own.facts.split event first.yes third.progress))))

reached_logs : (scene : Scene) (own : PlainView) (kids : List EventChild) (event : Event) (progress : Progress) → AllLog kids → LogsScrolls progress (reached_by scene own kids event progress).progress
reached_logs scene own kids event progress logs = elim (cases_Bool (is_group own.class)) [
  | inl e ↦ rw e (group_logs scene own kids event progress logs)
  | inr e ↦ rw e (handled_logs (receiver scene own kids) event progress)
]

children_log : (scene : Scene) (list : Forest PlainView) → AllLog (event_children scene list)
children_log scene Nothing = tt
children_log scene (Branch view below after) =
    (λ event progress. reached_logs scene view (event_children scene below) event progress (children_log scene below), children_log scene after)

pub reach_logs : (scene : Scene) (list : Forest PlainView) (event : Event) (progress : Progress) → LogsScrolls progress (reach scene list event progress).progress
reach_logs scene Nothing event progress = still progress
reach_logs scene (Branch view below after) event progress = reached_logs scene view (event_children scene below) event progress (children_log scene below)

pub dispatch_logs : (scene : Scene) (list : Forest PlainView) (event : Event) (progress : Progress) → LogsScrolls progress (dispatched scene list event progress).progress
dispatch_logs scene Nothing event progress = still progress
dispatch_logs scene (Branch view below after) event progress = elim (cases_Bool (is_some (scene.rects view.number) && is_shown view.facts)) [
  | inl e ↦ rw e (reach_logs scene (Branch view below after) event progress)
  | inr e ↦ rw e (still progress)
]
