-- An event goes to each view at most once: what is counted of its entries is bounded by what the views may cost.
use Rattle.std.proofs.Common.{◌≡◌, ℕ, ℤ, ◌+◌, ◌≤◌, Bool, true, false, List, [], ◌∷◌, ◌++◌, Option, Some, None, refl, sym, ◌∙◌, ap, subst, arith, eqb-true, inl, inr}
use Rattle.std.proofs.lemmas.Bool.{cases_Bool, eq-eqb, ne_eqb}
use Rattle.std.specs.Prelude.{pos, ◌==◌, ◌||◌, not, if◌then◌else◌}
use Rattle.touch_event.specs.declared.event.Action.{Action}
use Rattle.view_model.specs.declared.answer.Answer.{Answer}
use Rattle.view_model.specs.declared.answer.Answer.TheVariants.{Off, Yes, Click as ClickPlan}
use Rattle.touch_dispatch.specs.declared.log.Entry.{Entry}
use Rattle.touch_dispatch.specs.declared.log.Kind.TheVariants.{Ask, Click, Scroll, Touch}
use Rattle.touch_dispatch.specs.declared.handling.receiver.Receiver.{Receiver}
use Rattle.touch_dispatch.specs.declared.reaching.taker.Taker.{Taker}
use Rattle.touch_event.specs.declared.event.Event.{Event}
use Rattle.view_model.specs.Forest.{Branch, Forest, Nothing}
use Rattle.view_model.specs.PlainTree.{PlainView}
use Rattle.touch_dispatch.proofs.gestures.CaughtLaws.{asked_targets, handled_targets}
use Rattle.touch_dispatch.proofs.gestures.DistinctLaws.{more_ids}
use Rattle.touch_dispatch.proofs.steps.GroupEvents.{group_event}
use Rattle.touch_dispatch.specs.Dispatch.{EventChild, Scene, begun, child_of, hand_out, hand_part, hand_to, is_sent, part_for}
use Rattle.touch_dispatch.specs.handling.Drags.{pulled}
use Rattle.touch_dispatch.specs.gesture.Gestures.{PlainGesture, set_drag, set_pressed, set_targets}
use Rattle.touch_dispatch.specs.handling.Handling.{Progress, asked, click_noted, clicks, drag_answer, drag_handled, handled, handled_by, intercepts, is_down, is_nil, is_same_offset, looked, moved_by, noted, offset_after, pressed_after, scrolled_to, targets_at, with_gesture}
use Rattle.touch_dispatch.specs.Once.{AllDistinct, Distinct, total}
use Rattle.touch_dispatch.specs.reaching.Points.{is_near_first}
use Rattle.touch_targets.specs.Captures.{Target, is_target, put_target}

pub total_more : (tally : Entry → ℕ) (entries : List Entry) (e : Entry) → total tally (entries ++ e ∷ []) ≡ total tally entries + tally e
total_more tally [] e = omega arith
total_more tally (x ∷ entries) e = let h = total_more tally entries e in omega arith

abbrev pub spent : (Entry → ℕ) → Progress → ℕ
spent tally progress = total tally progress.entries

-- what the views of a forest may cost
abbrev pub allowed : (ℕ → ℕ) → Forest PlainView → ℕ
allowed cost Nothing = 0
allowed cost (Branch view below after) = cost view.number + (allowed cost below + allowed cost after)

-- a step costs no more than this, and leaves the targets of each group distinct
pub record Step (tally : Entry → ℕ) (old new : Progress) (price : ℕ) : Type 0 where
  pub cost : spent tally new ≤ spent tally old + price
  pub distinct : AllDistinct new.gesture.targets

-- an event that a child gets costs no more than this
pub record Bounded (tally : Entry → ℕ) (kid : EventChild) (price : ℕ) : Type 0 where
  pub bound : (event : Event) (progress : Progress) → AllDistinct progress.gesture.targets → Step tally progress (kid.reach event progress).progress price

-- children with their prices
pub data Priced (tally : Entry → ℕ) : List EventChild → Type 0 where
  Free : Priced tally []
  Priced_more : {kid : EventChild} {kids : List EventChild} (price : ℕ) → Bounded tally kid price → Priced tally kids → Priced tally (kid ∷ kids)

abbrev pub price_all : {tally : Entry → ℕ} {kids : List EventChild} → Priced tally kids → ℕ
price_all Free = 0
price_all (Priced_more price bound more) = price + price_all more

-- what the children cost that are no targets
abbrev pub price_others : {tally : Entry → ℕ} {kids : List EventChild} → List Target → Priced tally kids → ℕ
price_others targets Free = 0
price_others targets (Priced_more {kid = kid} price bound more) = (if is_target kid.view.number targets then 0 else price) + price_others targets more

-- what the children cost that are targets
abbrev pub price_targets : {tally : Entry → ℕ} {kids : List EventChild} → List Target → Priced tally kids → ℕ
price_targets targets Free = 0
price_targets targets (Priced_more {kid = kid} price bound more) = (if is_target kid.view.number targets then price else 0) + price_targets targets more

pub price_parts : {tally : Entry → ℕ} {kids : List EventChild} (targets : List Target) (p : Priced tally kids) → price_others targets p + price_targets targets p ≡ price_all p
price_parts targets Free = refl
price_parts targets (Priced_more {kid = kid} price bound more) =
    let h = price_parts targets more in
    elim (cases_Bool (is_target kid.view.number targets)) [
      | inl e ↦ rw e (omega arith)
      | inr e ↦ rw e (omega arith)
    ]

-- the price of the first child of a number
abbrev pub price_of : {tally : Entry → ℕ} {kids : List EventChild} → ℕ → Priced tally kids → ℕ
price_of number Free = 0
price_of number (Priced_more {kid = kid} price bound more) = if kid.view.number == number then price else price_of number more

-- the prices of the targets, one by one
abbrev pub price_list : {tally : Entry → ℕ} {kids : List EventChild} → List Target → Priced tally kids → ℕ
price_list [] p = 0
price_list (t ∷ targets) p = price_of t.child p + price_list targets p

-- one target more costs what its child does
price_first : {tally : Entry → ℕ} {kids : List EventChild} (t : Target) (targets : List Target) (p : Priced tally kids) → is_target t.child targets ≡ false
    → price_of t.child p + price_targets targets p ≤ price_targets (t ∷ targets) p
price_first t targets Free new = omega arith
price_first t targets (Priced_more {kid = kid} price bound more) new =
    let h = price_first t targets more new in
    elim (cases_Bool (kid.view.number == t.child)) [
      | inl e ↦
          let same : kid.view.number ≡ t.child = eqb-true _ _ e in
          let flip : (t.child == kid.view.number) ≡ true = eq-eqb t.child kid.view.number (sym same) in
          let out : is_target kid.view.number targets ≡ false = ap (λ n. is_target n targets) same ∙ new in
          rw (e, flip, out) (omega arith)
      | inr e ↦
          let flip : (t.child == kid.view.number) ≡ false = ne_eqb t.child kid.view.number (λ s. absurd (let f = eq-eqb kid.view.number t.child (sym s) in cc)) in
          rw (e, flip) (omega arith)
    ]

pub price_targets_list : {tally : Entry → ℕ} {kids : List EventChild} (targets : List Target) (p : Priced tally kids) → Distinct targets → price_list targets p ≤ price_targets targets p
price_targets_list [] p distinct = omega arith
price_targets_list (t ∷ targets) p distinct =
    let h = price_targets_list targets p distinct.1 in
    let f = price_first t targets p distinct.0 in
    omega arith

-- what the targets get that did not get the event before
abbrev pub price_kept : {tally : Entry → ℕ} {kids : List EventChild} → Taker → List Target → Priced tally kids → ℕ
price_kept taker [] p = 0
price_kept taker (t ∷ targets) p = (if is_sent taker t.child then 0 else price_of t.child p) + price_kept taker targets p

pub kept_less : {tally : Entry → ℕ} {kids : List EventChild} (taker : Taker) (targets : List Target) (p : Priced tally kids) → price_kept taker targets p ≤ price_list targets p
kept_less taker [] p = omega arith
kept_less taker (t ∷ targets) p =
    let h = kept_less taker targets p in
    elim (cases_Bool (is_sent taker t.child)) [
      | inl e ↦ rw e (omega arith)
      | inr e ↦ rw e (omega arith)
    ]

pub no_step : (tally : Entry → ℕ) (progress : Progress) (price : ℕ) → AllDistinct progress.gesture.targets → Step tally progress progress price
no_step tally progress price distinct = record { cost = omega arith; distinct = distinct }

-- distinct targets stay distinct
pub distinct_set : (group : ℕ) (targets : List Target) (gesture : PlainGesture) → AllDistinct gesture.targets → Distinct targets → AllDistinct (set_targets group targets gesture).targets
distinct_set group targets gesture all new n = elim (cases_Bool (n == group)) [
  | inl e ↦ rw e new
  | inr e ↦ rw e (all n)
]

pub put_fresh : (child : ℕ) (ids : ℕ → Bool) (targets : List Target) → is_target child targets ≡ false → put_target child ids targets ≡ record { child = child; ids = ids } ∷ targets
put_fresh child ids targets e = rw e refl

pub put_old : (child : ℕ) (ids : ℕ → Bool) (targets : List Target) → is_target child targets ≡ true → put_target child ids targets ≡ more_ids child ids targets
put_old child ids targets e = rw e refl

pub distinct_cleared : (group : ℕ) (gesture : PlainGesture) → AllDistinct gesture.targets → AllDistinct (set_targets group [] gesture).targets
distinct_cleared group gesture all = distinct_set group [] gesture all tt

pub begun_step : (tally : Entry → ℕ) (group : ℕ) (action : Action) (progress : Progress) → AllDistinct progress.gesture.targets → Step tally progress (begun group action progress) 0
begun_step tally group action progress all = elim (cases_Bool (is_down action)) [
  | inl e ↦ rw e (record { cost = omega arith; distinct = distinct_cleared group progress.gesture all })
  | inr e ↦ rw e (no_step tally progress 0 all)
]

-- the condition on a count: no view costs more than its fees
pub record Fees (tally : Entry → ℕ) (asking touching moving : ℕ → ℕ) : Type 0 where
  pub ask : (n : ℕ) (event : Event) (answer : Bool) → tally (record { view = n; kind = Ask; event = event; yes = answer; offset = pos 0 }) ≤ asking n
  pub touch : (n : ℕ) (event : Event) (answer : Bool) → tally (record { view = n; kind = Touch; event = event; yes = answer; offset = pos 0 }) ≤ touching n
  pub click : (n : ℕ) (event : Event) (answer : Bool) → tally (record { view = n; kind = Click; event = event; yes = answer; offset = pos 0 }) ≤ moving n
  pub scroll : (n : ℕ) (event : Event) (answer : Bool) (offset : ℤ) → tally (record { view = n; kind = Scroll; event = event; yes = answer; offset = offset }) ≤ moving n

module _ {tally : Entry → ℕ} {asking touching moving : ℕ → ℕ} (fees : Fees tally asking touching moving) where
  asked_cost : (own : Receiver) (event : Event) (progress : Progress) → spent tally (asked own event progress).progress ≤ spent tally progress + asking own.number
  asked_cost own event progress =
      elim (cases_Bool (is_down event.action || not (is_nil (targets_at progress own.number)))) [
        | inl e ↦ elim (cases_Bool (progress.gesture.disallows own.number)) [
          | inl d ↦ rw (e, d) (omega arith)
          | inr d ↦
              let said = intercepts own event (looked own event progress.gesture) in
              let more = total_more tally progress.entries (record { view = own.number; kind = Ask; event = event; yes = said; offset = pos 0 }) in
              let fee = fees.ask own.number event said in
              rw (e, d) (omega arith)
        ]
        | inr e ↦ rw e (omega arith)
      ]

  pub asked_step : (own : Receiver) (event : Event) (progress : Progress) → AllDistinct progress.gesture.targets → Step tally progress (asked own event progress).progress (asking own.number)
  asked_step own event progress all = record {
    cost = asked_cost own event progress;
    distinct = λ group. subst (λ (t : ℕ → List Target). Distinct (t group)) (sym (asked_targets own event progress)) (all group);
  }

  noted_touch : (number : ℕ) (event : Event) (answer : Bool) (progress : Progress) → spent tally (noted number Touch event answer progress) ≤ spent tally progress + touching number
  noted_touch number event answer progress =
      let more = total_more tally progress.entries (record { view = number; kind = Touch; event = event; yes = answer; offset = pos 0 }) in
      let fee = fees.touch number event answer in
      omega arith

  noted_click : (b : Bool) (number : ℕ) (event : Event) (progress : Progress) → spent tally (click_noted b number event progress) ≤ spent tally progress + moving number
  noted_click false number event progress = omega arith
  noted_click true number event progress =
      let more = total_more tally progress.entries (record { view = number; kind = Click; event = event; yes = true; offset = pos 0 }) in
      let fee = fees.click number event true in
      omega arith

  plan_cost : (answer : Answer) (own : Receiver) (event : Event) (progress : Progress)
      → spent tally (handled_by answer own event progress).progress ≤ spent tally progress + (touching own.number + moving own.number)
  plan_cost Off own event progress = let h = noted_touch own.number event false progress in omega arith
  plan_cost Yes own event progress = let h = noted_touch own.number event true progress in omega arith
  plan_cost ClickPlan own event progress =
      let h = noted_touch own.number event true progress in
      let near = is_near_first own.rect own.slop event.points.items in
      let pressed = progress.gesture.presses own.number in
      let set = with_gesture (set_pressed own.number (pressed_after event.action near pressed)) (noted own.number Touch event true progress) in
      let c = noted_click (clicks event.action near pressed) own.number event set in
      omega arith

  noted_scroll : (offset : ℤ) (number : ℕ) (event : Event) (progress : Progress) → spent tally (scrolled_to offset number event progress) ≤ spent tally progress + moving number
  noted_scroll offset number event progress =
      let more = total_more tally progress.entries (record { view = number; kind = Scroll; event = event; yes = true; offset = offset }) in
      let fee = fees.scroll number event true offset in
      elim (cases_Bool (is_same_offset (progress.offsets number) offset)) [
        | inl e ↦ rw e (omega arith)
        | inr e ↦ rw e (omega arith)
      ]

  moved_cost : (by : Option ℤ) (own : Receiver) (event : Event) (progress : Progress) → spent tally (moved_by by own event progress) ≤ spent tally progress + moving own.number
  moved_cost None own event progress = omega arith
  moved_cost (Some way) own event progress = noted_scroll (offset_after own.range (progress.offsets own.number) way) own.number event progress

  drag_cost : (own : Receiver) (event : Event) (progress : Progress) → spent tally (drag_handled own event progress).progress ≤ spent tally progress + (touching own.number + moving own.number)
  drag_cost own event progress =
      let said = drag_answer own.childless event.action in
      let pull = pulled own.slop event (progress.gesture.drags own.number) in
      let h = noted_touch own.number event said progress in
      let m = moved_cost pull.by own event (with_gesture (set_drag own.number pull.drag) (noted own.number Touch event said progress)) in
      omega arith

  own_cost : (b : Bool) (own : Receiver) (event : Event) (progress : Progress)
      → spent tally (if b then drag_handled own event progress else handled_by own.answer own event progress).progress ≤ spent tally progress + (touching own.number + moving own.number)
  own_cost true own event progress = drag_cost own event progress
  own_cost false own event progress = plan_cost own.answer own event progress

  pub own_step : (own : Receiver) (event : Event) (progress : Progress) → AllDistinct progress.gesture.targets
      → Step tally progress (handled own event progress).progress (touching own.number + moving own.number)
  own_step own event progress all = record {
    cost = own_cost own.scrolls own event progress;
    distinct = λ group. subst (λ (t : ℕ → List Target). Distinct (t group)) (sym (handled_targets own event progress)) (all group);
  }

-- a child that was found costs no more than its price
bound_child : {tally : Entry → ℕ} {kids : List EventChild} (child : ℕ) (part : Event) (p : Priced tally kids) (progress : Progress) → AllDistinct progress.gesture.targets
    → Step tally progress (hand_part (Some part) (child_of child kids) progress).progress (price_of child p)
bound_child {tally = tally} child part Free progress all = no_step tally progress 0 all
bound_child child part (Priced_more {kid = kid} price bound more) progress all =
    elim (cases_Bool (kid.view.number == child)) [
      | inl e ↦ rw e (bound.bound part progress all)
      | inr e ↦ rw e (bound_child child part more progress all)
    ]

bound_part : {tally : Entry → ℕ} {kids : List EventChild} (child : ℕ) (part : Option Event) (p : Priced tally kids) (progress : Progress) → AllDistinct progress.gesture.targets
    → Step tally progress (hand_part part (child_of child kids) progress).progress (price_of child p)
bound_part {tally = tally} child None p progress all = no_step tally progress (price_of child p) all
bound_part child (Some part) p progress all = bound_child child part p progress all

-- all targets together cost no more than theirs
pub bound_out : {tally : Entry → ℕ} {kids : List EventChild} (scene : Scene) (own : PlainView) (event : Event) (intercepted : Bool) (taker : Taker) (targets : List Target) (said : Bool) (p : Priced tally kids) (progress : Progress)
    → AllDistinct progress.gesture.targets
    → Step tally progress (hand_out (group_event scene own kids event intercepted taker) targets said progress).progress (price_kept taker targets p)
bound_out {tally = tally} scene own event intercepted taker [] said p progress all = no_step tally progress 0 all
bound_out {tally = tally} {kids = kids} scene own event intercepted taker (t ∷ targets) said p progress all =
    let reached = hand_to (group_event scene own kids event intercepted taker) t progress in
    let one : Step tally progress reached.progress (if is_sent taker t.child then 0 else price_of t.child p) =
    elim (cases_Bool (is_sent taker t.child)) [
      | inl e ↦ rw e (no_step tally progress 0 all)
      | inr e ↦ rw e (bound_part t.child (part_for (scene.rects t.child) (progress.offsets own.number) event intercepted t.ids) p progress all)
    ] in
    let rest = bound_out scene own event intercepted taker targets (said || reached.yes) p reached.progress one.distinct in
    let a = one.cost in
    let b = rest.cost in
    record { cost = omega arith; distinct = rest.distinct }
