-- An event goes to each view at most once: the children that are tried, and the targets, are other children.
use Rattle.std.proofs.Common.{◌≡◌, ℕ, ◌+◌, ◌≤◌, Bool, true, false, List, [], ◌∷◌, Option, Some, None, refl, ◌∙◌, ap, subst, arith, inl, inr}
use Rattle.std.proofs.lemmas.Bool.{cases_Bool, eq-eqb}
use Rattle.std.specs.Prelude.{◌==◌, ◌&&◌, not, if◌then◌else◌}
use Rattle.touch_event.specs.declared.event.Action.{Action}
use Rattle.touch_event.specs.declared.event.Action.TheVariants.{Down, Up, Move, Cancel, PointerDown, PointerUp}
use Rattle.touch_dispatch.specs.declared.log.Entry.{Entry}
use Rattle.touch_dispatch.specs.declared.reaching.taker.Taker.{Taker}
use Rattle.touch_dispatch.specs.declared.reaching.taker.Taker.TheVariants.{Earlier, Sent, NoChild}
use Rattle.touch_event.specs.declared.event.Event.{Event}
use Rattle.view_model.specs.Forest.{Branch, Forest, Nothing}
use Rattle.view_model.specs.Classes.{is_group}
use Rattle.view_model.specs.PlainTree.{PlainView}
use Rattle.touch_dispatch.proofs.gestures.DistinctLaws.{child_same, drop_distinct, more_ids, put_distinct}
use Rattle.touch_dispatch.proofs.counts.OnceLaws.{Bounded, Fees, Free, Priced, Priced_more, Step, allowed, asked_step, begun_step, bound_out, distinct_cleared, distinct_set, kept_less, no_step, own_step, price_all, price_kept, price_list, price_of, price_others, price_parts, price_targets_list, put_fresh, put_old}
use Rattle.touch_dispatch.proofs.steps.GroupEvents.{group_event}
use Rattle.touch_dispatch.proofs.steps.StayLaws.{AllStay, Stays, children_stay, occurs}
use Rattle.touch_dispatch.proofs.steps.TargetLaws.{oldest_there}
use Rattle.touch_dispatch.specs.Dispatch.{EventChild, Scene, Tried, answered, begun, ended, ended_by, event_children, given, group_reached, is_offered, offered, oldest, only, reach, reached_by, receiver, settled, taken_by, tried_event, tried_ids, try_child, try_children, unless_taken}
use Rattle.touch_dispatch.specs.gesture.Gestures.{PlainGesture, set_targets}
use Rattle.touch_dispatch.specs.handling.Handling.{Progress, Reached, asked, is_nil, targets_at}
use Rattle.touch_dispatch.specs.Once.{AllDistinct}
use Rattle.touch_dispatch.specs.reaching.Points.{is_tried, local_event}
use Rattle.touch_targets.specs.Captures.{Target, drop_pointers, is_target, put_target}

-- how the targets of a group change, by which child took the pointer
abbrev pub TriedIs : List Target → Taker → List Target → Type 0
TriedIs old NoChild new = new ≡ old
TriedIs old Earlier new = (child : ℕ) × (ids : ℕ → Bool) × (is_target child old ≡ true) × (new ≡ put_target child ids old)
TriedIs old (Sent child) new = (ids : ℕ → Bool) × (is_target child old ≡ false) × (new ≡ put_target child ids old)

pub record TriedStep (tally : Entry → ℕ) (group : ℕ) (old : Progress) (taker : Taker) (new : Progress) (price : ℕ) : Type 0 where
  pub step : Step tally old new price
  pub is : TriedIs (targets_at old group) taker (targets_at new group)

set_here : (group : ℕ) (targets : List Target) (gesture : PlainGesture) → (set_targets group targets gesture).targets group ≡ targets
set_here group targets gesture = rw (eq-eqb group group refl) refl

put_step : (tally : Entry → ℕ) (group child : ℕ) (ids : ℕ → Bool) (progress : Progress) → AllDistinct progress.gesture.targets
    → AllDistinct (set_targets group (put_target child ids (targets_at progress group)) progress.gesture).targets
put_step tally group child ids progress all = distinct_set group (put_target child ids (targets_at progress group)) progress.gesture all (put_distinct child ids (targets_at progress group) (all group))

taken_step : (tally : Entry → ℕ) (own : PlainView) (event : Event) (child price : ℕ) (old : Progress) (reached : Reached) → Step tally old reached.progress price
    → targets_at reached.progress own.number ≡ targets_at old own.number → is_target child (targets_at old own.number) ≡ false
    → TriedStep tally own.number old (taken_by own event child reached).taker (taken_by own event child reached).progress price
taken_step tally own event child price old reached step same new = elim (cases_Bool reached.yes) [
  | inl e ↦ rw e (record {
    step = record { cost = step.cost; distinct = put_step tally own.number child (tried_ids own.facts.split event) reached.progress step.distinct };
    is = (tried_ids own.facts.split event, new, set_here own.number _ reached.progress.gesture ∙ ap (put_target child (tried_ids own.facts.split event)) same);
  })
  | inr e ↦ rw e (record { step = step; is = same })
]

try_step : (tally : Entry → ℕ) (scene : Scene) (own : PlainView) (event : Event) (kid : EventChild) (price : ℕ) (progress : Progress) → Bounded tally kid price → Stays own.number kid → AllDistinct progress.gesture.targets
    → TriedStep tally own.number progress (try_child scene own event kid progress).taker (try_child scene own event kid progress).progress (if is_target kid.view.number (targets_at progress own.number) then 0 else price)
try_step tally scene own event kid price progress bound stays all =
    elim (cases_Bool (is_tried kid.view.facts.visibility (scene.rects kid.view.number) (progress.offsets own.number) event)) [
      | inl e ↦ rw e (by_target (is_target kid.view.number (targets_at progress own.number)) refl)
      | inr e ↦ rw e (record { step = no_step tally progress _ all; is = refl })
    ]
  where
    put : PlainGesture
    put = set_targets own.number (put_target kid.view.number (only event.pointer) (targets_at progress own.number)) progress.gesture

    part : Event
    part = local_event (scene.rects kid.view.number) (progress.offsets own.number) (tried_event own.facts.split event)

    earlier : Tried
    earlier = record { taker = Earlier; progress = record progress { gesture = put } }

    by_target : (b : Bool) → is_target kid.view.number (targets_at progress own.number) ≡ b
        → let tried = if b then earlier else taken_by own event kid.view.number (kid.reach part progress) in
        TriedStep tally own.number progress tried.taker tried.progress (if b then 0 else price)
    by_target true e = record {
      step = record { cost = omega arith; distinct = put_step tally own.number kid.view.number (only event.pointer) progress all };
      is = (kid.view.number, only event.pointer, e, set_here own.number _ progress.gesture);
    }
    by_target false e = taken_step tally own event kid.view.number price progress (kid.reach part progress) (bound.bound part progress all) (stays part progress) e

unless_step : (tally : Entry → ℕ) (group : ℕ) (old : Progress) (first more : ℕ) (next : Progress → Tried) (taker : Taker) (progress : Progress) → TriedStep tally group old taker progress first
    → (targets_at progress group ≡ targets_at old group → TriedStep tally group progress (next progress).taker (next progress).progress more)
    → TriedStep tally group old (unless_taken next taker progress).taker (unless_taken next taker progress).progress (more + first)
unless_step tally group old first more next NoChild progress step on =
    let n = on step.is in
    let a = step.step.cost in
    let b = n.step.cost in
    record {
      step = record { cost = omega arith; distinct = n.step.distinct };
      is = subst (λ t. TriedIs t (next progress).taker (targets_at (next progress).progress group)) step.is n.is;
    }
unless_step tally group old first more next Earlier progress step on = let a = step.step.cost in record { step = record { cost = omega arith; distinct = step.step.distinct }; is = step.is }
unless_step tally group old first more next (Sent child) progress step on = let a = step.step.cost in record { step = record { cost = omega arith; distinct = step.step.distinct }; is = step.is }

-- the children that are tried are no targets
pub tries_step : {tally : Entry → ℕ} {kids : List EventChild} (scene : Scene) (own : PlainView) (event : Event) (p : Priced tally kids) (progress : Progress) → AllStay own.number kids → AllDistinct progress.gesture.targets
    → TriedStep tally own.number progress (try_children scene own event kids progress).taker (try_children scene own event kids progress).progress (price_others (targets_at progress own.number) p)
tries_step {tally = tally} scene own event Free progress stays all = record { step = no_step tally progress 0 all; is = refl }
tries_step {tally = tally} scene own event (Priced_more {kid = kid} {kids = kids} price bound more) progress stays all =
    let tried = try_children scene own event kids progress in
    let h = tries_step scene own event more progress stays.1 all in
    unless_step tally own.number progress (price_others (targets_at progress own.number) more) (if is_target kid.view.number (targets_at progress own.number) then 0 else price)
    (try_child scene own event kid) tried.taker tried.progress h
    (λ same. subst (λ t. TriedStep tally own.number tried.progress (try_child scene own event kid tried.progress).taker (try_child scene own event kid tried.progress).progress (if is_target kid.view.number t then 0 else price)) same
    (try_step tally scene own event kid price tried.progress bound stays.0 h.step.distinct))

-- more pointers of a target cost nothing
list_ids : {tally : Entry → ℕ} {kids : List EventChild} (child : ℕ) (ids : ℕ → Bool) (targets : List Target) (p : Priced tally kids) → price_list (more_ids child ids targets) p ≡ price_list targets p
list_ids child ids [] p = refl
list_ids child ids (t ∷ targets) p =
    let h = list_ids child ids targets p in
    let k = ap (λ c. price_of c p) (child_same child ids t (t.child == child)) in
    rw (k, h) refl

-- what the targets may get is what those may that were there
pub kept_by : {tally : Entry → ℕ} {kids : List EventChild} (old new : List Target) (taker : Taker) (p : Priced tally kids) → TriedIs old taker new → price_kept taker new p ≤ price_list old p
kept_by old new NoChild p is = rw is (kept_less NoChild old p)
kept_by old new Earlier p is =
    let h = kept_less Earlier (more_ids is.0 is.1 old) p in
    let e = list_ids is.0 is.1 old p in
    rw (is.3, put_old is.0 is.1 old is.2) (omega arith)
kept_by old new (Sent child) p is =
    let h = kept_less (Sent child) old p in
    rw (is.2, put_fresh child is.0 old is.1, eq-eqb child child refl) (omega arith)

-- the pointer that no child took
settled_step : {tally : Entry → ℕ} {kids : List EventChild} (group : ℕ) (event : Event) (old : Progress) (price : ℕ) (taker : Taker) (progress : Progress) (p : Priced tally kids) → TriedStep tally group old taker progress price
    → let settled_ = settled group event (record { taker = taker; progress = progress }) in
    Step tally old settled_.progress price × (price_kept settled_.taker (targets_at settled_.progress group) p ≤ price_list (targets_at old group) p)
settled_step {tally = tally} group event old price NoChild progress p step = by_oldest (oldest (targets_at progress group)) refl
  where
    by_oldest : (o : Option ℕ) → oldest (targets_at progress group) ≡ o
        → Step tally old (record progress { gesture = given o group event.pointer progress.gesture }) price
        × (price_kept NoChild ((given o group event.pointer progress.gesture).targets group) p ≤ price_list (targets_at old group) p)
    by_oldest None e = (step.step, kept_by (targets_at old group) (targets_at progress group) NoChild p step.is)
    by_oldest (Some child) e =
        let there = oldest_there child (targets_at progress group) e in (
          record { cost = step.step.cost; distinct = put_step tally group child (only event.pointer) progress step.step.distinct },
          subst (λ t. price_kept NoChild ((given (Some child) group event.pointer progress.gesture).targets group) p ≤ price_list t p) step.is
              (kept_by (targets_at progress group) ((given (Some child) group event.pointer progress.gesture).targets group) Earlier p
              (child, only event.pointer, there, set_here group (put_target child (only event.pointer) (targets_at progress group)) progress.gesture)),
        )
settled_step group event old price Earlier progress p step = (step.step, kept_by (targets_at old group) (targets_at progress group) Earlier p step.is)
settled_step group event old price (Sent child) progress p step = (step.step, kept_by (targets_at old group) (targets_at progress group) (Sent child) p step.is)

offered_step : {tally : Entry → ℕ} {kids : List EventChild} (scene : Scene) (own : PlainView) (event : Event) (intercepted : Bool) (p : Priced tally kids) (progress : Progress) → AllStay own.number kids → AllDistinct progress.gesture.targets
    → let second = offered scene own kids event intercepted progress in
    Step tally progress second.progress (price_others (targets_at progress own.number) p) × (price_kept second.taker (targets_at second.progress own.number) p ≤ price_list (targets_at progress own.number) p)
offered_step {tally = tally} {kids = kids} scene own event intercepted p progress stays all =
    elim (cases_Bool (not intercepted && is_offered event.action own.facts.split)) [
      | inl e ↦
          let tried = try_children scene own event kids progress in
          rw e (settled_step own.number event progress (price_others (targets_at progress own.number) p) tried.taker tried.progress p (tries_step scene own event p progress stays all))
      | inr e ↦ rw e (no_step tally progress _ all, kept_less NoChild (targets_at progress own.number) p)
    ]

ended_step : (tally : Entry → ℕ) (group : ℕ) (split : Bool) (event : Event) (intercepted : Bool) (progress : Progress) → AllDistinct progress.gesture.targets → Step tally progress (ended group split event intercepted progress) 0
ended_step tally group split event intercepted progress all = elim (cases_Bool intercepted) [
  | inl e ↦
      let s = by_action event.action (record progress { gesture = set_targets group [] progress.gesture }) (distinct_cleared group progress.gesture all) in
      rw e (record { cost = s.cost; distinct = s.distinct })
  | inr e ↦ rw e (by_action event.action progress all)
]
  where
    by_action : (action : Action) (progress : Progress) → AllDistinct progress.gesture.targets → Step tally progress (ended_by action split group event.pointer progress) 0
    by_action Up progress all = record { cost = omega arith; distinct = distinct_cleared group progress.gesture all }
    by_action Cancel progress all = record { cost = omega arith; distinct = distinct_cleared group progress.gesture all }
    by_action Down progress all = no_step tally progress 0 all
    by_action Move progress all = no_step tally progress 0 all
    by_action PointerDown progress all = no_step tally progress 0 all
    by_action PointerUp progress all = elim (cases_Bool split) [
      | inl e ↦ rw e (record { cost = omega arith; distinct = distinct_set group (drop_pointers (only event.pointer) (targets_at progress group)) progress.gesture all (drop_distinct (only event.pointer) (targets_at progress group) (all group)) })
      | inr e ↦ rw e (no_step tally progress 0 all)
    ]

-- the numbers of a forest are other numbers
abbrev pub Unique : Forest PlainView → Type 0
Unique Nothing = Unit {0}
Unique (Branch view below after) = (occurs view.number below ≡ 0) × Unique below × Unique after

module _ {tally : Entry → ℕ} {asking touching moving : ℕ → ℕ} (fees : Fees tally asking touching moving) where
  answered_step : {kids : List EventChild} (scene : Scene) (own : PlainView) (event : Event) (intercepted : Bool) (taker : Taker) (p : Priced tally kids) (progress : Progress) → AllDistinct progress.gesture.targets
      → Step tally progress (answered (group_event scene own kids event intercepted taker) progress).progress (touching own.number + moving own.number + price_kept taker (targets_at progress own.number) p)
  answered_step {kids = kids} scene own event intercepted taker p progress all =
      elim (cases_Bool (is_nil (targets_at progress own.number))) [
        | inl e ↦
            let s = own_step fees (receiver scene own kids) event progress all in
            let c = s.cost in
            rw e (record { cost = omega arith; distinct = s.distinct })
        | inr e ↦
            let s = bound_out scene own event intercepted taker (targets_at progress own.number) false p progress all in
            let c = s.cost in
            rw e (record { cost = omega arith; distinct = s.distinct })
      ]

  group_step : {kids : List EventChild} (scene : Scene) (own : PlainView) (event : Event) (p : Priced tally kids) (progress : Progress) → AllStay own.number kids → AllDistinct progress.gesture.targets
      → Step tally progress (group_reached scene own kids event progress).progress (asking own.number + (touching own.number + moving own.number) + price_all p)
  group_step {kids = kids} scene own event p progress stays all =
      let zero_ = begun own.number event.action progress in
      let first = asked (receiver scene own kids) event zero_ in
      let second = offered scene own kids event first.yes first.progress in
      let third = answered (group_event scene own kids event first.yes second.taker) second.progress in
      let s0 = begun_step tally own.number event.action progress all in
      let s1 = asked_step fees (receiver scene own kids) event zero_ s0.distinct in
      let s2 = offered_step scene own event first.yes p first.progress stays s1.distinct in
      let s3 = answered_step scene own event first.yes second.taker p second.progress s2.0.distinct in
      let s4 = ended_step tally own.number own.facts.split event first.yes third.progress s3.distinct in
      let targets = price_targets_list (targets_at first.progress own.number) p (s1.distinct own.number) in
      let parts = price_parts (targets_at first.progress own.number) p in
      let c0 = s0.cost in
      let c1 = s1.cost in
      let c2 = s2.0.cost in
      let k2 = s2.1 in
      let c3 = s3.cost in
      let c4 = s4.cost in
      record { cost = omega arith; distinct = s4.distinct }

  abbrev pub fee : ℕ → ℕ
  fee n = asking n + (touching n + moving n)

  reached_step : {kids : List EventChild} (scene : Scene) (own : PlainView) (p : Priced tally kids) → AllStay own.number kids
      → Bounded tally (record { view = own; reach = reached_by scene own kids }) (fee own.number + price_all p)
  reached_step {kids = kids} scene own p stays = record {
    bound = λ event progress all. elim (cases_Bool (is_group own.class)) [
      | inl e ↦ rw e (group_step scene own event p progress stays all)
      | inr e ↦
          let s = own_step fees (receiver scene own kids) event progress all in
          let c = s.cost in
          rw e (record { cost = omega arith; distinct = s.distinct })
    ];
  }

  pub record Paid (scene : Scene) (list : Forest PlainView) : Type 0 where
    pub prices : Priced tally (event_children scene list)
    pub is : price_all prices ≡ allowed fee list

  pub paid : (scene : Scene) (list : Forest PlainView) → Unique list → Paid scene list
  paid scene Nothing unique = record { prices = Free; is = refl }
  paid scene (Branch view below after) unique =
      let b = paid scene below unique.1 in
      let a = paid scene after unique.2 in
      record {
        prices = Priced_more (fee view.number + price_all b.prices) (reached_step scene view b.prices (children_stay view.number scene below unique.0)) a.prices;
        is = rw (b.is, a.is) (omega arith);
      }

  -- an event that goes to a view costs no more than the fees of the view and of those below it
  pub reach_step : (scene : Scene) (view : PlainView) (below after : Forest PlainView) (event : Event) (progress : Progress) → Unique (Branch view below after) → AllDistinct progress.gesture.targets
      → Step tally progress (reach scene (Branch view below after) event progress).progress (fee view.number + allowed fee below)
  reach_step scene view below after event progress unique all =
      let b = paid scene below unique.1 in
      let s = (reached_step scene view b.prices (children_stay view.number scene below unique.0)).bound event progress all in
      let c = s.cost in
      let e = b.is in
      record { cost = omega arith; distinct = s.distinct }
