-- A last phase that asks no child, and is left out.
use Rattle.std.proofs.Common.{if◌then◌else◌, ◌≡◌, ◌-◌, ◌∙◌, ℕ, ℤ, Bool, true, false, List, [], ◌∷◌, ◌++◌, Option, refl, sym, subst, ap, arith}
use Rattle.geom_core.specs.declared.geometry.Size.{Size}
use Rattle.linear_layout.specs.LinearPlan.{AsksNone}
use Rattle.measure_pass.specs.Caches.{AskedAt}
use Rattle.measure_pass.specs.Courses.{AfterPhase, InCourse}
use Rattle.measure_pass.specs.Phases.{MeasuresAll, MeasuresPhase}
use Rattle.measure_pass.specs.Plans.{Ends, RuledView, GroupPlan, HasIdlePhase, Represents, Turns, rule_in}
use Rattle.measure_pass.proofs.Shares.{trace-refl}
use Rattle.measure_pass.proofs.walks.Whole.{ends_here, phases_end, phases_more, ready_now}
use Rattle.view_model.specs.declared.work.Work.{Work}
use Rattle.view_model.specs.Course.{MeasuringProgress, Requested, after_phase, asked_for, measured_of, one_phase, size_in, sizes_of}
use Rattle.view_model.specs.Facts.{is_shown}
use Rattle.view_model.specs.Forest.{Forest}
use Rattle.view_model.specs.Measuring.{Measured, Specs}
use Rattle.view_tree.specs.Rows.{Row}
use Rattle.view_tree.specs.Views.{Held, Views, held_of}

-- children of whom none is asked stay as they are
left_turn : (v : Bool) (ask : List Measured → Measured → Option Specs) (taken : List Measured) (kid : Requested) (more : List Measured)
    → AsksNone ask ((if v then measured_of kid ∷ [] else []) ++ more) → (if v then asked_for (ask taken (measured_of kid)) kid else kid) ≡ kid
left_turn true ask taken kid more none = ap (λ (answer : Option Specs). asked_for answer kid) (none.0 taken (measured_of kid).size)
left_turn false ask taken kid more none = refl

left_rest : (v : Bool) (ask : List Measured → Measured → Option Specs) (kid : Requested) (more : List Measured)
    → AsksNone ask ((if v then measured_of kid ∷ [] else []) ++ more) → AsksNone ask more
left_rest true ask kid more none = none.1
left_rest false ask kid more none = none

left_all : (ask : List Measured → Measured → Option Specs) (taken : List Measured) (kids : List Requested) → AsksNone ask (sizes_of kids) → after_phase ask taken kids ≡ kids
left_all ask taken [] none = refl
left_all ask taken (kid ∷ kids) none =
    ap (λ (turned : Requested). turned ∷ after_phase ask (taken ++ size_in turned) kids) (left_turn (is_shown kid.child.facts) ask taken kid (sizes_of kids) none)
    ∙ ap (λ (kids : List Requested). kid ∷ kids) (left_all ask _ kids (left_rest (is_shown kid.child.facts) ask kid (sizes_of kids) none))

left_phase : (plan : GroupPlan) (group : RuledView) (past : List (List Measured)) (kids : List Requested) (held : ℕ → Held) (list : Forest Row) (count : ℕ) → HasIdlePhase plan
    → Represents plan group (past ++ sizes_of kids ∷ []) [] → InCourse held list kids
    → AfterPhase plan group (past ++ sizes_of kids ∷ []) [] kids held held list count count
left_phase plan group past kids held list count leaves represents course =
    let next = past ++ sizes_of kids ∷ [] in
    let ask = (rule_in group).ask next in
    let same = left_all ask [] kids (leaves.asks group past (sizes_of kids) represents) in
    record {
      plan_represents = leaves.takes group next [] (sizes_of (after_phase ask [] kids)) represents;
      course = subst (λ (kids : List Requested). InCourse held list kids) (sym same) course;
      costs = record { spent = omega arith; owing = omega arith };
      trace = trace-refl (AskedAt (after_phase ask [] kids)) (λ place. 1) held list count;
    }

pub all_left : (old mid new : GroupPlan) (before after : Views) (list : Forest Row) (left : ℕ) (size : Size) (total : ℤ) (answer : Bool) (start last : Work) → (left ≡ 0 → ⊥)
    → answer ≡ true → MeasuresPhase old mid list (record { views = before; work = start }) (record { views = after; work = last }) → Turns mid new answer → HasIdlePhase new → Ends new size total
    → MeasuresAll left old list (record { size = size; total = total }) (record { views = before; work = start }) (record { views = after; work = last })
all_left old mid new before after list left size total answer start last some again phase turns leaves ends = λ group past kids represents course ready.
    let rule = rule_in group in
    let progress : MeasuringProgress = record { past = past; kids = kids } in
    let done = phase group past kids represents course (ready_now rule left progress ready) in
    let turned = turns group past _ done.plan_represents in
    let next = one_phase rule progress in
    let held = held_of after in
    let omitted = left_phase new group past next.kids held list last.measured leaves (turned.follows again) done.course in
    let over = leaves.turns group next.past _ omitted.plan_represents in
    phases_more mid group left past kids (held_of before) held held list size total start.measured last.measured last.measured some (sym turned.answers ∙ again) done
    (phases_end new group (left - 1) next.past next.kids held held list size total last.measured last.measured (ends_here group (left - 1) (one_phase rule next) over) omitted
    (ends.size group next.past _ omitted.plan_represents) (ends.total group next.past _ omitted.plan_represents))
