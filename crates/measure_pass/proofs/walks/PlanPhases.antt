-- The phases of a group's measuring that are left: the next one is the last, or others follow it.
use Rattle.std.proofs.Common.{◌≡◌, ◌-◌, ◌∙◌, ℕ, ℤ, Bool, true, false, subst, sym}
use Rattle.geom_core.specs.declared.geometry.Size.{Size}
use Rattle.measure_pass.specs.Measured.{kids_from}
use Rattle.measure_pass.specs.Phases.{MeasuresAll, MeasuresPhase}
use Rattle.measure_pass.specs.Plans.{Ends, GroupPlan, Turns, rule_in}
use Rattle.measure_pass.proofs.walks.Whole.{ends_at_0, ends_here, phases_end, phases_more, ready_now, ready_then}
use Rattle.view_model.specs.declared.work.Work.{Work}
use Rattle.view_model.specs.Course.{MeasuringProgress, one_phase}
use Rattle.view_model.specs.Forest.{Forest}
use Rattle.view_tree.specs.Rows.{Row}
use Rattle.view_tree.specs.Views.{Views, held_of}

pub all_at_0 : (old new : GroupPlan) (before after : Views) (list : Forest Row) (left : ℕ) (size : Size) (total : ℤ) (start last : Work) → left ≡ 0
    → MeasuresPhase old new list (record { views = before; work = start }) (record { views = after; work = last }) → Ends new size total → MeasuresAll left old list (record { size = size; total = total }) (record { views = before; work = start }) (record { views = after; work = last })
all_at_0 old new before after list left size total start last none phase ends = λ group past kids represents course ready.
    let progress : MeasuringProgress = record { past = past; kids = kids } in
    let done = phase group past kids represents course (ready_now (rule_in group) left progress ready) in
    phases_end new group left past kids (held_of before) (held_of after) list size total start.measured last.measured
    (ends_at_0 group left (one_phase (rule_in group) progress) none) done (ends.size group past _ done.plan_represents) (ends.total group past _ done.plan_represents)

pub all_here : (old mid new : GroupPlan) (before after : Views) (list : Forest Row) (left : ℕ) (size : Size) (total : ℤ) (answer : Bool) (start last : Work) → answer ≡ false
    → MeasuresPhase old mid list (record { views = before; work = start }) (record { views = after; work = last }) → Turns mid new answer → Ends new size total → MeasuresAll left old list (record { size = size; total = total }) (record { views = before; work = start }) (record { views = after; work = last })
all_here old mid new before after list left size total answer start last over phase turns ends = λ group past kids represents course ready.
    let progress : MeasuringProgress = record { past = past; kids = kids } in
    let done = phase group past kids represents course (ready_now (rule_in group) left progress ready) in
    let turned = turns group past _ done.plan_represents in
    phases_end mid group left past kids (held_of before) (held_of after) list size total start.measured last.measured
    (ends_here group left (one_phase (rule_in group) progress) (sym turned.answers ∙ over)) done
    (ends.size group past _ (turned.ends over)) (ends.total group past _ (turned.ends over))

pub all_more : (old mid new : GroupPlan) (view : ℕ) (before between after : Views) (left : ℕ) (size : Size) (total : ℤ) (answer : Bool) (start count last : Work) → (left ≡ 0 → ⊥)
    → answer ≡ true → between.tree ≡ before.tree → MeasuresPhase old mid (kids_from view before.tree) (record { views = before; work = start }) (record { views = between; work = count }) → Turns mid new answer
    → MeasuresAll (left - 1) new (kids_from view between.tree) (record { size = size; total = total }) (record { views = between; work = count }) (record { views = after; work = last })
    → MeasuresAll left old (kids_from view before.tree) (record { size = size; total = total }) (record { views = before; work = start }) (record { views = after; work = last })
all_more old mid new view before between after left size total answer start count last some again same phase turns others = λ group past kids represents course ready.
    let rule = rule_in group in
    let list = kids_from view before.tree in
    let progress : MeasuringProgress = record { past = past; kids = kids } in
    let done = phase group past kids represents course (ready_now rule left progress ready) in
    let turned = turns group past _ done.plan_represents in
    let go = sym turned.answers ∙ again in
    let next = one_phase rule progress in
    let more : MeasuresAll (left - 1) new list (record { size = size; total = total }) (record { views = between; work = count }) (record { views = after; work = last }) =
    subst (λ (tree : Forest Row). MeasuresAll (left - 1) new (kids_from view tree) (record { size = size; total = total }) (record { views = between; work = count }) (record { views = after; work = last })) same others in
    phases_more mid group left past kids (held_of before) (held_of between) (held_of after) list size total start.measured count.measured last.measured some go done
    (more group next.past next.kids (turned.follows again) done.course (ready_then rule left progress some go ready))
