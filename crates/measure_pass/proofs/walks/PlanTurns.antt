-- The turn of a child in a phase of its group: it is gone, its plan asks nothing, or it is measured.
use Rattle.std.proofs.Common.{◌≡◌, ◌∙◌, ℕ, Option, None, Some, true, false, arith, subst, sym}
use Rattle.geom_core.specs.declared.geometry.Size.{Size}
use Rattle.geom_core.specs.declared.measuring.Spec.{Spec}
use Rattle.kept_views.specs.Kept.{Sized}
use Rattle.measure_pass.specs.Measured.{Costs, IsMeasured, calls_under, size_under, tree_from}
use Rattle.measure_pass.specs.Phases.{MeasuresNext}
use Rattle.measure_pass.specs.Plans.{Asks, GroupPlan, Takes}
use Rattle.measure_pass.specs.Sharing.{MeasuringTrace}
use Rattle.measure_pass.proofs.walks.MeasureKid.{gone_kid, measured_kid, skipped_kid}
use Rattle.measure_pass.proofs.held.Parts.{facts_in}
use Rattle.view_model.specs.declared.facts.Facts.{Facts}
use Rattle.view_model.specs.declared.work.Work.{Work}
use Rattle.view_model.specs.Facts.{is_shown}
use Rattle.view_model.specs.Forest.{Forest}
use Rattle.view_model.specs.Measuring.{Specs, pair_of}
use Rattle.view_tree.specs.Rows.{Row, part_from}
use Rattle.view_tree.specs.Views.{IsLive, SameTree, Views, held_of, state_of}
use Rattle.view_tree.proofs.forest.Walks.{count_one}

pub next_gone : (plan : GroupPlan) (views : Views) (kid : ℕ) (work : Work) → IsLive views kid → is_shown (facts_in (part_from kid views.tree)) ≡ false
    → MeasuresNext plan plan (tree_from kid views.tree) (record { views = views; work = work }) (record { views = views; work = work })
next_gone plan views kid work live gone = λ group past taken kids represents few course can.
    gone_kid plan group past taken views.tree kid kids (held_of views) work.measured live gone represents course

pub next_left : (plan new : GroupPlan) (views : Views) (kid : ℕ) (facts : Facts) (present : Size) (answer : Option (Spec × Spec)) (work : Work) → IsLive views kid
    → is_shown (facts_in (part_from kid views.tree)) ≡ true → facts ≡ facts_in (part_from kid views.tree) → present ≡ (state_of views kid).measured → answer ≡ None
    → Asks plan facts present answer → Takes plan new facts present
    → MeasuresNext plan new (tree_from kid views.tree) (record { views = views; work = work }) (record { views = views; work = work })
next_left plan new views kid facts present answer work live shown own here none asks takes = λ group past taken kids represents few course can.
    let one = count_one views.tree kid live in
    skipped_kid new group past taken views.tree kid kids (held_of views) present work.measured live shown here
    (rw own at (sym none ∙ asks group past taken represents)) (rw own at (takes group past taken represents (omega arith))) course can

pub next_measured : (plan new : GroupPlan) (before after : Views) (kid : ℕ) (facts still : Facts) (present size : Size) (specs : Specs) (answer : Option (Spec × Spec)) (start last : Work)
    → IsLive before kid → is_shown (facts_in (part_from kid before.tree)) ≡ true → facts ≡ facts_in (part_from kid before.tree) → still ≡ facts_in (part_from kid after.tree)
    → present ≡ (state_of before kid).measured → answer ≡ Some (pair_of specs) → Asks plan facts present answer → Takes plan new still size
    → SameTree before after → size ≡ size_under (part_from kid before.tree) specs → IsMeasured after kid specs
    → Costs (tree_from kid before.tree) (held_of before) (held_of after) start.measured (calls_under (part_from kid before.tree) specs) last.measured
    → MeasuringTrace (λ place other. other ≡ specs) (λ place. 1) (held_of before) (held_of after) (tree_from kid before.tree) start.measured last.measured
    → MeasuresNext plan new (tree_from kid before.tree) (record { views = before; work = start }) (record { views = after; work = last })
next_measured plan new before after kid facts still present size specs answer start last live shown own own_then here asked asks takes same got measured costs trace = λ group past taken kids represents few course can.
    let one = count_one before.tree kid live in
    let sized : Sized (held_of after) (tree_from kid before.tree) = subst (λ (tree : Forest Row). Sized (held_of after) (tree_from kid tree)) same.tree measured.sized in
    measured_kid new group past taken before.tree kid kids (held_of before) (held_of after) present size specs start.measured last.measured live shown here
    (rw own at (sym asked ∙ asks group past taken represents)) got sized measured.last
    (rw (own_then, same.tree) at (takes group past taken represents (omega arith))) costs trace course can
