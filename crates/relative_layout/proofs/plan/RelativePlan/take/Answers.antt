use Rattle.std.proofs.Common.{FitsSigned, w32, rules}
use Rattle.std.proofs.lemmas.Int.{to_z-of_z}
use Rattle.view_model.specs.Facts.{layout_facts}
use Rattle.relative_layout.proofs.plans.PlanLaws.{take-across, take-down}
use Rattle.relative_layout.proofs.plan.RelativePlan.take.Goals as goal

pub returns-in-Horizontal-clause-taken : goal.returns-in-Horizontal-clause-taken
returns-in-Horizontal-clause-taken c = λ own specs past taken.
    let width : FitsSigned w32 c.args.size.w = search rules in
    take-across c.args.self.now c.take-span.new.self own specs past taken (layout_facts c.args.kid.now) c.args.anchors.now c.args.size c.child.result c.take-span.result c.in-Horizontal.is
    (record { of_kid = c.child.ensures; of_span = simp to_z-of_z at c.take-span.ensures.span; group = c.take-span.ensures.group; most = c.take-span.ensures.most })

pub returns-in-Vertical-clause-taken : goal.returns-in-Vertical-clause-taken
returns-in-Vertical-clause-taken c = λ own specs past taken.
    let height : FitsSigned w32 c.args.size.h = search rules in
    take-down c.args.self.now c.take-span-in-Vertical.new.self own specs past taken (layout_facts c.args.kid.now) c.args.anchors.now c.args.size
    c.child-in-Vertical.result c.take-span-in-Vertical.result c.in-Vertical.is
    (record {
      of_kid = c.child-in-Vertical.ensures;
      of_span = simp to_z-of_z at c.take-span-in-Vertical.ensures.span;
      group = c.take-span-in-Vertical.ensures.group;
      most = c.take-span-in-Vertical.ensures.most;
    })
