use Rattle.std.proofs.Common.{◌≡◌, ap, ◌∙◌, FitsSigned, w32, rules}
use Rattle.std.proofs.lemmas.Int.{to_z-of_z}
use Rattle.view_model.specs.Facts.{layout_facts}
use Rattle.view_model.specs.RelativeLayout.{final_span, own_length, rect_between, span_or_none}
use Rattle.view_model.specs.declared.relative.Axis.TheVariants.{Horizontal, Vertical}
use Rattle.relative_layout.proofs.plans.PlanLaws.{final_span-of_extent}
use Rattle.relative_layout.proofs.plan.RelativePlan.settle.Goals as goal

pub returns : goal.returns
returns c = λ own specs first second represents.
    let width : FitsSigned w32 c.args.size.w = search rules in
    let height : FitsSigned w32 c.args.size.h = search rules in
    let kid = layout_facts c.args.kid.now in
    let across : c.final_span.result ≡ final_span Horizontal own specs (own_length Horizontal own specs first) (record { facts = kid; span = span_or_none c.args.edges.across }) c.args.size
    = simp to_z-of_z at (rw (c.child.ensures, represents.of_rtl) at c.final_span.ensures) ∙ final_span-of_extent c.args.self.now.across Horizontal own specs first kid c.args.edges.across c.args.size represents.of_across in
    let down : c.final_span-2.result ≡ final_span Vertical own specs (own_length Vertical own specs second) (record { facts = kid; span = span_or_none c.args.edges.down }) c.args.size
    = simp to_z-of_z at (rw c.child-2.ensures at c.final_span-2.ensures) ∙ final_span-of_extent c.args.self.now.down Vertical own specs second kid c.args.edges.down c.args.size represents.of_down in
    c.rect_between.ensures ∙ ap (λ span. rect_between span c.final_span-2.result) across ∙ ap (rect_between _) down
