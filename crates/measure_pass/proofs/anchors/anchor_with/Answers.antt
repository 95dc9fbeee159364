use Rattle.std.proofs.Common.{ap, sym, ◌∙◌}
use Rattle.std.specs.Prelude.{ℤ}
use Rattle.measure_pass.proofs.relatives.AnchorKeys.{margins_of, margins_same, span_at_key}
use Rattle.view_model.specs.declared.relative.Anchor.{Anchor}
use Rattle.view_tree.specs.Views.{facts_of, held_of}
use Rattle.measure_pass.proofs.anchors.anchor_with.Goals as goal

pub returns : goal.returns
returns c =
    let made : ℤ × ℤ → ℤ × ℤ → Anchor = λ span margins. record { near = span.0; far = span.1; margin_near = margins.0; margin_far = margins.1 } in
    c.anchor_between.ensures
    ∙ ap (λ span. made span c.margins-margins.result) (c.kept_span.ensures ∙ sym (span_at_key c.args.axis c.args.tree.now.tree c.args.kid (held_of c.args.tree.now) c.requires))
    ∙ ap (made _) (c.margins-margins.ensures ∙ ap (margins_of c.args.axis) c.facts.ensures.value
    ∙ sym (margins_same c.args.axis (facts_of c.args.tree.now c.args.kid)))
