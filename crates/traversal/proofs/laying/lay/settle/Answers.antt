use Rattle.std.proofs.Common.{◌≡◌, true, false, refl, sym, ◌∙◌, ap}
use Rattle.view_tree.specs.declared.node.state.State.{State}
use Rattle.view_tree.specs.Views.{held_of}
use Rattle.traversal.proofs.laid.LaidAt.{settled_calm}
use Rattle.traversal.proofs.frames.RestLaws.{calm_is, calm_of}
use Rattle.traversal.proofs.laying.lay.settle.Goals as goal

pub returns-then-is_calm-clause-held : goal.returns-then-is_calm-clause-held
returns-then-is_calm-clause-held c =
    let calm = calm_of false c.state-state.result.forced c.state-state.result.layout_needed (sym c.is_calm.ensures ∙ c.if-is_calm.true) in
    let state = c.state-state.ensures.value in
    sym (settled_calm (held_of c.args.tree.now c.args.view) (ap (λ (s : State). s.forced) (sym state) ∙ calm.1) (ap (λ (s : State). s.layout_needed) (sym state) ∙ calm.2))

pub returns-clause-still : goal.returns-clause-still
returns-clause-still c = λ unforced unneeded.
    let state = c.state-state.ensures.value in
    let calm = calm_is false c.state-state.result.forced c.state-state.result.layout_needed refl (ap (λ (s : State). s.forced) state ∙ unforced) (ap (λ (s : State). s.layout_needed) state ∙ unneeded) in
    absurd (let no : true ≡ false = sym calm ∙ sym c.is_calm.ensures ∙ c.if-is_calm.false in cc)
