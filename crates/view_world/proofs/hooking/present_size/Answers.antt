use Rattle.std.proofs.Common.{◌≡◌, ℕ, Some, ap, sym, ◌∙◌}
use Rattle.traversal.proofs.laid.FitLaws.{near_size_is}
use Rattle.view_model.specs.Geometry.{rect_in}
use Rattle.view_tree.specs.Views.{IsLive, IsTree, Views, geometry_of, number_of, state_of}
use Rattle.view_tree.specs.declared.node.state.State.{State}
use Rattle.view_tree.proofs.values.GeometryLaws.{rect_live}
use Rattle.view_world.proofs.edits.HookLaws.{rect_fits, size_or}
use Rattle.view_world.proofs.hooking.present_size.Goals as goal

lies : (tree : Views) (view : ℕ) (state : State) → IsTree tree → IsLive tree view → state ≡ state_of tree view → rect_in (geometry_of tree) (number_of tree view) ≡ state.bounds
lies tree view state is live value = rect_live tree view is live ∙ sym (ap (λ (state : State). state.bounds) value)

pub returns-in-Some : goal.returns-in-Some
returns-in-Some c =
    let geometry = geometry_of c.args.tree.now in
    let number = number_of c.args.tree.now c.args.view in
    let found : rect_in geometry number ≡ Some c.in-Some.rect = lies c.args.tree.now c.args.view c.state.result c.state.ensures.is_tree c.requires.live c.state.ensures.value ∙ c.in-Some.is in
    c.near_size.ensures ∙ near_size_is c.in-Some.rect (rect_fits geometry number c.in-Some.rect c.requires.narrow found) ∙ sym (ap size_or found)

pub returns-in-None : goal.returns-in-None
returns-in-None c = sym (ap size_or (lies c.args.tree.now c.args.view c.state.result c.state.ensures.is_tree c.requires.live c.state.ensures.value ∙ c.in-None.is))
