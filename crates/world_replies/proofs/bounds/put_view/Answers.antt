use Rattle.std.proofs.Common.{ap, sym, ◌∙◌}
use Rattle.std.specs.Prelude.{ℤ, Option}
use Rattle.view_tree.specs.Views.{class_of, number_of, offset_of}
use Rattle.view_tree.specs.declared.node.state.State.{State}
use Rattle.view_tree.proofs.values.GeometryLaws.{rect_live}
use Rattle.world_replies.specs.Replies.{bounds_line}
use Rattle.world_replies.specs.Bounds.{printed_offset}
use Rattle.text_lines.proofs.Sending.{sends_as}
use Rattle.world_replies.proofs.bounds.put_view.Goals as goal

pub returns : goal.returns
returns g c =
    let views = c.args.tree.now in
    let lies = ap (λ (state : State). state.bounds) c.state-bounds.ensures.value ∙ sym (rect_live views c.args.view c.state-bounds.ensures.is_tree c.requires) in
    let number = number_of views c.args.view in
    let offset = printed_offset (class_of views c.args.view) (offset_of views c.args.view) in
    sends_as (ap (λ n. bounds_line n c.printed_offset-offset.result c.state-bounds.result.bounds) c.number.ensures.value
    ∙ ap (λ (offset : Option ℤ). bounds_line number offset c.state-bounds.result.bounds) c.printed_offset-offset.ensures
    ∙ ap (bounds_line number offset) lies) c.put_bounds.ensures
