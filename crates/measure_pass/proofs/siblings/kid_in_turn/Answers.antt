use Rattle.std.proofs.Common.{arith}
use Rattle.measure_pass.proofs.relatives.SiblingTurns.{each_length}
use Rattle.view_model.specs.PlainTree.{PlainView}
use Rattle.view_tree.specs.Rows.{children_of_first, part_from, views_of}
use Rattle.measure_pass.proofs.siblings.kid_in_turn.Goals as goal

pub child_at-requires-clause-there : goal.child_at-requires-clause-there
child_at-requires-clause-there c =
    let size = each_length (λ (view : PlainView). view.number) (views_of (children_of_first (part_from c.args.view c.args.tree.now.tree))) in
    omega (arith, c.place_in_turn.ensures.there)
