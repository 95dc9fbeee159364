use Rattle.std.proofs.Common.{ap}
use Rattle.std.specs.List.{list_any}
use Rattle.view_model.specs.Forest.{rows}
use Rattle.view_tree.specs.Views.{plain_of}
use Rattle.view_tree.proofs.forest.PreorderLaws.{views_from_root}
use Rattle.saved_state.specs.Restoring.{is_unmet}
use Rattle.saved_state.proofs.marking.has_unmarked.Goals as goal

pub loop-next-init : goal.loop-next-init
loop-next-init c = record {
  live = c.root-next.ensures.live;
  left = ap (list_any (is_unmet c.args.states.now (rows (plain_of c.args.tree.now)))) (views_from_root c.args.tree.now c.root-next.result c.root-next.ensures.key);
}
