use Rattle.std.proofs.Common.{refl}
use Rattle.view_tree.proofs.forest.PreorderLaws.{views_from_root}
use Rattle.saved_state.proofs.marking.mark_all.Goals as goal

pub loop-next-init : goal.loop-next-init
loop-next-init c = record {
  live = c.root-next.ensures.live;
  sized = c.requires.sized;
  left = λ place there. rw (c.requires.none place, views_from_root c.args.tree.now c.root-next.result c.root-next.ensures.key) refl;
}
