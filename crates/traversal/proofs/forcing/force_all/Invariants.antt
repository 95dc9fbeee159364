use Rattle.std.proofs.Common.{◌≡◌, [], drop}
use Rattle.kept_views.specs.Pressing.{all_pressed}
use Rattle.view_tree.specs.Views.{SameTree, held_of}
use Rattle.traversal.proofs.forcing.force_all.Given as goal

abbrev pub invariant-loop-view : goal.invariant-loop-view
invariant-loop-view l = record {
  same : SameTree l.fn.tree l.tree;
  counts : l.tree.counts ≡ l.fn.tree.counts;
  still : l.views ≡ [] → l.tree ≡ l.fn.tree;
  left : all_pressed (held_of l.tree) (drop l.view-index l.views) l.fn.tree.tree ≡ all_pressed (held_of l.fn.tree) l.views l.fn.tree.tree;
}
