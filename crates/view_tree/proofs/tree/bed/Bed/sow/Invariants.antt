use Rattle.std.proofs.Common.{◌≤◌, length}
use Rattle.std.specs.Vec.Iter.{into_iter_items}
use Rattle.indexmap.specs.IndexMap.{spare}
use Rattle.slab.specs.Slab.{HasRoomFor}
use Rattle.slab_link.specs.Numbers.{links_end}
use Rattle.view_tree.specs.tree.Bed.{KeepsReferences, fields_of, represented}
use Rattle.view_tree.specs.node.Nodes.{IsPlanted}
use Rattle.view_tree.proofs.grafts.SownSprouts.{Sowing}
use Rattle.view_tree.proofs.tree.bed.Bed.sow.Given as goal

abbrev pub invariant-loop-sprout : goal.invariant-loop-sprout
invariant-loop-sprout l = record {
  references : KeepsReferences l.fn.self l.self;
  sound : IsPlanted (fields_of l.self);
  room : HasRoomFor l.self.nodes.now (length (into_iter_items l.sprouts));
  small : l.self.nodes.now.capacity ≤ links_end;
  spare : (length (into_iter_items l.sprouts) ≤ spare l.self.keys.now) × (length (into_iter_items l.sprouts) ≤ spare l.self.ids.now);
  sowing : Sowing (represented l.fn.self) l.outermost (into_iter_items l.fn.sprouts) l.path (into_iter_items l.sprouts) (represented l.self);
}

abbrev pub decreases-loop-sprout : goal.decreases-loop-sprout
decreases-loop-sprout l = length (into_iter_items l.sprouts)
