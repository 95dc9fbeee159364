use Rattle.std.proofs.Common.{sym, subst}
use Rattle.std.specs.Prelude.{nat_eq}
use Rattle.indexmap.specs.IndexMap.{get as get_key, spare}
use Rattle.touch_targets.specs.Seats.{is_open, targets_of}
use Rattle.touch_dispatch.specs.Once.{Distinct}
use Rattle.touch_dispatch.proofs.gestures.DistinctLaws.{without_distinct}
use Rattle.touch_dispatch.proofs.gestures.RoomLaws.{room_same}
use Rattle.touch_dispatch.proofs.gesture.Gesture.remove.Goals as goal

pub invariant_of-self : goal.invariant_of-self
invariant_of-self c = record {
  distinct = λ group.
      subst Distinct (sym (c.remove.ensures.targets group)) (without_distinct c.args.child (targets_of c.self.inside.targets group) (c.self.invariant.distinct group));
  room = room_same (is_open c.self.inside.targets) (is_open c.remove.new.self) (get_key nat_eq c.self.inside.marks) (spare c.self.inside.marks) c.self.invariant.room c.remove.ensures.opened;
}
