use Rattle.std.proofs.Common.{sym, subst, inl, inr}
use Rattle.std.proofs.lemmas.Bool.{cases_Bool}
use Rattle.std.specs.Prelude.{◌==◌, nat_eq}
use Rattle.indexmap.specs.IndexMap.{get as get_key, spare}
use Rattle.touch_event.specs.PointerSets.{has_id}
use Rattle.touch_targets.specs.Seats.{is_open, targets_of}
use Rattle.touch_dispatch.specs.Once.{Distinct}
use Rattle.touch_dispatch.proofs.gestures.DistinctLaws.{put_distinct}
use Rattle.touch_dispatch.proofs.gestures.RoomLaws.{room_same}
use Rattle.touch_dispatch.proofs.gesture.Gesture.put.Goals as goal

pub invariant_of-self : goal.invariant_of-self
invariant_of-self c = record {
  distinct = λ group.
      subst Distinct (sym (c.put.ensures.targets group)) (elim (cases_Bool (group == c.args.group)) [
        | inl e ↦ rw e (put_distinct c.args.child (has_id c.args.ids) (targets_of c.self.inside.targets group) (c.self.invariant.distinct group))
        | inr e ↦ rw e (c.self.invariant.distinct group)
      ]);
  room = room_same (is_open c.self.inside.targets) (is_open c.put.new.self) (get_key nat_eq c.self.inside.marks) (spare c.self.inside.marks) c.self.invariant.room c.put.ensures.opened;
}
