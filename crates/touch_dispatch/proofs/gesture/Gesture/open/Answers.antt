use Rattle.std.proofs.Common.{◌≡◌, ℕ, ◌+◌, ◌≤◌, arith, ap, length, subst, sym}
use Rattle.std.specs.Map.{lookup}
use Rattle.std.specs.Prelude.{nat_eq}
use Rattle.indexmap.specs.IndexMap.{get as get_key, spare}
use Rattle.touch_dispatch.proofs.gestures.RoomLaws.{room_after}
use Rattle.touch_dispatch.specs.Once.{Distinct}
use Rattle.touch_dispatch.proofs.gesture.Gesture.open.Goals as goal

pub invariant_of-self-2 : goal.invariant_of-self-2
invariant_of-self-2 c =
    let old = c.self.inside in
    let reserved = c.reserve.new.self in
    let enough : length old.targets + 1 ≤ spare reserved = omega (arith, c.in-Some.ensures, c.in_ok-reserve.ensures.ok) in
    let same : (other : ℕ) → get_key nat_eq reserved other ≡ get_key nat_eq old.marks other = λ other. ap (lookup (nat_eq other)) c.reserve.ensures.entries in
    record {
      distinct = λ group. subst Distinct (sym (c.open.ensures.targets group)) (c.self.invariant.distinct group);
      room = room_after c.open.result old.targets c.open.new.self (get_key nat_eq old.marks) (get_key nat_eq reserved) (spare old.marks) (spare reserved) c.args.view
          c.self.invariant.room c.open.ensures.opened c.open.ensures.unchanged same enough c.reserve.ensures.room.0;
    }
