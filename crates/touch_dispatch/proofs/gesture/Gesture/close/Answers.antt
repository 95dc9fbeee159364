use Rattle.std.proofs.Common.{◌≡◌, ◌∙◌, ℕ, List, ap, sym, subst, inl, inr}
use Rattle.std.proofs.lemmas.Bool.{cases_Bool}
use Rattle.std.specs.Prelude.{◌==◌, nat_eq}
use Rattle.std.specs.Map.{lookup}
use Rattle.indexmap.specs.IndexMap.{get as get_key, spare}
use Rattle.touch_targets.specs.Seats.{Seat, is_open, targets_of}
use Rattle.touch_dispatch.specs.gesture.Gestures.{closed}
use Rattle.touch_dispatch.specs.gesture.Kept.{Kept, gesture_of, kept_in}
use Rattle.touch_dispatch.specs.declared.gesture.marks.Marks.{Marks}
use Rattle.touch_dispatch.specs.Once.{Distinct}
use Rattle.touch_dispatch.proofs.gestures.DistinctLaws.{without_distinct}
use Rattle.touch_dispatch.proofs.gestures.PlaceLaws.{closed_gesture}
use Rattle.touch_dispatch.proofs.gestures.RoomLaws.{room_closed}
use Rattle.touch_dispatch.proofs.gesture.Gesture.close.Goals as goal

pub invariant_of-self : goal.invariant_of-self
invariant_of-self c = record {
  distinct = λ group.
      subst Distinct (sym (c.close.ensures.targets group)) (elim (cases_Bool (group == c.args.view)) [
        | inl e ↦ rw e tt
        | inr e ↦ rw e (without_distinct c.args.view (targets_of c.self.inside.targets group) (c.self.invariant.distinct group))
      ]);
  room = room_closed (is_open c.self.inside.targets) (is_open c.close.new.self) (get_key nat_eq c.self.inside.marks) (get_key nat_eq c.forget_marks.new.marks)
      (spare c.self.inside.marks) (spare c.forget_marks.new.marks) c.args.view c.self.invariant.room c.close.ensures.opened c.forget_marks.ensures.forgot c.forget_marks.ensures.room;
}

pub returns-clause-last : goal.returns-clause-last
returns-clause-last c before is unknown free =
    let seats : c.close.new.self ≡ before.seats = c.close.ensures.last before.seats (ap (λ (k : Kept). k.seats) (c.self.view_is ∙ is)) unknown.seat free in
    let marks : c.self.inside.marks.entries ≡ before.marks = ap (λ (k : Kept). k.marks) (c.self.view_is ∙ is) in
    let left : c.forget_marks.new.marks.entries ≡ before.marks =
    c.forget_marks.ensures.unchanged (ap (lookup (nat_eq c.args.view)) marks ∙ unknown.marks) ∙ marks in
    ap (λ (s : List Seat). let k : Kept = record { seats = s; marks = c.forget_marks.new.marks.entries } in k) seats
    ∙ ap (λ (m : List (ℕ × Marks)). let k : Kept = record { seats = before.seats; marks = m } in k) left

pub returns-clause-gesture : goal.returns-clause-gesture
returns-clause-gesture c =
    let old : Kept = kept_in c.self.inside in
    let new : Kept = record { seats = c.close.new.self; marks = c.forget_marks.new.marks.entries } in
    closed_gesture old new c.args.view c.close.ensures.targets c.forget_marks.ensures.forgot ∙ ap (λ k. closed c.args.view (gesture_of k)) c.self.view_is
