use Rattle.std.proofs.Common.{◌≡◌, map, take}
use Rattle.std.specs.Prelude.{slice_index}
use Rattle.view_model.specs.Cycles.{member_from}
use Rattle.sibling_orders.proofs.kids.members_at.Given as goal

abbrev pub invariant-loop-place : goal.invariant-loop-place
invariant-loop-place l = l.members.items ≡ map (λ place. member_from l.next (slice_index l.numbers place)) (take l.place-index l.places)
