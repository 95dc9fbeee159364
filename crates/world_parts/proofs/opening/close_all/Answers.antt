use Rattle.std.proofs.Common.{◌≡◌, ◌∙◌, ◌+◌, ◌-◌, ◌<◌, ◌≤◌, ℕ, suc, arith, ap}
use Rattle.touch_dispatch.specs.gesture.Kept.{IsUnknown, with_place}
use Rattle.touch_targets.specs.Captures.{is_target}
use Rattle.world_parts.proofs.edits.OpeningLaws.{targets_places, unknown_above}
use Rattle.world_parts.specs.Places.{with_places}
use Rattle.world_parts.proofs.opening.close_all.Goals as goal

pub loop-left-preserved : goal.loop-left-preserved
loop-left-preserved c =
    let first = c.args.first in
    let left : ℕ = c.loop-left.left - 1 in
    let one : c.loop-left.left ≡ suc left = omega arith in
    record {
      within = omega arith;
      places = λ before is free unknown.
          let old : c.loop-left.gesture ≡ with_place (first + left) (with_places first left before) =
          c.loop-left.invariant.places before is free unknown ∙ ap (λ n. with_places first n before) one in
          let few : first + left < first + c.args.count = omega arith in
          let from : first ≤ first + left = omega arith in
          let same : first + left ≤ first + left = omega arith in
          let none : IsUnknown (with_places first left before) (first + left) = unknown_above first left before (first + left) same (unknown (first + left) from few) in
          c.close.ensures.last (with_places first left before) old none
          (λ group. ap (is_target (first + left)) (targets_places first left before group) ∙ free.free (first + left) from group);
    }
