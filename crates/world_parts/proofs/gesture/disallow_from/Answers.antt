use Rattle.std.proofs.Common.{ℕ, List, ◌∷◌, refl, sym, ◌∙◌, ap, length, arith}
use Rattle.touch_dispatch.specs.gesture.Kept.{gesture_of}
use Rattle.view_tree.specs.Views.{number_of}
use Rattle.world_parts.specs.Touching.{all_disallowed}
use Rattle.world_parts.proofs.trees.AncestorLaws.{ancestors_named}
use Rattle.world_parts.proofs.touches.ClimbLaws.{disallowed_on, path_above}
use Rattle.world_parts.proofs.gesture.disallow_from.Goals as goal

pub loop-next-init : goal.loop-next-init
loop-next-init c = record { live = c.requires.live; rest = refl; opened = λ other. refl }

pub disallow-requires : goal.disallow-requires
disallow-requires c =
    let live = rw c.in-Some.is at c.loop-next.invariant.live in
    rw c.number.ensures.value (c.loop-next.invariant.opened _ ∙ c.requires.caught.opened c.in-Some.view live)

pub loop-next-smaller : goal.loop-next-smaller
loop-next-smaller c =
    let above = ap length (path_above c.in-Some.view c.parent-next.result c.args.tree.now.tree c.parent-next.ensures.path) in
    rw c.in-Some.is (omega (arith, above))

pub loop-next-preserved : goal.loop-next-preserved
loop-next-preserved c = record {
  live = c.parent-next.ensures.live;
  rest =
      disallowed_on c.args.on (number_of c.args.tree.now) c.args.tree.now.tree c.in-Some.view c.parent-next.result (gesture_of c.loop-next.gesture) (gesture_of c.disallow.new.self)
      c.parent-next.ensures.path (rw c.number.ensures.value at c.disallow.ensures.gesture)
      ∙ (rw c.in-Some.is at c.loop-next.invariant.rest);
  opened = λ other. c.disallow.ensures.opened other ∙ c.loop-next.invariant.opened other;
}

pub returns-clause-gesture : goal.returns-clause-gesture
returns-clause-gesture c =
    (rw c.in_default.is at c.loop-next.invariant.rest)
    ∙ ap (λ (numbers : List ℕ). all_disallowed c.args.on (number_of c.args.tree.now c.args.view ∷ numbers) (gesture_of c.args.gesture.now))
    (sym (ancestors_named c.args.tree.now c.args.view c.requires.is_tree c.requires.live))
