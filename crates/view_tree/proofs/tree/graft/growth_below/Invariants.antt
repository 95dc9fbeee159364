use Rattle.std.proofs.Common.{◌≤◌, drop, length}
use Rattle.view_tree.proofs.grafts.CheckedSprouts.{IsLeftToCheck}
use Rattle.view_tree.proofs.grafts.Refusing.{refusal_along}
use Rattle.view_tree.proofs.tree.graft.growth_below.Given as goal

abbrev pub invariant-loop-sprout : goal.invariant-loop-sprout
invariant-loop-sprout l = record {
  index : l.sprout-index ≤ length l.sprouts;
  left : IsLeftToCheck l.depth (refusal_along l.depth 1 (λ _. l.fn.class) l.fn.count 2 l.sprouts) l.before l.path l.count l.element (drop l.sprout-index l.sprouts);
}
