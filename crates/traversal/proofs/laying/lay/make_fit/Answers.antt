use Rattle.std.proofs.Common.{◌≡◌, arith}
use Rattle.measure_pass.proofs.held.Grows.{Grown-refl}
use Rattle.measure_pass.proofs.Shares.{Shared-refl}
use Rattle.view_tree.specs.Rows.{first_tree, part_from}
use Rattle.view_tree.specs.Views.{held_of, specs_of, state_of}
use Rattle.traversal.proofs.laying.lay.make_fit.Goals as goal

pub returns-then-not-state-clause-shares : goal.returns-then-not-state-clause-shares
returns-then-not-state-clause-shares c = record {
  count = 0;
  shared = Shared-refl (λ place other. other ≡ specs_of (state_of c.args.tree.now c.args.view)) (λ place. 0) (held_of c.args.tree.now) (first_tree (part_from c.args.view c.args.tree.now.tree));
  spent = omega arith;
}

pub returns-then-not-state-clause-caches : goal.returns-then-not-state-clause-caches
returns-then-not-state-clause-caches c =
    Grown-refl (λ place other. other ≡ specs_of (state_of c.args.tree.now c.args.view)) (held_of c.args.tree.now) (first_tree (part_from c.args.view c.args.tree.now.tree))
