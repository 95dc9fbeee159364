use Rattle.std.proofs.Common.{◌≡◌, ◌≤◌, ◌<◌, ℕ, [], ◌∷◌, List, length}
use Rattle.kept_views.specs.Kept.{Ready}
use Rattle.measure_pass.specs.Measured.{Keeps, KeepsAllButEdges}
use Rattle.measure_pass.specs.Siblings.{IsSettled, TurnIsOver, kids_in, phase_of}
use Rattle.relative_layout.specs.plan.RelativePlan.{RepresentsRelative}
use Rattle.view_model.specs.declared.facts.Facts.{Facts}
use Rattle.view_model.specs.declared.relative.Axis.TheVariants.{Vertical}
use Rattle.view_model.specs.Measuring.{Specs}
use Rattle.view_model.specs.RelativeCourse.{arranged}
use Rattle.view_model.specs.RelativeLayout.{Spanned, relative_size}
use Rattle.view_tree.specs.Rows.{children_of_first, first_tree, part_from, siblings_from}
use Rattle.view_tree.specs.Views.{KeepsInside, KeepsOutside, SameTree, held_of}
use Rattle.measure_pass.proofs.siblings.settle.Given as goal

abbrev pub invariant-loop-place : goal.invariant-loop-place
invariant-loop-place l =
    let tree = l.fn.tree.tree in
    let list = children_of_first (part_from l.view tree) in
    let start = held_of l.fn.tree in
    let now = held_of l.tree in
    record {
      same : SameTree l.fn.tree l.tree;
      settled : (own : Facts) (specs : Specs) (first second : List Spanned) → RepresentsRelative l.plan own specs (first ∷ []) second
          → relative_size own specs first second ≡ (arranged own specs (kids_in list)).size
          → ((place : ℕ) → place < length (kids_in list) → TurnIsOver (phase_of Vertical own specs (kids_in list)) start list place)
          → (place : ℕ) → place < l.place → IsSettled own specs now list place;
      still : (place : ℕ) → l.place ≤ place → KeepsInside start now (first_tree (siblings_from place list));
      keeps : Keeps start now;
      others : KeepsOutside start now list;
      edged : KeepsAllButEdges start now;
      ready : Ready start list → Ready now list;
      counts : l.tree.counts ≡ l.fn.tree.counts;
    }
