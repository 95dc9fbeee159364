use Rattle.std.proofs.Common.{◌≡◌, ◌<◌, ℕ}
use Rattle.measure_pass.specs.Siblings.{kids_in}
use Rattle.measure_pass.proofs.relatives.AnchorKeys.{AnchorWalk}
use Rattle.view_model.specs.Facts.{is_shown}
use Rattle.view_model.specs.RelativeCourse.{child_at, links_of}
use Rattle.view_model.specs.SiblingRules.{named_sibling}
use Rattle.measure_pass.specs.Replacing.{instead_of}
use Rattle.view_tree.specs.Rows.{children_of_first, count_of_key, part_from, siblings_from}
use Rattle.measure_pass.proofs.anchors.past_gone.Given as goal

abbrev pub invariant-loop-left : goal.invariant-loop-left
invariant-loop-left l =
    let tree = l.tree.tree in
    let list = children_of_first (part_from l.search.view tree) in
    let kids = kids_in list in
    record {
      live : 0 < count_of_key l.at tree;
      walk : (place : ℕ) → part_from l.gone tree ≡ siblings_from place list
          → AnchorWalk tree list (λ sibling. is_shown (child_at kids sibling).facts) (named_sibling l.search.rtl l.search.axis l.search.tie (links_of kids))
          (instead_of l.search kids place) l.at l.left;
    }

abbrev pub decreases-loop-left : goal.decreases-loop-left
decreases-loop-left l = l.left
