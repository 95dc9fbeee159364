-- A gesture in a tree whose views are given texts.
use Rattle.std.proofs.Common.{◌≡◌, ℕ, ◌<◌, List, true, Ok, Err, Result, refl, sym, ◌∙◌, ap, subst}
use Rattle.std.specs.Prelude.{OnErr, OnOk}
use Rattle.saved_state.proofs.RestatedLaws.{count-restated}
use Rattle.saved_state.proofs.RestatedParts.{number-restated, same_number}
use Rattle.saved_state.specs.Restored.{Restates, restated}
use Rattle.saved_state.specs.Restoring.{given}
use Rattle.saved_state.specs.State.{StateEntry}
use Rattle.touch_dispatch.specs.gesture.Kept.{Kept, gesture_of, is_open}
use Rattle.touch_dispatch.specs.reaching.TreeEvents.{IsGestureIn}
use Rattle.view_model.specs.Forest.{Forest, Nothing, Branch, count_of}
use Rattle.view_tree.specs.Rows.{Row, count_of_key, count_of_number, views_of}
use Rattle.view_tree.specs.Views.{Views}
use Rattle.view_world.proofs.touches.EditedCaught.{Stays, same_stays}
use Rattle.world_parts.proofs.trees.ShapeLaws.{children_alike, shape_of}
use Rattle.world_parts.specs.declared.fault.StepFault.{StepFault}
use Rattle.world_replies.specs.declared.response.Response.{Response}

shape-restated : (entries : List StateEntry) (tree : Forest Row) → shape_of (views_of (restated entries tree)) ≡ shape_of (views_of tree)
shape-restated entries Nothing = refl
shape-restated entries (Branch row kids siblings) = rw (same_number (given entries row.view) row.view, shape-restated entries kids, shape-restated entries siblings) refl

numbers-restated : (entries : List StateEntry) (number : ℕ) (tree : Forest Row) → count_of_number number (restated entries tree) ≡ count_of_number number tree
numbers-restated entries number Nothing = refl
numbers-restated entries number (Branch row kids siblings) =
    rw (same_number (given entries row.view) row.view, numbers-restated entries number kids, numbers-restated entries number siblings) refl

all-restated : (entries : List StateEntry) (tree : Forest Row) → count_of (restated entries tree) ≡ count_of tree
all-restated entries Nothing = refl
all-restated entries (Branch row kids siblings) = rw (all-restated entries kids, all-restated entries siblings) refl

gesture_reported : (entries : List StateEntry) (tree : Forest Row) (kept : Kept) → IsGestureIn tree kept → IsGestureIn (restated entries tree) kept
gesture_reported entries tree kept caught = record {
  opened = λ key live.
      let was : 0 < count_of_key key tree = subst (λ n. 0 < n) (count-restated entries key tree) live in
      subst (λ n. is_open kept n ≡ true) (sym (number-restated entries tree key)) (caught.opened key was);
  children = children_alike (views_of tree) (views_of (restated entries tree)) (gesture_of kept) (shape-restated entries tree) caught.children;
}

reported_stays : (old new : Views) (entries : List StateEntry) (kept : Kept) → Restates entries old new → Stays old new kept
reported_stays old new entries kept reported = record {
  caught = λ caught. subst (λ (tree : Forest Row). IsGestureIn tree kept) (sym reported.tree) (gesture_reported entries old.tree kept caught);
  next = reported.next;
  numbers = λ number. ap (count_of_number number) reported.tree ∙ numbers-restated entries number old.tree;
  count = ap count_of reported.tree ∙ all-restated entries old.tree;
}

-- a state was taken up, or it was not
pub restored_stays : (old new : Views) (entries : List StateEntry) (kept : Kept) (result : Result Response StepFault) → OnOk result (Restates entries old new) → OnErr result (new ≡ old) → Stays old new kept
restored_stays old new entries kept (Ok reported) restates same = reported_stays old new entries kept restates
restored_stays old new entries kept (Err fault) restates same = same_stays old new kept same
