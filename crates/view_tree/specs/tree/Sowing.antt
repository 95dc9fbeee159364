-- The views of a sapling that are added below its outermost one.
use Rattle.std.specs.Prelude.{◌≡◌, ℕ, suc, false, List, length, Some, None}
use Rattle.view_model.specs.declared.sprout.Sprout.{Sprout}
use Rattle.view_model.specs.Forest.{Forest, count_of}
use Rattle.view_model.specs.Grafts.{refusal_below}
use Rattle.view_model.specs.Sprouts.{Seed, preorder}
use Rattle.view_tree.specs.tree.Grafted.{Gained}
use Rattle.view_tree.specs.Rows.{Row, ancestors, has_kids}
use Rattle.view_tree.specs.Views.{Views, class_of}

-- these are the views of trees in preorder, and the trees may be added below a view that has no child yet
pub record FitsBelow (views : Views) (key : ℕ) (sprouts : List Sprout) : Type 0 where
  pub kids : Forest Seed
  pub preorder : preorder 2 kids ≡ sprouts
  pub childless : has_kids key views.tree ≡ false
  pub taken : refusal_below (class_of views key) false (suc (length (ancestors key views.tree))) (count_of views.tree) 2
      kids
      ≡ None

-- views were added below one
pub record GainedBelow (old : Views) (key : ℕ) (new : Views) : Type 0 where
  pub added : Forest Row
  pub gained : Gained old (Some key) added new
