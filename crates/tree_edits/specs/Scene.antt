-- What edits change: the tree, the number of the view that is made next, and the bounds of views.
use Rattle.std.specs.Prelude.{ℕ, List}
use Rattle.view_model.specs.Forest.{Forest}
use Rattle.view_model.specs.Geometry.{Laid}
use Rattle.view_model.specs.PlainTree.{PlainView}
use Rattle.view_tree.specs.Views.{Views, geometry_of, plain_of}

pub record EditScene : Type 0 where
  pub tree : Forest PlainView
  pub next : ℕ
  pub geometry : List Laid

-- the scene of a tree of the code
abbrev pub scene_of : Views → EditScene
scene_of views = record { tree = plain_of views; next = views.next; geometry = geometry_of views }
