-- The views below one, and how it places its children.
use Rattle.std.specs.Prelude.{ℕ}
use Rattle.geom_core.specs.declared.geometry.Size.{Size}
use Rattle.kept_views.specs.Laying.{spot_of}
use Rattle.view_model.specs.Forest.{Forest}
use Rattle.view_model.specs.Layout.{Spot}
use Rattle.view_tree.specs.Rows.{Row, children_of_first, first_tree, part_from}
use Rattle.view_tree.specs.Views.{Views, held_of}

-- a view with all below it
abbrev pub subtree_at : Views → ℕ → Forest Row
subtree_at views view = first_tree (part_from view views.tree)

-- the children of a view, each with all below it
abbrev pub children_at : Views → ℕ → Forest Row
children_at views view = children_of_first (part_from view views.tree)

-- the group that a view of this size is
abbrev pub spot_at : Views → ℕ → Size → Spot
spot_at views view room = spot_of (part_from view views.tree) (held_of views view) room
