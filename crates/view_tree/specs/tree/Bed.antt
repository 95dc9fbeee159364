-- What contracts say of the fields of a tree to which views are added.
use Rattle.std.specs.Prelude.{◌≡◌}
use Rattle.view_tree.specs.node.Nodes.{fields, views_in}
use Rattle.view_tree.specs.Views.{Views}
use Rattle.view_tree.specs.declared.tree.ViewTree.TheInside.{Inside}
use Rattle.view_tree.specs.declared.tree.bed.Bed.{Bed}

abbrev pub fields_of : Bed → Inside
fields_of bed = fields bed.nodes.now bed.keys.now bed.ids.now bed.root.now bed.next.now

-- the views that they represent
abbrev pub represented : Bed → Views
represented bed = views_in bed.nodes.now bed.root.now bed.next.now

-- they are the fields of the same tree
pub record KeepsReferences (old : Bed) (new : Bed) : Type 0 where
  pub nodes : new.nodes.ghost_name ≡ old.nodes.ghost_name
  pub keys : new.keys.ghost_name ≡ old.keys.ghost_name
  pub ids : new.ids.ghost_name ≡ old.ids.ghost_name
  pub root : new.root.ghost_name ≡ old.root.ghost_name
  pub next : new.next.ghost_name ≡ old.next.ghost_name
