-- The neighbours of a view.
use Rattle.std.specs.Prelude.{◌≡◌, ℕ, [], ◌∷◌, IfSome, MatchOption, None}
use Rattle.view_tree.specs.declared.node.links.Links.{Links}
use Rattle.view_tree.specs.Rows.{ancestors, children_of_first, first_key, last_key, later_siblings, part_from}
use Rattle.view_tree.specs.Rows.{previous_key, rest_from}
use Rattle.view_tree.specs.Views.{IsLive, Views}

-- these are the neighbours of the view of a key
pub record AreLinks (views : Views) (key : ℕ) (links : Links) : Type 0 where
  -- its parent, the nearest of the views around it
  pub path : MatchOption links.parent (ancestors key views.tree ≡ [])
      (λ parent. ancestors key views.tree ≡ parent ∷ ancestors parent views.tree)
  -- its first child, and all its children as the views from that one on
  pub first : links.first ≡ first_key (children_of_first (part_from key views.tree))
  pub below : rest_from links.first views.tree ≡ children_of_first (part_from key views.tree)
  -- its last child
  pub last : links.last ≡ last_key (children_of_first (part_from key views.tree))
  -- the siblings right before and right after it, and its later siblings as the views from that one on
  pub previous : links.previous ≡ previous_key None key views.tree
  pub next : links.next ≡ first_key (later_siblings (part_from key views.tree))
  pub after : rest_from links.next views.tree ≡ later_siblings (part_from key views.tree)
  -- each of them is there
  pub parent_live : IfSome links.parent (λ parent. IsLive views parent)
  pub first_live : IfSome links.first (λ kid. IsLive views kid)
  pub last_live : IfSome links.last (λ kid. IsLive views kid)
  pub previous_live : IfSome links.previous (λ sibling. IsLive views sibling)
  pub next_live : IfSome links.next (λ sibling. IsLive views sibling)
