-- A tree of one root.
use Rattle.std.proofs.Common.{◌≡◌, refl, sym, ap}
use Rattle.view_model.specs.Forest.{Forest, Nothing, Branch}
use Rattle.view_tree.specs.Rows.{Row, first_tree, later_siblings}

-- it is its first tree
pub whole_first : (tree : Forest Row) → later_siblings tree ≡ Nothing → first_tree tree ≡ tree
whole_first Nothing none = refl
whole_first (Branch row kids siblings) none = ap (λ (more : Forest Row). Branch row kids more) (sym none)
