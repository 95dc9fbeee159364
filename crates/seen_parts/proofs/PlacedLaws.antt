-- The rectangles that are kept of views are those of the geometry.
use Rattle.std.proofs.Common.{◌≡◌, refl, sym, ap, ◌∙◌, arith}
use Rattle.seen_parts.specs.Meeting.{placed_rows}
use Rattle.view_model.specs.Geometry.{rect_in}
use Rattle.view_model.specs.Forest.{Forest, Nothing, Branch}
use Rattle.view_model.specs.Painting.{placed_by}
use Rattle.view_tree.specs.Rows.{Row, head_view, part_from}
use Rattle.view_tree.specs.Views.{IsLive, IsTree, Views, geometry_of, held_of, number_of, plain_of, plain_rows}
use Rattle.view_tree.proofs.forest.Forests.{Within-children_of_first, Within-later_siblings}
use Rattle.view_tree.proofs.forest.KeyLaws.{Within, count_of_key-within, from_within, here, times_self}
use Rattle.view_tree.proofs.values.GeometryLaws.{rect_live}

placed_same : (views : Views) (list : Forest Row) → IsTree views → Within list views.tree
    → placed_by (geometry_of views) (plain_rows (held_of views) list) ≡ placed_rows (held_of views) list
placed_same views Nothing is within = refl
placed_same views (Branch row kids siblings) is within =
    let live : IsLive views row.key = let w = count_of_key-within row.key within in let s = times_self row kids siblings in omega arith in
    let at : part_from row.key views.tree ≡ Branch row kids siblings = from_within row kids siblings within (is.keys row.key) in
    let number : number_of views row.key ≡ row.view.number = ap (λ (list : Forest Row). (head_view list).number) at in
    let rect : rect_in (geometry_of views) row.view.number ≡ (held_of views row.key).state.bounds =
    ap (rect_in (geometry_of views)) (sym number) ∙ rect_live views row.key is live in
    rw (rect, placed_same views kids is (Within-children_of_first within), placed_same views siblings is (Within-later_siblings within)) refl

pub placed_is : (views : Views) → IsTree views → placed_by (geometry_of views) (plain_of views) ≡ placed_rows (held_of views) views.tree
placed_is views is = placed_same views views.tree is here
