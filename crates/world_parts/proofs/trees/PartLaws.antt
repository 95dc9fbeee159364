-- The part of a view with all below it, by its key and by its number.
use Rattle.std.proofs.Common.{◌≡◌, ℕ, refl, sym, ◌∙◌, ap, inl, inr}
use Rattle.std.proofs.lemmas.Bool.{cases_Bool}
use Rattle.std.specs.Prelude.{◌==◌}
use Rattle.touch_dispatch.proofs.steps.SceneLaws.{views_part}
use Rattle.touch_dispatch.specs.reaching.TreeEvents.{part_at}
use Rattle.view_model.specs.Forest.{Forest, Nothing, Branch}
use Rattle.view_model.specs.Layout.{unscrolled}
use Rattle.view_model.specs.PlainTree.{PlainView, part_of}
use Rattle.view_tree.proofs.forest.ForestLaws.{map_rows-or_else}
use Rattle.view_tree.proofs.forest.PlainLaws.{agree_live}
use Rattle.view_tree.specs.Views.{IsLive, IsTree, Views, number_of, plain_of}
use Rattle.world_parts.proofs.touches.SceneLaws.{views_plain}
use Rattle.world_parts.specs.Touching.{unscrolled_tree}

part_of-unscrolled : (number : ℕ) (tree : Forest PlainView) → part_of number (unscrolled_tree tree) ≡ unscrolled_tree (part_of number tree)
part_of-unscrolled number Nothing = refl
part_of-unscrolled number (Branch view below after) =
    elim (cases_Bool (view.number == number)) [
      | inl e ↦ rw e refl
      | inr e ↦ rw (
        e,
        part_of-unscrolled number below,
        part_of-unscrolled number after,
        map_rows-or_else unscrolled (part_of number below) (part_of number after),
      ) refl
    ]

-- the part of a key is the part of its number, as if nothing in it was scrolled
pub part_plain : (views : Views) (key : ℕ) → IsTree views → IsLive views key → part_at views key ≡ unscrolled_tree (part_of (number_of views key) (plain_of views))
part_plain views key is live =
    sym (views_part key (number_of views key) views.tree (agree_live views key is live))
    ∙ ap (part_of (number_of views key)) (views_plain views is)
    ∙ part_of-unscrolled (number_of views key) (plain_of views)
