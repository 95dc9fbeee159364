-- Which hook fires, from what fires in the parts of a tree.
use Rattle.std.proofs.Common.{◌≡◌, ℕ, ◌<◌, List, [], ◌∷◌, ◌++◌, Option, Some, None, refl, sym, ◌∙◌, ap}
use Rattle.std.proofs.lemmas.List.Folds.{find-append}
use Rattle.std.specs.Prelude.{find}
use Rattle.std.specs.Option.{option_map, option_or}
use Rattle.size_hooks.specs.Hook.{Hook}
use Rattle.view_model.specs.Forest.{Forest}
use Rattle.view_model.specs.Geometry.{Laid}
use Rattle.view_tree.specs.Rows.{Row, children_of_first, count_of_key, first_tree, later_siblings, part_from}
use Rattle.view_tree.specs.Views.{Held, laid_rows}
use Rattle.view_tree.proofs.forest.PlainLaws.{option_map-or}
use Rattle.traversal.specs.Frames.{fired_in, fires}
use Rattle.traversal.proofs.laid.PartLaws.{laid_alone, laid_head, laid_list}

pub fired_append : (hooks : List Hook) (first second : List Laid) → fired_in hooks (first ++ second) ≡ option_or (fired_in hooks first) (fired_in hooks second)
fired_append hooks first second =
    ap (option_map (λ (laid : Laid). laid.number)) (find-append (fires hooks) first second)
    ∙ option_map-or (λ (laid : Laid). laid.number) (find (fires hooks) first) (find (fires hooks) second)

module _ (hooks : List Hook) (held : ℕ → Held) (key : ℕ) (tree : Forest Row) (live : 0 < count_of_key key tree) where
  -- of a view and all below it: first the view, then what is below
  pub fired_alone : fired_in hooks (laid_rows held (first_tree (part_from key tree))) ≡ option_or (fired_in hooks (laid_head held key tree)) (fired_in hooks (laid_rows held (children_of_first (part_from key tree))))
  fired_alone = ap (fired_in hooks) (laid_alone held key tree live) ∙ fired_append hooks (laid_head held key tree) (laid_rows held (children_of_first (part_from key tree)))

  -- of a view, all below it, and its later siblings
  pub fired_list : fired_in hooks (laid_rows held (part_from key tree)) ≡ option_or (fired_in hooks (laid_rows held (first_tree (part_from key tree)))) (fired_in hooks (laid_rows held (later_siblings (part_from key tree))))
  fired_list = ap (fired_in hooks) (laid_list held key tree live) ∙ fired_append hooks (laid_rows held (first_tree (part_from key tree))) (laid_rows held (later_siblings (part_from key tree)))

pub or_first : {first : Option ℕ} {x : ℕ} (second : Option ℕ) → Some x ≡ first → option_or first second ≡ Some x
or_first second is = ap (λ o. option_or o second) (sym is)

pub or_second : {first : Option ℕ} (second : Option ℕ) → first ≡ None → option_or first second ≡ second
or_second second is = ap (λ o. option_or o second) is

-- no hook fires if none is armed
pub fired_none : (geometry : List Laid) → fired_in [] geometry ≡ None
fired_none [] = refl
fired_none (laid ∷ geometry) = fired_none geometry
