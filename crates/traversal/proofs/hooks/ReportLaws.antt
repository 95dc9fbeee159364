-- What sizes are reported, from what is reported of the parts of a tree.
use Rattle.std.proofs.Common.{◌≡◌, ℕ, ◌<◌, List, [], ◌∷◌, ◌++◌, refl, ◌∙◌, ap}
use Rattle.size_hooks.specs.Hook.{Hook}
use Rattle.size_hooks.specs.Hooks.{reported_as}
use Rattle.view_model.specs.Forest.{Forest}
use Rattle.view_model.specs.Geometry.{Laid}
use Rattle.view_tree.specs.Rows.{Row, children_of_first, count_of_key, first_tree, later_siblings, part_from}
use Rattle.view_tree.specs.Views.{Held, laid_rows}
use Rattle.traversal.specs.Reporting.{near_size, reported_over}
use Rattle.traversal.proofs.laid.PartLaws.{laid_alone, laid_head, laid_list}

pub reported_append : (first second : List Laid) (hooks : List Hook) → reported_over (first ++ second) hooks ≡ reported_over second (reported_over first hooks)
reported_append [] second hooks = refl
reported_append (laid ∷ first) second hooks = reported_append first second (reported_as laid.number (near_size laid.rect) hooks)

module _ (held : ℕ → Held) (key : ℕ) (tree : Forest Row) (live : 0 < count_of_key key tree) (hooks : List Hook) where
  pub reported_alone : reported_over (laid_rows held (first_tree (part_from key tree))) hooks ≡ reported_over (laid_rows held (children_of_first (part_from key tree))) (reported_over (laid_head held key tree) hooks)
  reported_alone = ap (λ (l : List Laid). reported_over l hooks) (laid_alone held key tree live) ∙ reported_append (laid_head held key tree) (laid_rows held (children_of_first (part_from key tree))) hooks

  pub reported_list : reported_over (laid_rows held (part_from key tree)) hooks ≡ reported_over (laid_rows held (later_siblings (part_from key tree))) (reported_over (laid_rows held (first_tree (part_from key tree))) hooks)
  reported_list = ap (λ (l : List Laid). reported_over l hooks) (laid_list held key tree live) ∙ reported_append (laid_rows held (first_tree (part_from key tree))) (laid_rows held (later_siblings (part_from key tree))) hooks

-- no size is reported if no hook is armed
pub reported_over_none : (geometry : List Laid) → reported_over geometry [] ≡ []
reported_over_none [] = refl
reported_over_none (laid ∷ geometry) = reported_over_none geometry
