-- The directions of the views of a tree, by their keys.
use Rattle.std.specs.Prelude.{ℕ, Bool, false, List, [], ◌∷◌, Option, Some, None, map}
use Rattle.view_model.specs.declared.placing.Direction.{Direction}
use Rattle.view_model.specs.Direction.{dir}
use Rattle.view_model.specs.Directed.{directed_by, running, turned}
use Rattle.view_model.specs.Forest.{Forest}
use Rattle.view_model.specs.PlainTree.{PlainView}
use Rattle.view_tree.specs.Rows.{Row, ancestors, changed_at_key, head_view, part_from}
use Rattle.view_tree.specs.Views.{Views}

-- a view of this direction, which runs as before
abbrev pub with_direction : Direction → PlainView → PlainView
with_direction direction view = record view { facts = record view.facts { direction = direction } }

abbrev pub row_running : Bool → Row → Row
row_running rtl row = record row { view = running rtl row.view }

-- the trees with each view running as its direction says
abbrev pub directed_rows : Bool → Forest Row → Forest Row
directed_rows above tree = directed_by (λ (row : Row). row.view.facts.direction) row_running above tree

-- whether the first of these views runs from right to left
abbrev pub first_runs : List ℕ → Forest Row → Bool
first_runs [] tree = false
first_runs (first ∷ more) tree = (head_view (part_from first tree)).facts.rtl

-- whether the parent of a view runs from right to left; around a root nothing does
abbrev pub is_rtl_above : Views → ℕ → Bool
is_rtl_above views view = first_runs (ancestors view views.tree) views.tree

-- whether the parent of a view that comes, if there is one, runs from right to left
abbrev pub is_rtl_at : Option ℕ → Forest Row → Bool
is_rtl_at None tree = false
is_rtl_at (Some key) tree = (head_view (part_from key tree)).facts.rtl

-- a view as it comes below that
abbrev pub running_below : Option ℕ → Forest Row → PlainView → PlainView
running_below parent tree view = running (dir (is_rtl_at parent tree) view.facts.direction) view

-- the views that turn, so that each runs as its direction says
abbrev pub turned_keys : Bool → Forest Row → List ℕ
turned_keys above list = map (λ (row : Row). row.key) (turned (λ (row : Row). row.view.facts) above list)

-- the views at which a new direction of a view requests layout: itself, and each that runs another way from then on
abbrev pub asked_by_direction : ℕ → Direction → Forest Row → List ℕ
asked_by_direction view direction tree =
    view ∷ turned_keys false (changed_at_key view (with_direction direction) tree)
