-- What is seen of the views of a tree that may get the focus, as a walk over the tree finds it.
use Rattle.std.specs.Prelude.{ℕ, if◌then◌else◌, List, [], ◌∷◌, ◌++◌, Option, None}
use Rattle.std.specs.List.{filter_map}
use Rattle.geom_core.specs.declared.geometry.Rect.{Rect}
use Rattle.view_model.specs.Forest.{Forest, Nothing, Branch}
use Rattle.view_model.specs.Painting.{is_drawn}
use Rattle.view_model.specs.PlainTree.{PlainView}
use Rattle.view_model.specs.Visible.{Canvas, canvas_below, seen_in}
use Rattle.view_tree.specs.Rows.{Row}
use Rattle.view_tree.specs.Views.{Held, scrolled}
use Rattle.focus_finder.specs.Focus.{candidate_of, is_focusable}
use Rattle.focus_finder.specs.declared.searching.Candidate.{Candidate}
use Rattle.focus_finder.specs.declared.searching.Search.{Search}

-- what is seen of the view of a key
pub record Sight : Type 0 where
  pub view : ℕ
  pub rect : Rect

-- the views of a list of a canvas that may get the focus, in preorder, with what is seen of each
abbrev pub sights : (ℕ → Held) → Canvas → Forest Row → List Sight
sights held canvas Nothing = []
sights held canvas (Branch row kids siblings) =
    let bounds = (held row.key).state.bounds in
    (if is_drawn row.view.facts.visibility
    then (if is_focusable row.view then record { view = row.key; rect = seen_in bounds canvas } ∷ [] else [])
    ++ sights held (canvas_below bounds (scrolled held row).facts canvas) kids
    else [])
    ++ sights held canvas siblings

-- those of them that are candidates
abbrev pub candidates_in : Search → List Sight → List Candidate
candidates_in search sights =
    filter_map (λ (sight : Sight). candidate_of search.side search.view search.from sight.view sight.rect) sights

-- a view as a candidate, if it is one, by what is seen of it
abbrev pub own_candidate : Search → PlainView → ℕ → Rect → Option Candidate
own_candidate search view key rect =
    if is_focusable view then candidate_of search.side search.view search.from key rect else None
