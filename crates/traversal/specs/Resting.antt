-- Trees in which a frame has nothing left to do.
use Rattle.std.specs.Prelude.{◌≡◌, ◌&&◌, ◌||◌, not, ℕ, pos, true, false, Bool, Some}
use Rattle.geom_core.specs.declared.geometry.Rect.{Rect}
use Rattle.geom_core.specs.declared.geometry.Size.{Size}
use Rattle.kept_views.specs.Laying.{same_place}
use Rattle.view_model.specs.declared.facts.Facts.{Facts}
use Rattle.view_model.specs.Facts.{is_shown}
use Rattle.view_model.specs.Geometry.{rect_at}
use Rattle.view_model.specs.Layout.{root_specs}
use Rattle.view_tree.specs.declared.node.state.State.{State}
use Rattle.view_tree.specs.Rows.{first_key, head_view}
use Rattle.view_tree.specs.Views.{Views, specs_of, state_of}

-- nothing was asked of a view of this state, and it has this rectangle
pub record IsAtPlace (state : State) (rect : Rect) : Type 0 where
  pub forced : state.forced ≡ false
  pub needed : state.layout_needed ≡ false
  pub marked : state.measure_first ≡ false
  pub bounds : state.bounds ≡ Some rect

abbrev pub is_at_place : State → Rect → Bool
is_at_place state rect =
    not ((state.forced || state.layout_needed) || state.measure_first) && same_place state.bounds rect

-- nor of a root of this state and these facts, which was measured for a window of this size and is at its origin
pub record IsRootAtRest (state : State) (facts : Facts) (window : Size) : Type 0 where
  pub place : IsAtPlace state (rect_at (pos 0) (pos 0) state.measured)
  pub specs : specs_of state ≡ root_specs window facts

-- nor of the root of a tree, if there is one and it is not gone
abbrev pub IsAtRest : Views → Size → Type 0
IsAtRest views window =
    (root : ℕ) → first_key views.tree ≡ Some root → is_shown (head_view views.tree).facts ≡ true
    → IsRootAtRest (state_of views root) (head_view views.tree).facts window
