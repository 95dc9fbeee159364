-- What is kept with the views of a tree while some of them are skipped.
use Rattle.std.specs.Prelude.{◌≡◌, ℕ, ◌+◌, ◌==◌, Bool, true, false, if◌then◌else◌, List, [], ◌∷◌, map, Option, Some}
use Rattle.std.specs.Prelude.{None}
use Rattle.geom_core.specs.declared.geometry.Rect.{Rect}
use Rattle.geom_core.specs.declared.geometry.Size.{Size}
use Rattle.measure_cache.specs.Entries.{found}
use Rattle.view_model.specs.declared.class.Class.TheVariants.{RelativeLayout}
use Rattle.view_model.specs.Facts.{is_shown}
use Rattle.view_model.specs.Forest.{Forest, Nothing, Branch, EveryRow}
use Rattle.view_model.specs.Geometry.{size_of_rect}
use Rattle.view_model.specs.Layout.{final_edges, final_specs, measure_calls, measured_size, placement, total_size}
use Rattle.view_model.specs.Measuring.{Specs}
use Rattle.view_model.specs.Offsets.{brought, range_by}
use Rattle.view_model.specs.RelativeLayout.{sides_of}
use Rattle.view_tree.specs.Rows.{Row, views_of}
use Rattle.view_tree.specs.Views.{Held, Views, held_of, specs_of}

-- the specs of the last measuring of each view of a list that takes part in layout
abbrev pub last_specs : (ℕ → Held) → Forest Row → List Specs
last_specs held Nothing = []
last_specs held (Branch row kids siblings) =
    if is_shown row.view.facts then specs_of (held row.key).state ∷ last_specs held siblings
    else last_specs held siblings

-- the sides that a relative layout found for these
abbrev pub last_edges : (ℕ → Held) → Forest Row → List (Option Rect)
last_edges held Nothing = []
last_edges held (Branch row kids siblings) =
    if is_shown row.view.facts then sides_of (held row.key).state.edges ∷ last_edges held siblings
    else last_edges held siblings

-- the bounds of these
abbrev pub last_places : (ℕ → Held) → Forest Row → List (Option Rect)
last_places held Nothing = []
last_places held (Branch row kids siblings) =
    if is_shown row.view.facts then (held row.key).state.bounds ∷ last_places held siblings
    else last_places held siblings

-- the bounds of the first view of a list
abbrev pub first_place : (ℕ → Held) → Forest Row → Option Rect
first_place held Nothing = None
first_place held (Branch row kids siblings) = (held row.key).state.bounds

-- a view, with which this is kept, has its size under the specs of its last measuring; unless it is marked, its
-- children were last measured under its final specs for them, and those of a relative layout have their sides
pub record IsSized (held : ℕ → Held) (own : Held) (row : Row) (kids : Forest Row) : Type 0 where
  pub size : own.state.measured ≡ measured_size row.view (views_of kids) (specs_of own.state)
  pub finals : own.state.measure_first ≡ false
      → last_specs held kids ≡ final_specs row.view (views_of kids) (specs_of own.state)
  pub total : own.state.measure_first ≡ false
      → own.state.total ≡ total_size row.view (views_of kids) (specs_of own.state)
  pub edges : own.state.measure_first ≡ false → row.view.class ≡ RelativeLayout
      → last_edges held kids ≡ final_edges row.view (views_of kids) (specs_of own.state)

-- so is each view of a list that takes part in layout and is not below a marked one
abbrev pub Sized : (ℕ → Held) → Forest Row → Type 0
Sized held Nothing = Unit {0}
Sized held (Branch row kids siblings) =
    (is_shown row.view.facts ≡ true
    → IsSized held (held row.key) row kids × ((held row.key).state.measure_first ≡ false → Sized held kids))
    × Sized held siblings

-- what is known of the views around a list
pub record Around : Type 0 where
  pub hidden : Bool
  pub forced : Bool

abbrev pub hidden_in : Around → Row → Bool
hidden_in up row = if is_shown row.view.facts then up.hidden else true

-- the views around the children of a view
abbrev pub inside : Around → Row → Held → Around
inside up row own = record { hidden = hidden_in up row; forced = own.state.forced }

-- around a whole tree, whose root may be forced, and where a measuring may begin
abbrev pub loose : Around
loose = record { hidden = false; forced = true }

abbrev pub firm : Around
firm = record { hidden = false; forced = false }

-- how often a key occurs among these or below those of them that are not gone
abbrev pub reach : ℕ → Forest Row → ℕ
reach key Nothing = 0
reach key (Branch row kids siblings) =
    (if row.key == key then 1 else 0) + ((if is_shown row.view.facts then reach key kids else 0) + reach key siblings)

-- how often those do whose layout was requested in the running pass
abbrev pub asked : List ℕ → Forest Row → ℕ
asked [] list = 0
asked (key ∷ keys) list = reach key list + asked keys list

pub record HiddenView (own : Held) : Type 0 where
  pub forced : own.state.forced ≡ true
  pub bounds : own.state.bounds ≡ None
  pub cache : own.cache ≡ []

-- the offset of a view in this rectangle is in its range, if it has one
abbrev pub InRange : (ℕ → Held) → Held → Row → Forest Row → Rect → Type 0
InRange held own row kids rect =
    brought (range_by row.view.class row.view.facts (Some rect) (first_place held kids)) own.offset ≡ own.offset

-- what is kept with a view that takes part in layout, unless its layout, or that of a view below it, was requested in
-- the running pass
pub record ShownView (keys : List ℕ) (held : ℕ → Held) (up : Around) (own : Held) (row : Row) (kids : Forest Row) : Type
    0 where
  -- it is forced only below a forced view
  pub flags : asked keys (Branch row kids Nothing) ≡ 0 → own.state.forced ≡ true → up.forced ≡ true
  -- what is in its cache is right
  pub cache : asked keys (Branch row kids Nothing) ≡ 0 → (specs : Specs) (size : Size)
      → found own.cache specs ≡ Some size → size ≡ measured_size row.view (views_of kids) specs
  -- unless it is forced, it has its size
  pub sized : asked keys (Branch row kids Nothing) ≡ 0 → own.state.forced ≡ false → IsSized held own row kids
  -- unless it is forced or needs layout, its children are where it places them, and its offset is in range
  pub placed : asked keys (Branch row kids Nothing) ≡ 0 → own.state.forced ≡ false → own.state.layout_needed ≡ false
      → (rect : Rect) → own.state.bounds ≡ Some rect
      → last_places held kids
      ≡ map (λ (place : Rect). Some place)
      (placement row.view (views_of kids) (specs_of own.state) (size_of_rect rect))
  pub ranged : asked keys (Branch row kids Nothing) ≡ 0 → own.state.forced ≡ false → own.state.layout_needed ≡ false
      → (rect : Rect) → own.state.bounds ≡ Some rect → InRange held own row kids rect

-- each view of a list is kept, under what is known around it
abbrev pub Kept : List ℕ → (ℕ → Held) → Around → Forest Row → Type 0
Kept keys held up Nothing = Unit {0}
Kept keys held up (Branch row kids siblings) =
    (hidden_in up row ≡ true → HiddenView (held row.key))
    × (hidden_in up row ≡ false → ShownView keys held up (held row.key) row kids)
    × Kept keys held (inside up row (held row.key)) kids
    × Kept keys held up siblings

-- a mark is only below views that need layout, up to the list
abbrev pub Reached : (ℕ → Held) → Bool → Forest Row → Type 0
Reached held up Nothing = Unit {0}
Reached held up (Branch row kids siblings) =
    ((held row.key).state.layout_needed ≡ true → (is_shown row.view.facts ≡ true) × (up ≡ true))
    × ((held row.key).state.measure_first ≡ true → (held row.key).state.layout_needed ≡ true)
    × Reached held (held row.key).state.layout_needed kids
    × Reached held up siblings

-- a view that is forced outside of a pass has an empty cache
abbrev pub Cleared : (ℕ → Held) → Forest Row → Type 0
Cleared held list = EveryRow (λ (row : Row). (held row.key).state.forced ≡ true → (held row.key).cache ≡ []) list

-- what every tree keeps between lines
pub record IsKept (held : ℕ → Held) (tree : Forest Row) : Type 0 where
  pub kept : Kept [] held loose tree
  pub reached : Reached held false tree
  pub cleared : Cleared held tree

-- the same of a tree of the code
abbrev pub IsConsistent : Views → Type 0
IsConsistent views = IsKept (held_of views) views.tree

-- what is kept of views fits together after a change if it did before
abbrev pub StaysConsistent : Views → Views → Type 0
StaysConsistent old new = IsConsistent old → IsConsistent new

-- what a measuring may begin with
pub record Ready (held : ℕ → Held) (list : Forest Row) : Type 0 where
  pub kept : Kept [] held loose list
  pub reached : Reached held true list

-- what a marked view still has to measure
abbrev pub debt : Row → Forest Row → Held → ℕ
debt row kids own = if own.state.measure_first then measure_calls row.view (views_of kids) (specs_of own.state) else 0

abbrev pub owed : (ℕ → Held) → Forest Row → ℕ
owed held Nothing = 0
owed held (Branch row kids siblings) =
    (if is_shown row.view.facts then debt row kids (held row.key) + owed held kids else 0) + owed held siblings
