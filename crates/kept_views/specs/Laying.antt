-- What laying out a part of a tree requires and leaves, once that part is measured.
use Rattle.std.specs.Prelude.{◌≡◌, ◌≢◌, ℕ, ◌+◌, Bool, true, false, if◌then◌else◌, List, [], ◌∷◌, ◌++◌, map, Option}
use Rattle.std.specs.Prelude.{Some, None}
use Rattle.std.specs.Ordering.{int_eq}
use Rattle.geom_core.specs.declared.geometry.Rect.{Rect}
use Rattle.geom_core.specs.declared.geometry.Size.{Size}
use Rattle.view_model.specs.Facts.{is_shown, layout_facts}
use Rattle.view_model.specs.Forest.{Forest, Nothing, Branch}
use Rattle.view_model.specs.Geometry.{Laid}
use Rattle.view_model.specs.Layout.{Spot, laid_views, measured_size, place_in, places_backwards, for_layout}
use Rattle.view_model.specs.Measuring.{Measured, Specs}
use Rattle.view_model.specs.Offsets.{brought, range_by}
use Rattle.view_model.specs.RelativeLayout.{sides_of}
use Rattle.view_tree.specs.Rows.{Row, first_tree, head_view, views_of}
use Rattle.view_tree.specs.Views.{Held, laid_rows, specs_of}
use Rattle.kept_views.specs.Kept.{Kept, Reached, Ready, Sized, firm, first_place, last_edges, last_places, last_specs}

-- the layout of the first view of a list and of all below it, if it has this rectangle under these specs
abbrev pub layout_of : Forest Row → Specs → Rect → List Laid
layout_of Nothing specs rect = []
layout_of (Branch row kids siblings) specs rect = laid_views row.view (views_of kids) specs rect

-- a view as a child of its group, last measured under these specs
abbrev pub kid_under : Specs → Row → Forest Row → Measured
kid_under specs row kids =
    record { facts = layout_facts row.view.facts; size = measured_size row.view (views_of kids) specs }

abbrev pub kid_sizes : Specs → Row → Forest Row → List Measured
kid_sizes specs row kids = if is_shown row.view.facts then kid_under specs row kids ∷ [] else []

-- the children of a list that take part in layout, each as it was last measured
abbrev pub last_sizes : (ℕ → Held) → Forest Row → List Measured
last_sizes held Nothing = []
last_sizes held (Branch row kids siblings) =
    kid_sizes (specs_of (held row.key).state) row kids ++ last_sizes held siblings

-- where a group puts a child of which this is kept, after others
abbrev pub kid_place : Spot → List Measured → Held → Row → Forest Row → Rect
kid_place spot before own row kids =
    place_in spot before (kid_under (specs_of own.state) row kids) (sides_of own.state.edges)

-- the layout of a list of children of a group, after others that it has placed, each under the specs of its last
-- measuring
abbrev pub group_kids : Spot → List Measured → (ℕ → Held) → Forest Row → List Laid
group_kids spot before held Nothing = []
group_kids spot before held (Branch row kids siblings) =
    let own = held row.key in
    laid_views row.view (views_of kids) (specs_of own.state) (kid_place spot before own row kids)
    ++ group_kids spot (before ++ kid_sizes (specs_of own.state) row kids) held siblings

-- where it puts those that take part in layout
abbrev pub group_places : Spot → List Measured → (ℕ → Held) → Forest Row → List Rect
group_places spot before held Nothing = []
group_places spot before held (Branch row kids siblings) =
    let own = held row.key in
    if is_shown row.view.facts
    then kid_place spot before own row kids
    ∷ group_places spot (before ++ kid_sizes (specs_of own.state) row kids) held siblings
    else group_places spot (before ++ kid_sizes (specs_of own.state) row kids) held siblings

-- the children of a list as before, from the last to the first
abbrev pub sizes_back : (ℕ → Held) → Forest Row → List Measured
sizes_back held Nothing = []
sizes_back held (Branch row kids siblings) =
    sizes_back held siblings ++ kid_sizes (specs_of (held row.key).state) row kids

-- the layout of a list of children of a group that places them from the last to the first
abbrev pub group_kids_back : Spot → (ℕ → Held) → Forest Row → List Laid
group_kids_back spot held Nothing = []
group_kids_back spot held (Branch row kids siblings) =
    let own = held row.key in
    laid_views row.view (views_of kids) (specs_of own.state) (kid_place spot (sizes_back held siblings) own row kids)
    ++ group_kids_back spot held siblings

-- where it puts those that take part in layout
abbrev pub places_back : Spot → (ℕ → Held) → Forest Row → List Rect
places_back spot held Nothing = []
places_back spot held (Branch row kids siblings) =
    if is_shown row.view.facts
    then kid_place spot (sizes_back held siblings) (held row.key) row kids ∷ places_back spot held siblings
    else places_back spot held siblings

-- the layout of all children of a group, and where it puts those that take part in it
abbrev pub group_all : Spot → (ℕ → Held) → Forest Row → List Laid
group_all spot held list =
    if places_backwards spot.view.class spot.view.facts then group_kids_back spot held list
    else group_kids spot [] held list

abbrev pub places_all : Spot → (ℕ → Held) → Forest Row → List Rect
places_all spot held list =
    if places_backwards spot.view.class spot.view.facts then places_back spot held list
    else group_places spot [] held list

-- the group that the first view of a list is, of which this is kept, if it has this size
abbrev pub spot_of : Forest Row → Held → Size → Spot
spot_of list own room =
    record { view = for_layout (head_view list); specs = specs_of own.state; room = room; total = own.state.total }

-- what layout may begin with
pub record Fit (held : ℕ → Held) (list : Forest Row) : Type 0 where
  pub ready : Ready held list
  pub sized : Sized held list

abbrev pub some_all : List Rect → List (Option Rect)
some_all rects = map (λ (rect : Rect). Some rect) rects

-- each view with its present bounds has its offset in range
abbrev pub Brought : (ℕ → Held) → (ℕ → Held) → Forest Row → Type 0
Brought old new Nothing = Unit {0}
Brought old new (Branch row kids siblings) =
    ((new row.key).offset
    ≡ brought (range_by row.view.class row.view.facts (new row.key).state.bounds (first_place new kids))
    (old row.key).offset)
    × Brought old new kids
    × Brought old new siblings

abbrev pub same_place : Option Rect → Rect → Bool
same_place None rect = false
same_place (Some bounds) rect =
    if int_eq bounds.left rect.left then (if int_eq bounds.top rect.top
    then (if int_eq bounds.right rect.right then int_eq bounds.bottom rect.bottom else false) else false)
    else false

abbrev pub same_bounds : Option Rect → Option Rect → Bool
same_bounds None None = true
same_bounds None (Some rect) = false
same_bounds (Some bounds) None = false
same_bounds (Some bounds) (Some rect) = same_place (Some bounds) rect

-- how many views of a list have other bounds than before
abbrev pub differ : (ℕ → Held) → (ℕ → Held) → Forest Row → ℕ
differ old new Nothing = 0
differ old new (Branch row kids siblings) =
    (if same_bounds (old row.key).state.bounds (new row.key).state.bounds then 0 else 1)
    + (differ old new kids + differ old new siblings)

-- a view that has this rectangle as its bounds
abbrev pub moved_to : Held → Rect → Held
moved_to own rect = record own { state = record own.state { bounds = Some rect } }

-- a view whose offset is brought into the range that it has with these bounds of its children
abbrev pub ranged_own : (ℕ → Held) → Row → Forest Row → Held → Held
ranged_own held row kids own =
    record own
    { offset = brought (range_by row.view.class row.view.facts own.state.bounds (first_place held kids)) own.offset }

-- one view was written, and nothing else changed
pub record Wrote (old new : ℕ → Held) (view : ℕ) (own : Held) : Type 0 where
  pub at : new view ≡ own
  pub others : (other : ℕ) → other ≢ view → new other ≡ old other

-- what it leaves of children that a group lays out so, at these places, with the specs and the sides that they had
pub record IsQuietAs (held : ℕ → Held) (layout : List Laid) (rects : List Rect) (start : ℕ → Held) (list : Forest Row) :
    Type 0 where
  pub kept : Kept [] held firm list
  pub reached : Reached held false list
  pub specs : last_specs held list ≡ last_specs start list
  pub edges : last_edges held list ≡ last_edges start list
  pub lies : laid_rows held list ≡ layout
  pub places : last_places held list ≡ some_all rects
  pub offsets : Brought start held list

-- of children that a group places after others
abbrev pub IsQuiet : (ℕ → Held) → Spot → List Measured → (ℕ → Held) → Forest Row → Type 0
IsQuiet held spot before start list =
    IsQuietAs held (group_kids spot before start list) (group_places spot before start list) start list

-- of children that it places from the last to the first
abbrev pub IsQuietBack : (ℕ → Held) → Spot → (ℕ → Held) → Forest Row → Type 0
IsQuietBack held spot start list =
    IsQuietAs held (group_kids_back spot start list) (places_back spot start list) start list

-- of all its children
abbrev pub IsQuietAll : (ℕ → Held) → Spot → (ℕ → Held) → Forest Row → Type 0
IsQuietAll held spot start list = IsQuietAs held (group_all spot start list) (places_all spot start list) start list

-- what it leaves of the first view of a list
pub record IsPut (old held : ℕ → Held) (view : ℕ) (list : Forest Row) (rect : Rect) : Type 0 where
  pub kept : Kept [] held firm (first_tree list)
  pub reached : Reached held false (first_tree list)
  pub bounds : (held view).state.bounds ≡ Some rect
  pub specs : specs_of (held view).state ≡ specs_of (old view).state
  pub edges : (held view).state.edges ≡ (old view).state.edges
  pub lies : laid_rows held (first_tree list) ≡ layout_of list (specs_of (old view).state) rect
  pub offsets : Brought old held (first_tree list)
