-- What is left with the children of a relative layout in the course of its measuring. They are measured out of order,
-- so that everything is stated of the child of a place.
use Rattle.std.specs.Prelude.{◌≡◌, ℕ, ◌<◌, ℤ, true, false, if◌then◌else◌, List, [], ◌∷◌, ◌++◌, length, Option, Some}
use Rattle.std.specs.Prelude.{None, sum_by}
use Rattle.geom_core.specs.Limits.{IsSide}
use Rattle.geom_core.specs.declared.geometry.Rect.{Rect}
use Rattle.measure_pass.specs.Sharing.{MeasuringTrace}
use Rattle.kept_views.specs.Kept.{IsSized, Sized}
use Rattle.measure_pass.specs.Measured.{Costs}
use Rattle.relative_layout.specs.plan.RelativePlan.{RepresentsRelative, spanned_in}
use Rattle.relative_layout.specs.declared.plan.RelativePlan.{RelativePlan}
use Rattle.view_model.specs.declared.facts.Facts.{Facts}
use Rattle.view_model.specs.declared.relative.Axis.{Axis}
use Rattle.view_model.specs.declared.relative.Axis.TheVariants.{Horizontal, Vertical}
use Rattle.view_model.specs.declared.relative.Edges.{Edges}
use Rattle.view_model.specs.Course.{Child}
use Rattle.view_model.specs.Facts.{is_shown}
use Rattle.view_model.specs.Forest.{Forest, Nothing, Branch}
use Rattle.view_model.specs.Layout.{child_under, children_of}
use Rattle.view_model.specs.Measuring.{Specs}
use Rattle.view_model.specs.RelativeCourse.{anchors_by, arranged, asked_across, asked_down, child_at, edges_at}
use Rattle.view_model.specs.RelativeCourse.{no_child, span_across, span_down, spans_across, spans_down}
use Rattle.view_model.specs.RelativeLayout.{Spanned, edges_with, span_or_none}
use Rattle.sibling_orders.specs.Ordering.{PlainOrders}
use Rattle.view_tree.specs.Rows.{Row, count_of_key, first_tree, part_from, siblings_from, views_of}
use Rattle.view_tree.specs.Views.{Held, specs_of}

abbrev pub no_edges : Edges
no_edges = record { across = None; down = None }

-- a rectangle by its sides
abbrev pub edges_of : Rect → Edges
edges_of rect = record { across = Some (rect.left, rect.right); down = Some (rect.top, rect.bottom) }

-- a phase of a group's measuring: of the child of each place what it is asked, what is known of its sides before, and
-- its sides on the axis
pub record Phase : Type 0 where
  pub axis : Axis
  pub asks : ℕ → Specs
  pub before : ℕ → Edges
  pub spans : ℕ → ℤ × ℤ

abbrev pub phase_of : Axis → Facts → Specs → List Child → Phase
phase_of Horizontal own specs kids = record {
  axis = Horizontal;
  asks = asked_across own specs kids (spans_across own specs kids);
  before = λ place. no_edges;
  spans = spans_across own specs kids;
}
phase_of Vertical own specs kids =
    let across = spans_across own specs kids in
    let down = spans_down own specs kids across in
    record {
      axis = Vertical;
      asks = asked_down own specs kids across down;
      before = λ place. record { across = Some (across place); down = None };
      spans = down;
    }

-- a child that was measured for the second of its requests or for the first, and has these sides
pub record HasEdges (held : ℕ → Held) (specs : Specs) (edges : Edges) (row : Row) (kids : Forest Row) : Type 0 where
  pub last : specs_of (held row.key).state ≡ specs
  pub sized : IsSized held (held row.key) row kids
  pub below : (held row.key).state.measure_first ≡ false → Sized held kids
  pub sides : (held row.key).state.edges ≡ edges

-- so it is with the first view of a list, if it takes part in layout
abbrev pub FirstHasEdges : (ℕ → Held) → Specs → Edges → Forest Row → Type 0
FirstHasEdges held specs edges Nothing = Unit {0}
FirstHasEdges held specs edges (Branch row kids siblings) =
    is_shown row.view.facts ≡ true → HasEdges held specs edges row kids

-- a list as the children of a group
abbrev pub kids_in : Forest Row → List Child
kids_in list = children_of (views_of list)

-- the child of a place of a list after its turn in a phase
abbrev pub TurnIsOver : Phase → (ℕ → Held) → Forest Row → ℕ → Type 0
TurnIsOver phase held list place =
    FirstHasEdges held (phase.asks place) (edges_with phase.axis (phase.spans place) (phase.before place))
    (siblings_from place list)

-- and once its sides are settled
abbrev pub IsSettled : Facts → Specs → (ℕ → Held) → Forest Row → ℕ → Type 0
IsSettled own specs held list place =
    let kids = children_of (views_of list) in
    FirstHasEdges held ((phase_of Vertical own specs kids).asks place)
    (edges_of (edges_at own specs kids (arranged own specs kids) place)) (siblings_from place list)

-- the sides of the first view of a list on an axis, as they are kept
abbrev pub edge_on : Axis → Edges → Option (ℤ × ℤ)
edge_on Horizontal edges = edges.across
edge_on Vertical edges = edges.down

abbrev pub first_span : Axis → (ℕ → Held) → Forest Row → ℤ × ℤ
first_span axis held Nothing = span_or_none None
first_span axis held (Branch row kids siblings) = span_or_none (edge_on axis (held row.key).state.edges)

-- the sides on an axis that are kept with the children
abbrev pub kept_spans : Axis → (ℕ → Held) → Forest Row → ℕ → ℤ × ℤ
kept_spans axis held list place = first_span axis held (siblings_from place list)

-- how many views are measured in the turn of a child
abbrev pub calls_in_turn : Phase → List Child → ℕ → ℕ
calls_in_turn phase kids place =
    if is_shown (child_at kids place).facts then (child_at kids place).calls (phase.asks place) else 0

-- under these specs the child of a place is measured in its turn, if it takes part in layout
abbrev pub asked_in : Phase → List Child → ℕ → Specs → Type 0
asked_in phase kids place other = (is_shown (child_at kids place).facts ≡ true) × (other ≡ phase.asks place)

-- what a phase uses is known of the first view of a list, if it takes part in layout: nothing in the first phase
abbrev pub FirstIsKnown : Axis → (ℕ → Held) → Edges → Forest Row → Type 0
FirstIsKnown Horizontal held edges list = Unit {0}
FirstIsKnown Vertical held edges Nothing = Unit {0}
FirstIsKnown Vertical held edges (Branch row kids siblings) =
    is_shown row.view.facts ≡ true → (held row.key).state.edges ≡ edges

-- the size that is kept of the first view of a list is one, if it takes part in layout
abbrev pub FirstHasSize : (ℕ → Held) → Forest Row → Type 0
FirstHasSize held Nothing = Unit {0}
FirstHasSize held (Branch row kids siblings) =
    is_shown row.view.facts ≡ true → IsSide (held row.key).state.measured.w × IsSide (held row.key).state.measured.h

-- so is that of each child of a list
abbrev pub HaveSizes : (ℕ → Held) → Forest Row → Type 0
HaveSizes held list = (place : ℕ) → place < length (kids_in list) → FirstHasSize held (siblings_from place list)

-- the result of a step for a child, given the sides of its anchors, on an axis
abbrev pub step_on : Axis → Facts → Specs → List Child → (ℕ → ℤ × ℤ) → ℕ → ℤ × ℤ
step_on Horizontal own specs kids = span_across own specs kids
step_on Vertical own specs kids = span_down own specs kids (spans_across own specs kids)

-- when the turn of a child comes, its sides are the result of the step, and the kept sides of its anchors are theirs
pub record TurnIsFixed (axis : Axis) (own : Facts) (specs : Specs) (kids : List Child) (kept : ℕ → ℤ × ℤ) (place : ℕ) :
    Type 0 where
  pub fixed : (phase_of axis own specs kids).spans place
      ≡ step_on axis own specs kids (phase_of axis own specs kids).spans place
  pub anchored : anchors_by own.rtl axis kids kept place
      ≡ anchors_by own.rtl axis kids (phase_of axis own specs kids).spans place

-- the order of an axis
abbrev pub order_on : Axis → PlainOrders → List ℕ
order_on Horizontal orders = orders.across
order_on Vertical orders = orders.down

-- the first view of a list as a child
abbrev pub first_child : Forest Row → Child
first_child Nothing = no_child
first_child (Branch row kids siblings) = child_under row.view (views_of kids)

-- the child of a place after its turn in a phase, and the plan
pub record AfterTurn (plan : RelativePlan) (own : Facts) (specs : Specs) (past : List (List Spanned))
    (taken : List Spanned) (phase : Phase) (kids : List Child)
    (place : ℕ) (before held : ℕ → Held) (part : Forest Row) (old new : ℕ) : Type 0 where
  pub plan_represents : RepresentsRelative plan own specs past (taken ++ spanned_in kids phase.spans (place ∷ []))
  pub over : FirstHasEdges held (phase.asks place) (edges_with phase.axis (phase.spans place) (phase.before place)) part
  pub costs : Costs (first_tree part) before held old (calls_in_turn phase kids place) new
  pub trace : MeasuringTrace (λ i. asked_in phase kids place) (λ i. 1) before held (first_tree part) old new

-- the children of a list after a phase in which these were the turns, and the plan
pub record AfterTurns (plan : RelativePlan) (own : Facts) (specs : Specs) (past : List (List Spanned)) (phase : Phase)
    (order : List ℕ)
    (before held : ℕ → Held) (list : Forest Row) (old new : ℕ) : Type 0 where
  pub plan_represents : RepresentsRelative plan own specs past (spanned_in (kids_in list) phase.spans order)
  pub over : (place : ℕ) → place < length (kids_in list) → TurnIsOver phase held list place
  pub costs : Costs list before held old (sum_by (calls_in_turn phase (kids_in list)) order) new
  pub trace : MeasuringTrace (asked_in phase (kids_in list)) (λ place. 1) before held list old new

-- a key is that of the child of a place, if there is one
abbrev pub IsKidAt : Forest Row → Forest Row → Option ℕ → Option ℕ → Type 0
IsKidAt tree list None None = Unit {0}
IsKidAt tree list None (Some key) = ⊥
IsKidAt tree list (Some place) None = ⊥
IsKidAt tree list (Some place) (Some key) =
    (part_from key tree ≡ siblings_from place list) × (0 < count_of_key key tree)
