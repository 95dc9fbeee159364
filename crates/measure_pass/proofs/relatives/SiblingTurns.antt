-- The turn of a child of a relative layout: what is known when it comes, and what it trace.
use Rattle.std.proofs.Common.{◌≡◌, ◌≢◌, ℕ, suc, ◌+◌, ◌<◌, ◌≤◌, Bool, true, false, Option, Some, None, List, [], ◌∷◌, ◌++◌, length, get_or, arith, ap, ◌∙◌, sym, refl, subst, inl, inr}
use Rattle.std.proofs.Math.Seq.{take-length}
use Rattle.std.proofs.lemmas.Bool.{cases_eq, cases_lt}
use Rattle.std.proofs.lemmas.List.{append-nil, map-append, take_more}
use Rattle.std.proofs.lemmas.List.Elements.{filter-append}
use Rattle.std.proofs.lemmas.List.Sums.{sum_by_push}
use Rattle.std.specs.Map.{lookup}
use Rattle.std.specs.Option.{unwrap_or}
use Rattle.std.specs.Prelude.{ℤ, nat_eq, if◌then◌else◌, filter, map, sum_by, take}
use Rattle.geom_core.specs.Limits.{IsSide}
use Rattle.geom_core.specs.declared.geometry.Rect.{Rect}
use Rattle.geom_core.specs.declared.geometry.Size.{Size}
use Rattle.geom_core.specs.declared.measuring.Spec.{Spec}
use Rattle.measure_pass.specs.Sharing.{MeasuringTrace}
use Rattle.kept_views.specs.Kept.{IsSized, Sized}
use Rattle.measure_pass.specs.Measured.{Costs}
use Rattle.measure_pass.specs.Siblings.{AfterTurn, AfterTurns, IsSettled, FirstHasEdges, FirstHasSize, FirstIsKnown, HasEdges, TurnIsFixed, TurnIsOver, asked_in, calls_in_turn, edge_on, edges_of, first_child, first_span, kept_spans, kids_in, no_edges, order_on, phase_of, step_on}
use Rattle.measure_pass.proofs.walks.AtPlace.{trace-at, costs_at}
use Rattle.measure_pass.proofs.Counts.{costs_nothing, costs_same}
use Rattle.measure_pass.proofs.relatives.Edged.{costs-edged, edged-write, trace-edged, sized-edged}
use Rattle.measure_pass.proofs.Shares.{trace-first, trace-mono, trace-refl, once_at, once_at-most, once_at-other}
use Rattle.kept_views.specs.Laying.{Wrote}
use Rattle.measure_pass.proofs.held.Parts.{Sized-along}
use Rattle.measure_pass.proofs.walks.Places.{FirstHasEdges-along, kid_at, past_kids, still_there}
use Rattle.relative_layout.proofs.plans.CourseLaws.{IsKidOrder, anchors_same, spans_across-fixed, spans_down-fixed}
use Rattle.relative_layout.specs.plan.RelativePlan.{RepresentsRelative, edges_as, spanned_as, spanned_at, spanned_in}
use Rattle.relative_layout.specs.declared.plan.RelativePlan.{RelativePlan}
use Rattle.view_model.specs.declared.facts.Facts.{Facts}
use Rattle.view_model.specs.declared.class.Class.{Class}
use Rattle.view_model.specs.declared.class.Class.TheVariants.{RelativeLayout}
use Rattle.view_model.specs.declared.relative.Anchors.{Anchors}
use Rattle.view_model.specs.declared.relative.Axis.{Axis}
use Rattle.view_model.specs.declared.relative.Axis.TheVariants.{Horizontal, Vertical}
use Rattle.view_model.specs.declared.relative.Edges.{Edges}
use Rattle.view_model.specs.declared.relative.Link.{Link}
use Rattle.view_model.proofs.RelativeAlike.{shown_at}
use Rattle.view_model.specs.Course.{Child}
use Rattle.view_model.specs.Facts.{is_shown, layout_facts}
use Rattle.view_model.specs.Forest.{Forest, Nothing, Branch}
use Rattle.view_model.specs.Layout.{child_under, children_of, measure_calls, measured_size}
use Rattle.view_model.specs.Measuring.{Specs, pair_of}
use Rattle.view_model.specs.Orders.{IsOrder}
use Rattle.view_model.specs.PlainTree.{PlainView}
use Rattle.view_model.specs.RelativeCourse.{anchors_by, arranged, child_at, links_of}
use Rattle.view_model.specs.RelativeLayout.{Spanned, edges_with, final_rect, phase_axis, phase_specs, span_on, span_or_none}
use Rattle.view_model.specs.SiblingRules.{leads}
use Rattle.view_model.specs.Classes.{is_relative}
use Rattle.view_model.specs.Cycles.{each, link_of, links_in}
use Rattle.sibling_orders.specs.Ordering.{AreOrders, PlainOrders, no_orders}
use Rattle.view_tree.specs.Rows.{Row, children_of_first, count_of_key, first_tree, head_view, part_from, siblings_from, views_of}
use Rattle.view_tree.specs.Views.{Held, KeepsInside, KeepsOutside, SameTree, Views, orders_of, specs_of}
use Rattle.view_tree.proofs.forest.KeyLaws.{located}
use Rattle.view_tree.proofs.forest.Walks.{KeepsInside-below, KeepsInside-self, not_own, once_from}

-- the orders of the tree are orders of the children
pub links_same : (list : Forest PlainView) → links_in list ≡ links_of (children_of list)
links_same Nothing = refl
links_same (Branch view below after) = ap (λ more. link_of view ∷ more) (links_same after)

pub each_length : {X : Type 0} (f : PlainView → X) (list : Forest PlainView) → length (each f list) ≡ length (children_of list)
each_length f Nothing = refl
each_length f (Branch view below after) = ap suc (each_length f after)

pub orders_as : (axis : Axis) (list : Forest Row) (orders : PlainOrders) → AreOrders (links_in (views_of list)) orders → IsKidOrder axis (kids_in list) (order_on axis orders)
orders_as Horizontal list orders are = subst (λ (links : List Link). IsOrder (leads Horizontal links) (length links) orders.across) (links_same (views_of list)) are.across
orders_as Vertical list orders are = subst (λ (links : List Link). IsOrder (leads Vertical links) (length links) orders.down) (links_same (views_of list)) are.down

pub order_length : (axis : Axis) (list : Forest Row) (orders : PlainOrders) → AreOrders (links_in (views_of list)) orders → length (order_on axis orders) ≡ length (kids_in list)
order_length Horizontal list orders are = are.across.size ∙ each_length link_of (views_of list)
order_length Vertical list orders are = are.down.size ∙ each_length link_of (views_of list)

-- the sides that are kept of a child whose turn is over
kept_edge : (axis : Axis) (edges before : Edges) (span : ℤ × ℤ) → edges ≡ edges_with axis span before → span_or_none (edge_on axis edges) ≡ span
kept_edge Horizontal edges before span is = rw is refl
kept_edge Vertical edges before span is = rw is refl

kept_first : (axis : Axis) (held : ℕ → Held) (specs : Specs) (before : Edges) (span : ℤ × ℤ) (part : Forest Row) → is_shown (first_child part).facts ≡ true
    → FirstHasEdges held specs (edges_with axis span before) part → first_span axis held part ≡ span
kept_first axis held specs before span Nothing here h = absurd (let e : false ≡ true = here in cc)
kept_first axis held specs before span (Branch row kids siblings) here h = kept_edge axis (held row.key).state.edges before span (h here).sides

kept_over : (axis : Axis) (own : Facts) (specs : Specs) (held : ℕ → Held) (list : Forest Row) (place : ℕ) → TurnIsOver (phase_of axis own specs (kids_in list)) held list place
    → shown_at (kids_in list) place ≡ true → kept_spans axis held list place ≡ (phase_of axis own specs (kids_in list)).spans place
kept_over Horizontal own specs held list place over here =
    let phase = phase_of Horizontal own specs (kids_in list) in
    kept_first Horizontal held (phase.asks place) (phase.before place) (phase.spans place) (siblings_from place list) (ap (λ (kid : Child). is_shown kid.facts) (sym (kid_at list place)) ∙ here) over
kept_over Vertical own specs held list place over here =
    let phase = phase_of Vertical own specs (kids_in list) in
    kept_first Vertical held (phase.asks place) (phase.before place) (phase.spans place) (siblings_from place list) (ap (λ (kid : Child). is_shown kid.facts) (sym (kid_at list place)) ∙ here) over

-- so that everything is known when a turn comes
pub turn_fixed : (axis : Axis) (own : Facts) (specs : Specs) (held : ℕ → Held) (list : Forest Row) (orders : PlainOrders) (p : ℕ) → AreOrders (links_in (views_of list)) orders
    → p < length (order_on axis orders)
    → ((q : ℕ) → q < p → TurnIsOver (phase_of axis own specs (kids_in list)) held list (get_or (order_on axis orders) q 0))
    → TurnIsFixed axis own specs (kids_in list) (kept_spans axis held list) (get_or (order_on axis orders) p 0)
turn_fixed Horizontal own specs held list orders p are inside over =
    let is = orders_as Horizontal list orders are in
    let phase = phase_of Horizontal own specs (kids_in list) in
    record {
      fixed = spans_across-fixed own specs (kids_in list) orders.across is p inside;
      anchored = anchors_same own.rtl Horizontal (kids_in list) orders.across is (kept_spans Horizontal held list) phase.spans p inside (λ q before here.
          kept_over Horizontal own specs held list (get_or orders.across q 0) (over q before) here);
    }
turn_fixed Vertical own specs held list orders p are inside over =
    let is = orders_as Vertical list orders are in
    let phase = phase_of Vertical own specs (kids_in list) in
    record {
      fixed = spans_down-fixed own specs (kids_in list) phase-across orders.down is p inside;
      anchored = anchors_same own.rtl Vertical (kids_in list) orders.down is (kept_spans Vertical held list) phase.spans p inside (λ q before here.
          kept_over Vertical own specs held list (get_or orders.down q 0) (over q before) here);
    }
  where
    phase-across : ℕ → ℤ × ℤ
    phase-across = (phase_of Horizontal own specs (kids_in list)).spans

-- what a child is asked in its turn, and its sides after it
no_axis : {A : Type 0} → Horizontal ≡ Vertical → A
no_axis e = absurd (cc)

pub asked_is : (axis : Axis) (past : List (List Spanned)) (own : Facts) (specs : Specs) (kids : List Child) (place : ℕ) (facts : Facts) (edges : Edges) (anchors : Anchors)
    → phase_axis past ≡ axis → facts ≡ (child_at kids place).facts → edges ≡ (phase_of axis own specs kids).before place
    → anchors ≡ anchors_by own.rtl axis kids (phase_of axis own specs kids).spans place
    → phase_specs own specs past facts edges anchors ≡ (phase_of axis own specs kids).asks place
asked_is Horizontal [] own specs kids place facts edges anchors is same known tied = rw (same, tied) refl
asked_is Vertical [] own specs kids place facts edges anchors is same known tied = no_axis is
asked_is Horizontal (first ∷ more) own specs kids place facts edges anchors is same known tied = no_axis (sym is)
asked_is Vertical (first ∷ more) own specs kids place facts edges anchors is same known tied = rw (same, known, tied) refl

pub span_is : (axis : Axis) (past : List (List Spanned)) (own : Facts) (specs : Specs) (kids : List Child) (place : ℕ) (facts : Facts) (anchors : Anchors) (size : Size)
    → phase_axis past ≡ axis → facts ≡ (child_at kids place).facts → anchors ≡ anchors_by own.rtl axis kids (phase_of axis own specs kids).spans place
    → size ≡ (child_at kids place).measure ((phase_of axis own specs kids).asks place)
    → (phase_of axis own specs kids).spans place ≡ step_on axis own specs kids (phase_of axis own specs kids).spans place
    → span_on (phase_axis past) own specs facts anchors size ≡ (phase_of axis own specs kids).spans place
span_is Horizontal past own specs kids place facts anchors size is same tied measured fixed = rw (is, same, tied, measured) (sym fixed)
span_is Vertical past own specs kids place facts anchors size is same tied measured fixed = rw (is, same, tied, measured) (sym fixed)

-- the view of a row that was measured under these specs, and whose sides were kept then
pub edges_kept : (mid held : ℕ → Held) (row : Row) (kids : Forest Row) (specs : Specs) (edges : Edges) → count_of_key row.key (Branch row kids Nothing) ≤ 1
    → is_shown row.view.facts ≡ true → Sized mid (Branch row kids Nothing) → specs_of (mid row.key).state ≡ specs
    → Wrote mid held row.key (record (mid row.key) { state = record (mid row.key).state { edges = edges } }) → HasEdges held specs edges row kids
edges_kept mid held row kids specs edges once here sized last w =
    let own : Held = record (mid row.key) { state = record (mid row.key).state { edges = edges } } in
    let same = KeepsInside-below mid held row kids Nothing once w.others in
    let is : IsSized held own row kids = sized-edged mid held (mid row.key) edges row kids same (sized.0 here).0 in
    record {
      last = rw w.at last;
      sized = subst (λ (own : Held). IsSized held own row kids) (sym w.at) is;
      below = λ whole. Sized-along mid held kids same ((sized.0 here).1 (rw w.at at whole));
      sides = rw w.at refl;
    }

-- a walk over the children of a relative layout in the turns of an order, of which n are over
pub record Turning (plan : RelativePlan) (axis : Axis) (own : Facts) (specs : Specs) (past : List (List Spanned)) (order : List ℕ) (turn : ℕ) (start now : ℕ → Held) (list : Forest Row)
    (old count : ℕ) : Type 0 where
  pub plan_represents : RepresentsRelative plan own specs past (spanned_in (kids_in list) (phase_of axis own specs (kids_in list)).spans (take turn order))
  pub over : (q : ℕ) → q < turn → TurnIsOver (phase_of axis own specs (kids_in list)) now list (get_or order q 0)
  pub ahead : (q : ℕ) → turn ≤ q → q < length order
      → FirstIsKnown axis now ((phase_of axis own specs (kids_in list)).before (get_or order q 0)) (siblings_from (get_or order q 0) list)
  pub costs : Costs list start now old (sum_by (calls_in_turn (phase_of axis own specs (kids_in list)) (kids_in list)) (take turn order)) count
  -- how often the child at each place was asked for: once, or not yet
  pub asks : ℕ → ℕ
  pub once : (place : ℕ) → asks place ≤ 1
  pub unasked : (q : ℕ) → turn ≤ q → q < length order → asks (get_or order q 0) ≡ 0
  pub trace : MeasuringTrace (asked_in (phase_of axis own specs (kids_in list)) (kids_in list)) asks start now list old count

pub turning_start : (plan : RelativePlan) (axis : Axis) (own : Facts) (specs : Specs) (past : List (List Spanned)) (order : List ℕ) (now : ℕ → Held) (list : Forest Row) (count : ℕ)
    → RepresentsRelative plan own specs past []
    → ((place : ℕ) → FirstIsKnown axis now ((phase_of axis own specs (kids_in list)).before place) (siblings_from place list))
    → Turning plan axis own specs past order 0 now now list count count
turning_start plan axis own specs past order now list count represents known = record {
  plan_represents = represents;
  over = λ q before. absurd (omega arith);
  ahead = λ q after inside. known (get_or order q 0);
  costs = costs_nothing list now count;
  asks = λ place. 0;
  once = λ place. omega arith;
  unasked = λ q after inside. refl;
  trace = trace-refl (asked_in (phase_of axis own specs (kids_in list)) (kids_in list)) (λ place. 0) now list count;
}

FirstIsKnown-along : (axis : Axis) (old new : ℕ → Held) (edges : Edges) (list : Forest Row) → KeepsInside old new (first_tree list) → FirstIsKnown axis old edges list → FirstIsKnown axis new edges list
FirstIsKnown-along Horizontal old new edges list same h = tt
FirstIsKnown-along Vertical old new edges Nothing same h = tt
FirstIsKnown-along Vertical old new edges (Branch row kids siblings) same h = λ here. rw (KeepsInside-self old new row kids Nothing same) (h here)

spanned_more : (kids : List Child) (spans : ℕ → ℤ × ℤ) (order : List ℕ) (turn : ℕ) → turn < length order
    → spanned_in kids spans (take (turn + 1) order) ≡ spanned_in kids spans (take turn order) ++ spanned_in kids spans (get_or order turn 0 ∷ [])
spanned_more kids spans order turn inside =
    ap (spanned_in kids spans) (take_more order turn 0 inside) ∙ spanned_append kids spans (take turn order) (get_or order turn 0 ∷ [])
  where
    spanned_append : (kids : List Child) (spans : ℕ → ℤ × ℤ) (first second : List ℕ) → spanned_in kids spans (first ++ second) ≡ spanned_in kids spans first ++ spanned_in kids spans second
    spanned_append kids spans first second = ap (filter (λ (kid : Spanned). is_shown kid.facts)) (map-append (spanned_at kids spans) first second) ∙ filter-append (λ (kid : Spanned). is_shown kid.facts) (map (spanned_at kids spans) first) (map (spanned_at kids spans) second)

calls_more : (calls : ℕ → ℕ) (order : List ℕ) (turn : ℕ) → turn < length order → sum_by calls (take (turn + 1) order) ≡ sum_by calls (take turn order) + calls (get_or order turn 0)
calls_more calls order turn inside = ap (sum_by calls) (take_more order turn 0 inside) ∙ sum_by_push calls (take turn order) (get_or order turn 0)

pub turning_on : (before plan : RelativePlan) (axis : Axis) (own : Facts) (specs : Specs) (past : List (List Spanned)) (order : List ℕ) (turn : ℕ) (start old new : ℕ → Held) (list : Forest Row)
    (first count next : ℕ)
    → turn < length order
    → ((p q : ℕ) → p < length order → q < length order → get_or order p 0 ≡ get_or order q 0 → p ≡ q)
    → ((key : ℕ) → count_of_key key list ≤ 1)
    → KeepsOutside old new (first_tree (siblings_from (get_or order turn 0) list))
    → Turning before axis own specs past order turn start old list first count
    → AfterTurn plan own specs past (spanned_in (kids_in list) (phase_of axis own specs (kids_in list)).spans (take turn order)) (phase_of axis own specs (kids_in list)) (kids_in list)
    (get_or order turn 0) old new (siblings_from (get_or order turn 0) list) count next
    → Turning plan axis own specs past order (turn + 1) start new list first next
turning_on before plan axis own specs past order turn start old new list first count next inside distinct once others t a =
    let phase = phase_of axis own specs (kids_in list) in
    let calls = calls_in_turn phase (kids_in list) in
    let place = get_or order turn 0 in
    let stays : (q : ℕ) → q < length order → q ≢ turn → KeepsInside old new (first_tree (siblings_from (get_or order q 0) list)) = λ q there ne.
    still_there old new list (get_or order q 0) place once (λ same. ne (distinct q turn there inside same)) others in
    record {
      plan_represents = subst (RepresentsRelative plan own specs past) (sym (spanned_more (kids_in list) phase.spans order turn inside)) a.plan_represents;
      over = λ q small. elim (cases_lt q turn) [
        | inl lt ↦ FirstHasEdges-along old new (phase.asks (get_or order q 0)) (edges_with phase.axis (phase.spans (get_or order q 0)) (phase.before (get_or order q 0)))
            (siblings_from (get_or order q 0) list) (stays q (omega arith) (λ same. omega arith)) (t.over q lt)
        | inr le ↦ let same : turn ≡ q = omega arith in subst (λ q. TurnIsOver phase new list (get_or order q 0)) same a.over
      ];
      ahead = λ q after there.
          FirstIsKnown-along axis old new (phase.before (get_or order q 0)) (siblings_from (get_or order q 0) list) (stays q there (λ same. omega arith)) (t.ahead q (omega arith) there);
      costs = costs_same list start new first (sum_by calls (take turn order) + calls place) (sum_by calls (take (turn + 1) order)) next (calls_more calls order turn inside)
          (costs_at start old new place list first count next (sum_by calls (take turn order)) (calls place) once others t.costs a.costs);
      asks = λ i. t.asks i + once_at place i;
      once = λ i. elim (cases_eq i place) [
        | inl e ↦
            let none : t.asks i ≡ 0 = rw e (t.unasked turn (omega arith) inside) in
            let few = once_at-most place i in
            omega arith
        | inr ne ↦
            let none = once_at-other place i ne in
            let few = t.once i in
            omega arith
      ];
      unasked = λ q after there.
          let before = t.unasked q (omega arith) there in
          let none = once_at-other place (get_or order q 0) (λ same. let e = distinct q turn there inside same in omega arith) in
          omega arith;
      trace = trace-at (asked_in phase (kids_in list)) t.asks start old new place list first count next once others t.trace a.trace;
    }

pub turning_end : (plan : RelativePlan) (axis : Axis) (own : Facts) (specs : Specs) (past : List (List Spanned)) (order : List ℕ) (turn : ℕ) (start now : ℕ → Held) (list : Forest Row) (old count : ℕ)
    → length order ≤ turn → turn ≤ length order
    → ((place : ℕ) → place < length (kids_in list) → (q : ℕ) × (q < length order) × (get_or order q 0 ≡ place))
    → Turning plan axis own specs past order turn start now list old count
    → AfterTurns plan own specs past (phase_of axis own specs (kids_in list)) order start now list old count
turning_end plan axis own specs past order turn start now list old count most least each t =
    let all : take turn order ≡ order = ap (λ n. take n order) (let e : turn ≡ length order = omega arith in e) ∙ take-length order in
    let phase = phase_of axis own specs (kids_in list) in
    record {
      plan_represents = subst (λ order. RepresentsRelative plan own specs past (spanned_in (kids_in list) phase.spans order)) all t.plan_represents;
      over = λ place small. let q = each place small in subst (TurnIsOver phase now list) q.2 (t.over q.0 (omega (arith, q.1)));
      costs = costs_same list start now old (sum_by (calls_in_turn phase (kids_in list)) (take turn order)) (sum_by (calls_in_turn phase (kids_in list)) order) count
          (ap (sum_by (calls_in_turn phase (kids_in list))) (sym all)) t.costs;
      trace = trace-mono (asked_in phase (kids_in list)) (asked_in phase (kids_in list)) t.asks (λ place. 1) start now list old count (λ place other h. h) t.once t.trace;
    }

axis_of : (axis : Axis) (own : Facts) (specs : Specs) (kids : List Child) → (phase_of axis own specs kids).axis ≡ axis
axis_of Horizontal own specs kids = refl
axis_of Vertical own specs kids = refl

pairs_same : (a b : Specs) → pair_of a ≡ pair_of b → a ≡ b
pairs_same a b same = ap (λ (pair : Spec × Spec). let specs : Specs = record { across = pair.0; down = pair.1 } in specs) same

module _ (axis : Axis) (own : Facts) (specs : Specs) (past : List (List Spanned)) (taken : List Spanned) (list : Forest Row) (place : ℕ) (row : Row) (below siblings : Forest Row)
    (part : Branch row below siblings ≡ siblings_from place list) where
  kid_here : child_at (kids_in list) place ≡ child_under row.view (views_of below)
  kid_here = kid_at list place ∙ ap first_child (sym part)

  one_taken : (v : Bool) → is_shown row.view.facts ≡ v
      → spanned_in (kids_in list) (phase_of axis own specs (kids_in list)).spans (place ∷ [])
      ≡ (if v then spanned_at (kids_in list) (phase_of axis own specs (kids_in list)).spans place ∷ [] else [])
  one_taken v is = ap (λ v. if v then spanned_at (kids_in list) (phase_of axis own specs (kids_in list)).spans place ∷ [] else []) (ap (λ (kid : Child). is_shown kid.facts) kid_here ∙ is)

  calls_here : (v : Bool) → is_shown row.view.facts ≡ v
      → calls_in_turn (phase_of axis own specs (kids_in list)) (kids_in list) place
      ≡ (if v then measure_calls row.view (views_of below) ((phase_of axis own specs (kids_in list)).asks place) else 0)
  calls_here v is =
      ap (λ (kid : Child). if is_shown kid.facts then kid.calls ((phase_of axis own specs (kids_in list)).asks place) else 0) kid_here
      ∙ ap (λ v. if v then measure_calls row.view (views_of below) ((phase_of axis own specs (kids_in list)).asks place) else 0) is

  -- a child that is gone has no turn
  pub turn_gone : (plan : RelativePlan) (held : ℕ → Held) (count : ℕ) → is_shown row.view.facts ≡ false → RepresentsRelative plan own specs past taken
      → AfterTurn plan own specs past taken (phase_of axis own specs (kids_in list)) (kids_in list) place held held (Branch row below siblings) count count
  turn_gone plan held count gone represents = record {
    plan_represents = subst (RepresentsRelative plan own specs past) (sym (ap (λ more. taken ++ more) (one_taken false gone) ∙ append-nil taken)) represents;
    over = λ here. absurd (let e : true ≡ false = sym here ∙ gone in cc);
    costs = costs_same (Branch row below Nothing) held held count 0 (calls_in_turn (phase_of axis own specs (kids_in list)) (kids_in list) place) count (calls_here false gone)
        (costs_nothing (Branch row below Nothing) held count);
    trace = trace-refl (λ i. asked_in (phase_of axis own specs (kids_in list)) (kids_in list) place) (λ i. 1) held (Branch row below Nothing) count;
  }

  -- one that takes part is measured, and its sides are kept
  pub turn_taken : (plan : RelativePlan) (before mid held : ℕ → Held) (facts : Facts) (edges sides : Edges) (anchors : Anchors) (asked : Specs) (size : Size) (count next : ℕ)
      → phase_axis past ≡ axis → TurnIsFixed axis own specs (kids_in list) (kept_spans axis before list) place
      → is_shown row.view.facts ≡ true → facts ≡ layout_facts row.view.facts
      → edges ≡ (phase_of axis own specs (kids_in list)).before place
      → anchors ≡ anchors_by own.rtl axis (kids_in list) (kept_spans axis before list) place
      → pair_of asked ≡ pair_of (phase_specs own specs past facts edges anchors)
      → size ≡ measured_size row.view (views_of below) asked
      → Sized mid (Branch row below Nothing) → specs_of (mid row.key).state ≡ asked
      → sides ≡ edges_as past (spanned_as own specs past facts anchors size) edges
      → RepresentsRelative plan own specs past (taken ++ spanned_as own specs past facts anchors size ∷ [])
      → Wrote mid held row.key (record (mid row.key) { state = record (mid row.key).state { edges = sides } })
      → count_of_key row.key (Branch row below Nothing) ≤ 1
      → Costs (Branch row below Nothing) before mid count (measure_calls row.view (views_of below) asked) next
      → MeasuringTrace (λ place other. other ≡ asked) (λ i. 1) before mid (Branch row below Nothing) count next
      → AfterTurn plan own specs past taken (phase_of axis own specs (kids_in list)) (kids_in list) place before held (Branch row below siblings) count next
  turn_taken plan before mid held facts edges sides anchors asked size count next is fixed here facts_are known anchored asks measured sized last sides_are represents wrote once costs trace =
      let kids = kids_in list in
      let phase = phase_of axis own specs kids in
      let same : facts ≡ (child_at kids place).facts = facts_are ∙ ap (λ (kid : Child). kid.facts) (sym kid_here) in
      let tied : anchors ≡ anchors_by own.rtl axis kids phase.spans place = anchored ∙ fixed.anchored in
      let asked_same : asked ≡ phase.asks place = pairs_same asked (phase_specs own specs past facts edges anchors) asks ∙ asked_is axis past own specs kids place facts edges anchors is same known tied in
      let size_same : size ≡ (child_at kids place).measure (phase.asks place) =
      measured ∙ ap (measured_size row.view (views_of below)) asked_same ∙ ap (λ (kid : Child). kid.measure (phase.asks place)) (sym kid_here) in
      let span : span_on (phase_axis past) own specs facts anchors size ≡ phase.spans place = span_is axis past own specs kids place facts anchors size is same tied size_same fixed.fixed in
      let sides_same : sides ≡ edges_with phase.axis (phase.spans place) (phase.before place) =
      sides_are ∙ ap (λ span. edges_with (phase_axis past) span edges) span ∙ ap (edges_with (phase_axis past) (phase.spans place)) known
      ∙ ap (λ axis. edges_with axis (phase.spans place) (phase.before place)) (is ∙ sym (axis_of axis own specs kids)) in
      let spanned : spanned_as own specs past facts anchors size ≡ spanned_at kids phase.spans place =
      ap (λ span. let kid : Spanned = record { facts = facts; span = span } in kid) span
      ∙ ap (λ (facts : Facts). let kid : Spanned = record { facts = facts; span = phase.spans place } in kid) same in
      record {
        plan_represents = subst (λ more. RepresentsRelative plan own specs past (taken ++ more)) (ap (λ kid. kid ∷ []) spanned ∙ sym (one_taken true here)) represents;
        over = λ here. subst (λ edges. HasEdges held (phase.asks place) edges row below) sides_same
            (edges_kept mid held row below (phase.asks place) sides once here sized (last ∙ asked_same) wrote);
        costs = costs-edged (Branch row below Nothing) before mid held count (calls_in_turn phase kids place) next (edged-write mid held row.key sides wrote)
            (costs_same (Branch row below Nothing) before mid count (measure_calls row.view (views_of below) asked) (calls_in_turn phase kids place) next
            (calls_here true here ∙ ap (measure_calls row.view (views_of below)) (sym asked_same)) costs);
        trace = trace-edged (λ i. asked_in phase kids place) (λ i. 1) before mid held (Branch row below Nothing) count next (edged-write mid held row.key sides wrote)
            (trace-first (λ place other. other ≡ asked) (λ i. asked_in phase kids place) (λ i. 1) before mid row below count next
            (λ other is. (ap (λ (kid : Child). is_shown kid.facts) kid_here ∙ here, is ∙ asked_same)) trace);
      }

-- what the second phase uses is what the first has left
first_known : (held : ℕ → Held) (specs : Specs) (edges : Edges) (part : Forest Row) → FirstHasEdges held specs edges part → FirstIsKnown Vertical held edges part
first_known held specs edges Nothing h = tt
first_known held specs edges (Branch row kids siblings) h = λ here. (h here).sides

pub known_then : (own : Facts) (specs : Specs) (held : ℕ → Held) (list : Forest Row)
    → ((place : ℕ) → place < length (kids_in list) → TurnIsOver (phase_of Horizontal own specs (kids_in list)) held list place)
    → (place : ℕ) → FirstIsKnown Vertical held ((phase_of Vertical own specs (kids_in list)).before place) (siblings_from place list)
known_then own specs held list over place =
    let across = phase_of Horizontal own specs (kids_in list) in
    let edges = (phase_of Vertical own specs (kids_in list)).before place in
    elim (cases_lt place (length (kids_in list))) [
      | inl lt ↦ first_known held (across.asks place) edges (siblings_from place list) (over place lt)
      | inr le ↦ subst (FirstIsKnown Vertical held edges) (sym (past_kids list place le)) tt
    ]

-- what is read of a child's sides before its turn
known_first : (held : ℕ → Held) (edges : Edges) (row : Row) (kids siblings : Forest Row) (key : ℕ) → row.key ≡ key → is_shown row.view.facts ≡ true
    → FirstIsKnown Vertical held edges (Branch row kids siblings) → (held key).state.edges ≡ edges
known_first held edges row kids siblings key is here known = ap (λ key. (held key).state.edges) (sym is) ∙ known here

pub edges_known : (axis : Axis) (own : Facts) (specs : Specs) (all : List Child) (held : ℕ → Held) (key : ℕ) (tree : Forest Row) (place : ℕ) (edges : Edges) → 0 < count_of_key key tree
    → is_shown (head_view (part_from key tree)).facts ≡ true
    → (axis ≡ Horizontal → edges ≡ no_edges) → (axis ≡ Vertical → edges ≡ (held key).state.edges)
    → FirstIsKnown axis held ((phase_of axis own specs all).before place) (part_from key tree) → edges ≡ (phase_of axis own specs all).before place
edges_known Horizontal own specs all held key tree place edges live here first second known = first refl
edges_known Vertical own specs all held key tree place edges live here first second known =
    let x = located key tree live in
    second refl ∙ known_first held ((phase_of Vertical own specs all).before place) x.row x.kids x.siblings key x.key_is (rw x.is at here) (rw x.is at known)

pub once_below : (view : ℕ) (tree : Forest Row) → 0 < count_of_key view tree → ((key : ℕ) → count_of_key key tree ≤ 1) → (key : ℕ) → count_of_key key (children_of_first (part_from view tree)) ≤ 1
once_below view tree live once key =
    let x = located view tree live in
    let all : count_of_key key (Branch x.row x.kids x.siblings) ≤ 1 = rw x.is at (once_from tree view once live key) in
    rw x.is (omega arith)

-- a child that is moved to its final place
pub moved_row : (row : Row) (kids siblings : Forest Row) (old new : ℕ → Held) (own : Facts) (specs asked : Specs) (room : Size) (edges : Edges) (rect : Rect)
    → count_of_key row.key (Branch row kids Nothing) ≤ 1
    → rect ≡ final_rect own specs room (layout_facts row.view.facts) (old row.key).state.edges (old row.key).state.measured
    → Wrote old new row.key (record (old row.key) { state = record (old row.key).state { edges = edges_of rect } })
    → FirstHasEdges old asked edges (Branch row kids siblings)
    → FirstHasEdges new asked (edges_of (final_rect own specs room (first_child (Branch row kids siblings)).facts edges ((first_child (Branch row kids siblings)).measure asked)))
    (Branch row kids siblings)
moved_row row kids siblings old new own specs asked room edges rect once rect_is wrote h = λ here.
    let was = h here in
    let size : (old row.key).state.measured ≡ measured_size row.view (views_of kids) asked = was.sized.size ∙ ap (measured_size row.view (views_of kids)) was.last in
    let moved : rect ≡ final_rect own specs room (layout_facts row.view.facts) edges (measured_size row.view (views_of kids) asked) =
    rect_is ∙ ap (λ edges. final_rect own specs room (layout_facts row.view.facts) edges (old row.key).state.measured) was.sides
    ∙ ap (final_rect own specs room (layout_facts row.view.facts) edges) size in
    subst (λ rect. HasEdges new asked (edges_of rect) row kids) moved
    (edges_kept old new row kids asked (edges_of rect) once here (λ shown. (was.sized, was.below), tt) was.last wrote)

pub moved_at : (tree : Forest Row) (kid : ℕ) (old new : ℕ → Held) (own : Facts) (specs asked : Specs) (room : Size) (edges : Edges) (rect : Rect)
    → 0 < count_of_key kid tree → ((key : ℕ) → count_of_key key tree ≤ 1)
    → rect ≡ final_rect own specs room (layout_facts (head_view (part_from kid tree)).facts) (old kid).state.edges (old kid).state.measured
    → Wrote old new kid (record (old kid) { state = record (old kid).state { edges = edges_of rect } })
    → FirstHasEdges old asked edges (part_from kid tree)
    → FirstHasEdges new asked (edges_of (final_rect own specs room (first_child (part_from kid tree)).facts edges ((first_child (part_from kid tree)).measure asked))) (part_from kid tree)
moved_at tree kid old new own specs asked room edges rect live once rect_is wrote h =
    let x = located kid tree live in
    let all : count_of_key x.row.key (Branch x.row x.kids x.siblings) ≤ 1 = rw x.is at (once_from tree kid once live x.row.key) in
    let rect_is : rect ≡ final_rect own specs room (layout_facts x.row.view.facts) (old x.row.key).state.edges (old x.row.key).state.measured =
    subst (λ key. rect ≡ final_rect own specs room (layout_facts x.row.view.facts) (old key).state.edges (old key).state.measured) (sym x.key_is) (rw x.is at rect_is) in
    let wrote : Wrote old new x.row.key (record (old x.row.key) { state = record (old x.row.key).state { edges = edges_of rect } }) =
    subst (λ key. Wrote old new key (record (old key) { state = record (old key).state { edges = edges_of rect } })) (sym x.key_is) wrote in
    rw x.is (moved_row x.row x.kids x.siblings old new own specs asked room edges rect (omega arith) rect_is wrote (rw x.is at h))

-- the size that is kept of a child
size_row : (held : ℕ → Held) (row : Row) (kids siblings : Forest Row) (key : ℕ) → row.key ≡ key → is_shown row.view.facts ≡ true → FirstHasSize held (Branch row kids siblings)
    → IsSide (held key).state.measured.w × IsSide (held key).state.measured.h
size_row held row kids siblings key is here h = subst (λ key. IsSide (held key).state.measured.w × IsSide (held key).state.measured.h) is (h here)

pub size_at : (tree : Forest Row) (kid : ℕ) (held : ℕ → Held) → 0 < count_of_key kid tree → is_shown (head_view (part_from kid tree)).facts ≡ true → FirstHasSize held (part_from kid tree)
    → IsSide (held kid).state.measured.w × IsSide (held kid).state.measured.h
size_at tree kid held live here h =
    let x = located kid tree live in
    size_row held x.row x.kids x.siblings kid x.key_is (rw x.is at here) (rw x.is at h)

-- the orders that are lent
pub lent : (o : Option PlainOrders) (orders kept : PlainOrders) (class : Class) → o ≡ Some orders → o ≡ (if is_relative class then Some kept else None) → class ≡ RelativeLayout → orders ≡ kept
lent o orders kept class is value relative =
    let all : Some orders ≡ Some kept = sym is ∙ value ∙ ap (λ class. if is_relative class then Some kept else None) relative in
    cc

pub place_below : (axis : Axis) (list : Forest Row) (orders : PlainOrders) (turn : ℕ) → AreOrders (links_in (views_of list)) orders → turn < length (kids_in list)
    → get_or (order_on axis orders) turn 0 < length (kids_in list)
place_below axis list orders turn are small =
    let is = orders_as axis list orders are in
    let size = order_length axis list orders are in
    let inside = is.inside turn (omega arith) in
    omega (arith, inside, is.size, size)

pub size_kept : (tree : Forest Row) (kid : ℕ) (held : ℕ → Held) → 0 < count_of_key kid tree → IsSide (held kid).state.measured.w → IsSide (held kid).state.measured.h
    → FirstHasSize held (part_from kid tree)
size_kept tree kid held live width height =
    let x = located kid tree live in
    rw x.is (λ here. subst (λ key. IsSide (held key).state.measured.w × IsSide (held key).state.measured.h) (sym x.key_is) (width, height))

-- a view is in its own tree
pub not_in : (key kid : ℕ) (tree : Forest Row) → 0 < count_of_key kid tree → count_of_key key (first_tree (part_from kid tree)) ≡ 0 → key ≡ kid → ⊥
not_in key kid tree live none same =
    let x = located kid tree live in
    let none : count_of_key key (Branch x.row x.kids Nothing) ≡ 0 = rw x.is at none in
    not_own x.row x.kids Nothing key none (same ∙ sym x.key_is)

-- a child whose turns are over, moved to its final place
pub settled_here : (own : Facts) (specs : Specs) (list : Forest Row) (place : ℕ) (held : ℕ → Held) (room : Size) → room ≡ (arranged own specs (kids_in list)).size
    → (let high = phase_of Vertical own specs (kids_in list) in
    let edges = edges_with Vertical (high.spans place) (high.before place) in
    let kid = first_child (siblings_from place list) in
    FirstHasEdges held (high.asks place) (edges_of (final_rect own specs room kid.facts edges (kid.measure (high.asks place)))) (siblings_from place list)
    → IsSettled own specs held list place)
settled_here own specs list place held room is h =
    let high = phase_of Vertical own specs (kids_in list) in
    let edges = edges_with Vertical (high.spans place) (high.before place) in
    subst (λ (rect : Rect). FirstHasEdges held (high.asks place) (edges_of rect) (siblings_from place list))
    (ap (λ (kid : Child). final_rect own specs room kid.facts edges (kid.measure (high.asks place))) (sym (kid_at list place))
    ∙ ap (λ (room : Size). final_rect own specs room (child_at (kids_in list) place).facts edges ((child_at (kids_in list) place).measure (high.asks place))) is) h

pub orders_same : (old new : Views) (view : ℕ) → SameTree old new → orders_of new view ≡ orders_of old view
orders_same old new view same =
    ap (λ tree. unwrap_or (lookup (nat_eq (head_view (part_from view tree)).number) new.orders) no_orders) same.tree
    ∙ ap (λ orders. unwrap_or (lookup (nat_eq (head_view (part_from view old.tree)).number) orders) no_orders) same.orders
