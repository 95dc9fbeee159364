-- A relative layout whose children are settled was measured as a whole.
use Rattle.std.proofs.Common.{◌≡◌, ℤ, ℕ, zero, suc, ◌+◌, ◌<◌, Bool, true, false, Option, Some, None, List, [], ◌∷◌, length, arith, ap, ◌∙◌, sym, refl, subst, inl, inr}
use Rattle.std.proofs.lemmas.List.Sums.{sum_by-cons}
use Rattle.std.proofs.lemmas.List.{length-map}
use Rattle.std.specs.List.{range_with_len}
use Rattle.std.specs.Prelude.{pos, if◌then◌else◌, map, sum_by}
use Rattle.geom_core.specs.declared.geometry.Rect.{Rect}
use Rattle.geom_core.specs.declared.geometry.Size.{Size}
use Rattle.geom_core.specs.Limits.{IsSide}
use Rattle.measure_pass.specs.Courses.{InCourse, IsMeasuredBelow, MeasuredFor, calls_of, has_requests}
use Rattle.measure_pass.specs.Caches.{Among, AskedAt}
use Rattle.measure_pass.specs.Sharing.{MeasuringTrace}
use Rattle.kept_views.specs.Kept.{last_edges}
use Rattle.measure_pass.specs.Measured.{Costs, calls_under}
use Rattle.measure_pass.specs.Siblings.{FirstHasEdges, HasEdges, IsSettled, asked_in, calls_in_turn, edges_of, kids_in, phase_of}
use Rattle.measure_pass.proofs.Counts.{costs_own, costs_same}
use Rattle.measure_pass.proofs.Shares.{trace-mono, trace-trans}
use Rattle.measure_pass.proofs.relatives.SiblingTurns.{orders_as}
use Rattle.measure_pass.proofs.walks.Whole.{AllAsked, GoneLeft, calls_shown, course_lasts, course_sized, finals_of, lasts_of, no_true, shown_calls}
use Rattle.relative_layout.proofs.orders.TurnLaws.{in_turns, size_in_turns}
use Rattle.relative_layout.specs.plan.RelativePlan.{spanned_in}
use Rattle.view_model.proofs.RelativeAlike.{requested_child}
use Rattle.view_model.specs.declared.facts.Facts.{Facts}
use Rattle.view_model.specs.declared.class.Class.TheVariants.{RelativeLayout}
use Rattle.view_model.specs.declared.relative.Axis.TheVariants.{Horizontal, Vertical}
use Rattle.view_model.specs.Course.{Child, Course, Requested}
use Rattle.view_model.specs.Facts.{is_shown, layout_facts}
use Rattle.view_model.specs.Forest.{Forest, Nothing, Branch}
use Rattle.view_model.specs.Layout.{Final, child_under, course_by, course_in, manner_by, for_layout}
use Rattle.view_model.specs.Measuring.{Specs}
use Rattle.view_model.specs.Orders.{IsOrder}
use Rattle.view_model.specs.RelativeCourse.{Arrangement, arranged, child_at, each_from, edges_at, link_of, links_of, relative_course, requested_at, requests_at}
use Rattle.view_model.specs.RelativeLayout.{relative_size, sides_of}
use Rattle.view_model.specs.SiblingRules.{leads}
use Rattle.view_model.specs.Cycles.{links_in}
use Rattle.sibling_orders.specs.Ordering.{AreOrders, PlainOrders}
use Rattle.view_tree.specs.Rows.{Row, children_of_first, count_of_key, head_view, part_from, siblings_from, views_of}
use Rattle.view_tree.specs.Views.{Held}
use Rattle.view_tree.proofs.forest.KeyLaws.{located}

-- every child that takes part was measured, and no other
all_asked_at : (own : Facts) (specs : Specs) (all : List Child) (found : Arrangement) (p : ℕ) (kids : List Child) → AllAsked (each_from p (requested_at own specs all found) kids)
all_asked_at own specs all found p [] = tt
all_asked_at own specs all found p (kid ∷ kids) = (by_test (is_shown kid.facts) refl, all_asked_at own specs all found (suc p) kids)
  where
    by_test : (v : Bool) → is_shown kid.facts ≡ v
        → (let one : Requested = if v then record { child = kid; requests = requests_at own specs all found p; edges = Some (edges_at own specs all found p) }
        else record { child = kid; requests = []; edges = None } in is_shown one.child.facts ≡ true → has_requests one.requests ≡ true)
    by_test true is = λ here. refl
    by_test false is = λ here. no_true (is_shown kid.facts) is here

gone_left_at : (own : Facts) (specs : Specs) (all : List Child) (found : Arrangement) (p : ℕ) (kids : List Child) → GoneLeft (each_from p (requested_at own specs all found) kids)
gone_left_at own specs all found p [] = tt
gone_left_at own specs all found p (kid ∷ kids) = (by_test (is_shown kid.facts) refl, gone_left_at own specs all found (suc p) kids)
  where
    by_test : (v : Bool) → is_shown kid.facts ≡ v
        → (let one : Requested = if v then record { child = kid; requests = requests_at own specs all found p; edges = Some (edges_at own specs all found p) }
        else record { child = kid; requests = []; edges = None } in is_shown one.child.facts ≡ false → one.requests ≡ [])
    by_test true is = λ gone. no_true (is_shown kid.facts) gone is
    by_test false is = λ gone. refl

-- all children of a list are settled, from this place on
abbrev SettledFrom : Facts → Specs → List Child → (ℕ → Held) → ℕ → Forest Row → Type 0
SettledFrom own specs all held p list =
    (i : ℕ) → i < length (kids_in list)
    → FirstHasEdges held ((phase_of Vertical own specs all).asks (i + p)) (edges_of (edges_at own specs all (arranged own specs all) (i + p))) (siblings_from i list)

along : (p i : ℕ) → suc i + p ≡ i + suc p
along p i = omega arith

settled_next : (own : Facts) (specs : Specs) (all : List Child) (held : ℕ → Held) (p : ℕ) (row : Row) (kids siblings : Forest Row)
    → SettledFrom own specs all held p (Branch row kids siblings) → SettledFrom own specs all held (suc p) siblings
settled_next own specs all held p row kids siblings h = λ i small.
    subst (λ at. FirstHasEdges held ((phase_of Vertical own specs all).asks at) (edges_of (edges_at own specs all (arranged own specs all) at)) (siblings_from i siblings)) (along p i)
    (h (suc i) (omega arith))

settled_here : (own : Facts) (specs : Specs) (all : List Child) (held : ℕ → Held) (p : ℕ) (row : Row) (kids siblings : Forest Row)
    → SettledFrom own specs all held p (Branch row kids siblings) → is_shown row.view.facts ≡ true
    → HasEdges held ((phase_of Vertical own specs all).asks p) (edges_of (edges_at own specs all (arranged own specs all) p)) row kids
settled_here own specs all held p row kids siblings h here =
    let from : 0 + p ≡ p = omega arith in
    subst (λ at. HasEdges held ((phase_of Vertical own specs all).asks at) (edges_of (edges_at own specs all (arranged own specs all) at)) row kids) from (h 0 (omega arith) here)

-- they are the children of the course
settled_course : (own : Facts) (specs : Specs) (all : List Child) (held : ℕ → Held) (p : ℕ) (list : Forest Row) → SettledFrom own specs all held p list
    → InCourse held list (each_from p (requested_at own specs all (arranged own specs all)) (kids_in list))
settled_course own specs all held p Nothing h = tt
settled_course own specs all held p (Branch row kids siblings) h = (
  requested_child own specs all (arranged own specs all) p (child_under row.view (views_of kids)),
  by_test (is_shown row.view.facts) (settled_here own specs all held p row kids siblings h),
  settled_course own specs all held (suc p) siblings (settled_next own specs all held p row kids siblings h),
)
  where
    found : Arrangement
    found = arranged own specs all

    by_test : (v : Bool) → (v ≡ true → HasEdges held ((phase_of Vertical own specs all).asks p) (edges_of (edges_at own specs all found p)) row kids)
        → (let one : Requested = if v then record { child = child_under row.view (views_of kids); requests = requests_at own specs all found p; edges = Some (edges_at own specs all found p) }
        else record { child = child_under row.view (views_of kids); requests = []; edges = None } in MeasuredFor held row kids one.requests)
    by_test true is = let e = is refl in (e.last, e.sized, e.below)
    by_test false is = tt

-- and have its sides
abbrev course_edges : Specs → List Requested → List (Option Rect)
course_edges specs kids = map (λ (kid : Final). kid.edges) (finals_of specs kids)

edges_cons : (specs : Specs) (v : Bool) (kid : Child) (requests : List Specs) (rect : Rect) (more : List Requested) → is_shown kid.facts ≡ v
    → course_edges specs ((if v then record { child = kid; requests = requests; edges = Some rect } else record { child = kid; requests = []; edges = None }) ∷ more)
    ≡ (if v then Some rect ∷ course_edges specs more else course_edges specs more)
edges_cons specs true kid requests rect more is = rw is refl
edges_cons specs false kid requests rect more is = rw is refl

settled_edges : (own : Facts) (specs : Specs) (all : List Child) (held : ℕ → Held) (p : ℕ) (list : Forest Row) → SettledFrom own specs all held p list
    → last_edges held list ≡ course_edges specs (each_from p (requested_at own specs all (arranged own specs all)) (kids_in list))
settled_edges own specs all held p Nothing h = refl
settled_edges own specs all held p (Branch row kids siblings) h =
    let found = arranged own specs all in
    let rest = settled_edges own specs all held (suc p) siblings (settled_next own specs all held p row kids siblings h) in
    by_test (last_edges held siblings) (course_edges specs (each_from (suc p) (requested_at own specs all found) (kids_in siblings))) (is_shown row.view.facts) (λ here. ap sides_of (settled_here own specs all held p row kids siblings h here).sides) rest
    ∙ sym (edges_cons specs (is_shown row.view.facts) (child_under row.view (views_of kids)) (requests_at own specs all found p) (edges_at own specs all found p)
    (each_from (suc p) (requested_at own specs all found) (kids_in siblings)) refl)
  where
    by_test : (some more : List (Option Rect)) (v : Bool) → (v ≡ true → sides_of (held row.key).state.edges ≡ Some (edges_at own specs all (arranged own specs all) p)) → some ≡ more
        → (if v then sides_of (held row.key).state.edges ∷ some else some) ≡ (if v then Some (edges_at own specs all (arranged own specs all) p) ∷ more else more)
    by_test some more true sides rest = ap (λ (side : Option Rect). side ∷ some) (sides refl) ∙ ap (λ more. Some (edges_at own specs all (arranged own specs all) p) ∷ more) rest
    by_test some more false sides rest = rest

-- how many views were measured, turn by turn, is how many the course measures
sum_in_turns : (calls : ℕ → ℕ) (leads : ℕ → ℕ → Bool) (count : ℕ) (order : List ℕ) → IsOrder leads count order → sum_by calls order ≡ sum_by calls (range_with_len 0 count)
sum_in_turns calls leads count order is = in_turns (λ sum place. sum + calls place) (λ x a b. omega arith) 0 leads count order is

both_calls : (own : Facts) (specs : Specs) (all : List Child) (p : ℕ) (kids : List Child) → ((i : ℕ) → i < length kids → child_at all (i + p) ≡ child_at kids i)
    → sum_by (calls_in_turn (phase_of Horizontal own specs all) all) (range_with_len p (length kids)) + sum_by (calls_in_turn (phase_of Vertical own specs all) all) (range_with_len p (length kids))
    ≡ calls_of (each_from p (requested_at own specs all (arranged own specs all)) kids)
both_calls own specs all p [] same = refl
both_calls own specs all p (kid ∷ kids) same =
    let across = calls_in_turn (phase_of Horizontal own specs all) all in
    let down = calls_in_turn (phase_of Vertical own specs all) all in
    let calls : Requested → ℕ = λ kid. sum_by kid.child.calls kid.requests in
    let next : suc p ≡ p + 1 = omega arith in
    let rest = both_calls own specs all (suc p) kids (λ i small. ap (child_at all) (sym (along p i)) ∙ same (suc i) (omega arith)) in
    let from : 0 + p ≡ p = omega arith in
    let here : child_at all p ≡ kid = ap (child_at all) (sym from) ∙ same 0 (omega arith) in
    let one : across p + down p ≡ calls (requested_at own specs all (arranged own specs all) p kid) = in_both p kid here in
    let wide = sum_by-cons across p (range_with_len (p + 1) (length kids)) in
    let high = sum_by-cons down p (range_with_len (p + 1) (length kids)) in
    let all_of = sum_by-cons calls (requested_at own specs all (arranged own specs all) p kid) (each_from (suc p) (requested_at own specs all (arranged own specs all)) kids) in
    let rest' = subst (λ at. sum_by across (range_with_len at (length kids)) + sum_by down (range_with_len at (length kids)) ≡ calls_of (each_from (suc p) (requested_at own specs all (arranged own specs all)) kids)) next rest in
    omega (arith, wide, high, all_of, rest', one)
  where
    in_both : (p : ℕ) (kid : Child) → child_at all p ≡ kid
        → calls_in_turn (phase_of Horizontal own specs all) all p + calls_in_turn (phase_of Vertical own specs all) all p
        ≡ (let one = requested_at own specs all (arranged own specs all) p kid in sum_by one.child.calls one.requests)
    in_both p kid is = ap (λ (kid : Child). (if is_shown kid.facts then kid.calls a else 0) + (if is_shown kid.facts then kid.calls d else 0)) is ∙ by_test (is_shown kid.facts)
      where
        a : Specs
        a = (phase_of Horizontal own specs all).asks p

        d : Specs
        d = (phase_of Vertical own specs all).asks p

        by_test : (v : Bool) → (if v then kid.calls a else 0) + (if v then kid.calls d else 0)
            ≡ (let one : Requested = if v then record { child = kid; requests = a ∷ d ∷ []; edges = Some (edges_at own specs all (arranged own specs all) p) }
            else record { child = kid; requests = []; edges = None } in sum_by one.child.calls one.requests)
        by_test true = let two = sum_by-cons kid.calls a (d ∷ []) in let one = sum_by-cons kid.calls d [] in omega arith
        by_test false = omega arith

-- what a child was asked in its turns is among what the course asks of it
asked_course : (own : Facts) (specs : Specs) (all : List Child) (found : Arrangement) (p : ℕ) (kids : List Child) (place : ℕ) (other : Specs) → is_shown (child_at kids place).facts ≡ true
    → Among (requests_at own specs all found (place + p)) other → AskedAt (each_from p (requested_at own specs all found) kids) place other
asked_course own specs all found p [] place other here h = none place here
  where
    none : {A : Type 0} (place : ℕ) → is_shown (child_at [] place).facts ≡ true → A
    none zero here = absurd (let e : false ≡ true = here in cc)
    none (suc place) here = absurd (let e : false ≡ true = here in cc)
asked_course own specs all found p (kid ∷ kids) zero other here h = rw here (let from : 0 + p ≡ p = omega arith in subst (λ at. Among (requests_at own specs all found at) other) from h)
asked_course own specs all found p (kid ∷ kids) (suc place) other here h =
    asked_course own specs all found (suc p) kids place other here (subst (λ at. Among (requests_at own specs all found at) other) (along p place) h)

asked_both : (own : Facts) (specs : Specs) (kids : List Child) (place : ℕ) (other : Specs) → is_shown (child_at kids place).facts ≡ true
    → Among (requests_at own specs kids (arranged own specs kids) place) other → AskedAt (relative_course own specs kids).kids place other
asked_both own specs kids place other here h =
    let from : place ≡ place + 0 = omega arith in
    asked_course own specs kids (arranged own specs kids) 0 kids place other here (subst (λ at. Among (requests_at own specs kids (arranged own specs kids) at) other) from h)

pub trace_both : (own : Facts) (specs : Specs) (before mid held : ℕ → Held) (list : Forest Row) (old between new : ℕ)
    → MeasuringTrace (asked_in (phase_of Horizontal own specs (kids_in list)) (kids_in list)) (λ place. 1) before mid list old between
    → MeasuringTrace (asked_in (phase_of Vertical own specs (kids_in list)) (kids_in list)) (λ place. 1) mid held list between new
    → MeasuringTrace (AskedAt (relative_course own specs (kids_in list)).kids) (λ place. 3) before held list old new
trace_both own specs before mid held list old between new first second =
    let kids = kids_in list in
    let asked = AskedAt (relative_course own specs kids).kids in
    trace-mono asked asked (λ place. 1 + 1) (λ place. 3) before held list old new (λ place other h. h) (λ place. omega arith)
    (trace-trans asked (λ place. 1) (λ place. 1) before mid held list old between new
    (trace-mono (asked_in (phase_of Horizontal own specs kids) kids) asked (λ place. 1) (λ place. 1) before mid list old between
    (λ place other h. asked_both own specs kids place other h.0 (inl (sym h.1))) (λ place. omega arith) first)
    (trace-mono (asked_in (phase_of Vertical own specs kids) kids) asked (λ place. 1) (λ place. 1) mid held list between new
    (λ place other h. asked_both own specs kids place other h.0 (inr (inl (sym h.1)))) (λ place. omega arith) second))

-- the size is that of the children in the list
pub size_as : (own : Facts) (specs : Specs) (list : Forest Row) (orders : PlainOrders) → AreOrders (links_in (views_of list)) orders
    → relative_size own specs (spanned_in (kids_in list) (phase_of Horizontal own specs (kids_in list)).spans orders.across)
    (spanned_in (kids_in list) (phase_of Vertical own specs (kids_in list)).spans orders.down)
    ≡ (arranged own specs (kids_in list)).size
size_as own specs list orders are =
    let kids = kids_in list in
    let counted = length-map kids (λ (kid : Child). link_of kid.facts) in
    size_in_turns own specs kids (phase_of Horizontal own specs kids).spans (phase_of Vertical own specs kids).spans (leads Horizontal (links_of kids)) (leads Vertical (links_of kids)) orders.across orders.down
    (subst (λ n. IsOrder (leads Horizontal (links_of kids)) n orders.across) counted (orders_as Horizontal list orders are))
    (subst (λ n. IsOrder (leads Vertical (links_of kids)) n orders.down) counted (orders_as Vertical list orders are))

-- the whole
pub settled_row : (row : Row) (kids siblings : Forest Row) (specs : Specs) (orders : PlainOrders) (before held : ℕ → Held) (answer : Size) (total : ℤ) (old new : ℕ)
    → (let own = (for_layout row.view).facts in
    row.view.class ≡ RelativeLayout → AreOrders (links_in (views_of kids)) orders
    → answer ≡ (arranged own specs (kids_in kids)).size → total ≡ pos 0
    → IsSide answer.w → IsSide answer.h
    → ((place : ℕ) → place < length (kids_in kids) → IsSettled own specs held kids place)
    → Costs kids before held old (sum_by (calls_in_turn (phase_of Horizontal own specs (kids_in kids)) (kids_in kids)) orders.across
    + sum_by (calls_in_turn (phase_of Vertical own specs (kids_in kids)) (kids_in kids)) orders.down) new
    → MeasuringTrace (AskedAt (relative_course own specs (kids_in kids)).kids) (λ place. 3) before held kids old new
    → IsMeasuredBelow (Branch row kids siblings) specs before held answer total old new)
settled_row row kids siblings specs orders before held answer total old new class are size summed width height settled costs trace =
    let own = (for_layout row.view).facts in
    let all = kids_in kids in
    let across = calls_in_turn (phase_of Horizontal own specs all) all in
    let down = calls_in_turn (phase_of Vertical own specs all) all in
    let course = relative_course own specs all in
    let same : course_by (for_layout row.view) all specs ≡ course = ap (λ class. course_in (manner_by class (for_layout row.view) specs) (for_layout row.view) all specs) class in
    let from : (i : ℕ) → i + 0 ≡ i = λ i. omega arith in
    let on : SettledFrom own specs all held 0 kids = λ i small.
    subst (λ at. FirstHasEdges held ((phase_of Vertical own specs all).asks at) (edges_of (edges_at own specs all (arranged own specs all) at)) (siblings_from i kids)) (sym (from i)) (settled i small) in
    let represents = settled_course own specs all held 0 kids on in
    let asked = all_asked_at own specs all (arranged own specs all) 0 all in
    let shown = shown_calls course.kids (gone_left_at own specs all (arranged own specs all) 0 all) in
    let wide = sum_in_turns across _ _ orders.across (orders_as Horizontal kids orders are) in
    let high = sum_in_turns down _ _ orders.down (orders_as Vertical kids orders are) in
    let counted = length-map all (λ (kid : Child). link_of kid.facts) in
    let wide' = subst (λ n. sum_by across orders.across ≡ sum_by across (range_with_len 0 n)) counted wide in
    let high' = subst (λ n. sum_by down orders.down ≡ sum_by down (range_with_len 0 n)) counted high in
    let both : sum_by across (range_with_len 0 (length all)) + sum_by down (range_with_len 0 (length all)) ≡ calls_of course.kids = both_calls own specs all 0 all (λ i small. ap (child_at all) (from i)) in
    let sums : calls_of course.kids ≡ sum_by across orders.across + sum_by down orders.down = omega (arith, wide', high', both) in
    let calls : calls_under (Branch row kids siblings) specs ≡ 1 + (sum_by across orders.across + sum_by down orders.down) =
    ap (λ (course : Course). 1 + calls_shown course.kids) same ∙ ap (λ n. 1 + n) (shown ∙ sums) in
    record {
      size = size ∙ ap (λ (course : Course). course.size) (sym same);
      length = summed ∙ ap (λ (course : Course). course.total) (sym same);
      width = width;
      height = height;
      sized = course_sized held kids course.kids represents asked;
      finals = course_lasts held kids specs course.kids represents asked ∙ ap (λ (course : Course). lasts_of specs course.kids) (sym same);
      edges = λ class. settled_edges own specs all held 0 kids on ∙ ap (λ (course : Course). course_edges specs course.kids) (sym same);
      costs = costs_same kids before held old (1 + (sum_by across orders.across + sum_by down orders.down)) (calls_under (Branch row kids siblings) specs) (new + 1) calls
          (costs_own kids before held old (sum_by across orders.across + sum_by down orders.down) new costs);
      trace = subst (λ (course : Course). MeasuringTrace (AskedAt course.kids) (λ place. 3) before held kids old new) (sym same) trace;
    }

-- the same of the view of a key
pub settled_at : (tree : Forest Row) (view : ℕ) (specs : Specs) (orders : PlainOrders) (before held : ℕ → Held) (answer : Size) (total : ℤ) (old new : ℕ) → 0 < count_of_key view tree
    → (let part = part_from view tree in
    let own = layout_facts (head_view part).facts in
    let list = children_of_first part in
    (head_view part).class ≡ RelativeLayout → AreOrders (links_in (views_of list)) orders
    → answer ≡ (arranged own specs (kids_in list)).size → total ≡ pos 0
    → IsSide answer.w → IsSide answer.h
    → ((place : ℕ) → place < length (kids_in list) → IsSettled own specs held list place)
    → Costs list before held old (sum_by (calls_in_turn (phase_of Horizontal own specs (kids_in list)) (kids_in list)) orders.across
    + sum_by (calls_in_turn (phase_of Vertical own specs (kids_in list)) (kids_in list)) orders.down) new
    → MeasuringTrace (AskedAt (relative_course own specs (kids_in list)).kids) (λ place. 3) before held list old new
    → IsMeasuredBelow part specs before held answer total old new)
settled_at tree view specs orders before held answer total old new live class are size summed width height settled costs trace =
    let x = located view tree live in
    rw x.is (settled_row x.row x.kids x.siblings specs orders before held answer total old new (rw x.is at class) (rw x.is at are) (rw x.is at size) summed width height (rw x.is at settled) (rw x.is at costs) (rw x.is at trace))
