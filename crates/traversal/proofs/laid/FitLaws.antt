-- Layout gives each view a size that fits in 32 bits.
use Rattle.std.proofs.Common.{◌≡◌, Bool, true, false, ℕ, ◌≤◌, min, ℤ, pos, negsuc, Option, None, Some, List, [], ◌∷◌, ◌++◌, refl, sym, ◌∙◌, ap, subst, arith, inl, inr}
use Rattle.std.proofs.lemmas.Bool.{cases_Bool}
use Rattle.std.specs.Prelude.{map, reverse}
use Rattle.std.proofs.lemmas.Int.{ints}
use Rattle.geom_core.specs.Limits.{IsSide}
use Rattle.geom_core.specs.declared.geometry.Rect.{Rect}
use Rattle.geom_core.specs.declared.geometry.Size.{Size}
use Rattle.measure_pass.proofs.rules.Laws.{measured_sides}
use Rattle.size_hooks.specs.Hook.{Hook}
use Rattle.size_hooks.specs.Hooks.{reported_as}
use Rattle.view_model.specs.declared.class.Class.{Class}
use Rattle.view_model.specs.declared.class.Class.TheVariants.{RelativeLayout}
use Rattle.view_model.specs.Classes.{is_relative, lays_in_line}
use Rattle.view_model.proofs.ClassLaws.{relative_is}
use Rattle.view_model.specs.RelativeCourse.{relative_place}
use Rattle.view_model.specs.Course.{Child, Requested}
use Rattle.view_model.specs.Facts.{is_shown}
use Rattle.view_model.specs.Forest.{Forest, Nothing, Branch}
use Rattle.view_model.specs.Geometry.{Laid, rect_at, size_of_rect}
use Rattle.view_model.specs.Layout.{Final, Spot, children_of, course_by, final_by, final_size, full_layout, laid_by, manner_of, measured_size, place_by, place_in, places_backwards, root_specs, total_by, for_layout}
use Rattle.view_model.specs.LinearLayout.{rect_by}
use Rattle.view_model.specs.Measuring.{Measured, Specs}
use Rattle.view_model.specs.PlainTree.{PlainView}
use Rattle.view_model.proofs.CourseLaws.{children_in, course_children}
use Rattle.traversal.specs.Changing.{FitAll}
use Rattle.traversal.specs.Narrow.{AreSidesNarrow, IsNarrow, IsStretch}
use Rattle.traversal.specs.Reporting.{near, near_size, reported_each, reported_over}
use Rattle.kept_views.proofs.laid.PlacedKids.{finals_in, laid_back_from, laid_from, laid_in}
use Rattle.traversal.proofs.laid.LaidWhole.{at_narrow}
use Rattle.traversal.proofs.laid.NarrowSides.{AllNarrow, finals_narrow, sides_in}

fit_append : (first second : List Laid) → FitAll first → FitAll second → FitAll (first ++ second)
fit_append [] second none fit = fit
fit_append (laid ∷ first) second fit more = (fit.0, fit_append first second fit.1 more)

-- a child whose views fit wherever it is placed
record Tidy (kid : Child) : Type 0 where
  size : (specs : Specs) → IsSide (kid.measure specs).w × IsSide (kid.measure specs).h
  lays : (specs : Specs) (rect : Rect) → IsNarrow rect → FitAll (kid.lay specs rect)

abbrev TidyAll : List Child → Type 0
TidyAll [] = Unit {0}
TidyAll (kid ∷ kids) = Tidy kid × TidyAll kids

-- children that take part in layout; those of a relative layout have narrow sides
abbrev TidyFinals : Class → List Final → Type 0
TidyFinals class [] = Unit {0}
TidyFinals class (kid ∷ kids) = (Tidy kid.child × (class ≡ RelativeLayout → AreSidesNarrow kid.edges)) × TidyFinals class kids

line_narrow : (vertical : Bool) (along beside : ℤ) (size : Size) → IsSide size.w → IsSide size.h → IsNarrow (rect_by vertical along beside size)
line_narrow true along beside size w h = at_narrow _ _ size w h
line_narrow false along beside size w h = at_narrow _ _ size w h

sides_narrow : (size : Size) (edges : Option Rect) → IsSide size.w → IsSide size.h → AreSidesNarrow edges → IsNarrow (relative_place size edges)
sides_narrow size None w h narrow = at_narrow (pos 0) (pos 0) size w h
sides_narrow size (Some rect) w h narrow = narrow

-- the place of a child, by how its group places it
place_narrow : (class : Class) (spot : Spot) (before : List Measured) (kid : Measured) (edges : Option Rect) → IsSide kid.size.w → IsSide kid.size.h
    → (class ≡ RelativeLayout → AreSidesNarrow edges) → IsNarrow (place_by class spot before kid edges)
place_narrow class spot before kid edges w h narrow = elim (cases_Bool (lays_in_line class)) [
  | inl line ↦ rw line (line_narrow spot.view.facts.vertical _ _ kid.size w h)
  | inr apart ↦ elim (cases_Bool (is_relative class)) [
    | inl tied ↦ rw (apart, tied) (sides_narrow kid.size edges w h (narrow (relative_is class tied)))
    | inr untied ↦ rw (apart, untied) (at_narrow _ _ kid.size w h)
  ]
]

placed_fit : (spot : Spot) (before : List Measured) (kids : List Final) → TidyFinals spot.view.class kids → FitAll (laid_from spot before kids)
placed_fit spot before [] tidy = tt
placed_fit spot before (kid ∷ kids) tidy =
    let own = tidy.0.0 in
    let size = own.size kid.specs in
    let rect = place_in spot before (final_size kid) kid.edges in
    let more = before ++ final_size kid ∷ [] in
    fit_append (kid.child.lay kid.specs rect) (laid_from spot more kids)
    (own.lays kid.specs rect (place_narrow spot.view.class spot before (final_size kid) kid.edges size.0 size.1 tidy.0.1))
    (placed_fit spot more kids tidy.1)

placed_fit_back : (spot : Spot) (kids : List Final) → TidyFinals spot.view.class kids → FitAll (laid_back_from spot kids)
placed_fit_back spot [] tidy = tt
placed_fit_back spot (kid ∷ kids) tidy =
    let own = tidy.0.0 in
    let size = own.size kid.specs in
    let following = reverse (map final_size kids) in
    let rect = place_in spot following (final_size kid) kid.edges in
    fit_append (kid.child.lay kid.specs rect) (laid_back_from spot kids)
    (own.lays kid.specs rect (place_narrow spot.view.class spot following (final_size kid) kid.edges size.0 size.1 tidy.0.1))
    (placed_fit_back spot kids tidy.1)

placed_fit_all : (spot : Spot) (kids : List Final) → TidyFinals spot.view.class kids → FitAll (laid_in spot kids)
placed_fit_all spot kids tidy =
    elim (cases_Bool (places_backwards spot.view.class spot.view.facts)) [
      | inl back ↦ rw back (placed_fit_back spot kids tidy)
      | inr on ↦ rw on (placed_fit spot [] kids tidy)
    ]

finals_tidy : (class : Class) (specs : Specs) (kids : List Requested) → TidyAll (children_in kids) → (class ≡ RelativeLayout → AllNarrow (sides_in specs kids))
    → TidyFinals class (finals_in specs kids)
finals_tidy class specs [] tidy narrow = tt
finals_tidy class specs (kid ∷ kids) tidy narrow = by_test (is_shown kid.child.facts) refl (finals_tidy class specs kids tidy.1)
  where
    by_test : (shown : Bool) → is_shown kid.child.facts ≡ shown
        → ((class ≡ RelativeLayout → AllNarrow (sides_in specs kids)) → TidyFinals class (finals_in specs kids))
        → TidyFinals class (finals_in specs (kid ∷ kids))
    by_test true is rest =
        let both : class ≡ RelativeLayout → AreSidesNarrow kid.edges × AllNarrow (sides_in specs kids) = λ same. rw is at (narrow same) in
        rw is ((tidy.0, λ same. (both same).0), rest (λ same. (both same).1))
    by_test false is rest =
        let others : class ≡ RelativeLayout → AllNarrow (sides_in specs kids) = λ same. rw is at (narrow same) in
        rw is (rest others)

view_fits : (view : PlainView) (below : Forest PlainView) → TidyAll (children_of below) → (specs : Specs) (rect : Rect) → IsNarrow rect
    → FitAll (laid_by view (children_of below) specs rect)
view_fits view below tidy specs rect narrow =
    let kids = children_of below in
    let spot : Spot = record { view = view; specs = specs; room = size_of_rect rect; total = total_by view kids specs } in
    let course = (course_by view kids specs).kids in
    let same : children_in course ≡ kids = course_children (manner_of view specs) view kids specs in
    let finals : TidyFinals view.class (final_by view kids specs) = finals_tidy view.class specs course (subst TidyAll (sym same) tidy) (finals_narrow view.class view below specs) in
    elim (cases_Bool (is_shown view.facts)) [
      | inl here ↦ rw here (narrow, placed_fit_all spot (final_by view kids specs) finals)
      | inr gone ↦ rw gone tt
    ]

tidy_children : (tree : Forest PlainView) → TidyAll (children_of tree)
tidy_children Nothing = tt
tidy_children (Branch view below after) = (
  record { size = measured_sides (for_layout view) (children_of below); lays = view_fits (for_layout view) below (tidy_children below) },
  tidy_children after,
)

pub layout_fits : (tree : Forest PlainView) (window : Size) → FitAll (full_layout tree window)
layout_fits Nothing window = tt
layout_fits (Branch view below after) window =
    let specs = root_specs window view.facts in
    let size = measured_size view below specs in
    let sides = measured_sides (for_layout view) (children_of below) specs in
    view_fits (for_layout view) below (tidy_children below) specs (rect_at (pos 0) (pos 0) size) (at_narrow (pos 0) (pos 0) size sides.0 sides.1)

min_is : (n : ℕ) → n ≤ 2147483647 → min n 2147483647 ≡ n
min_is n few = omega arith

near_is : (length : ℤ) → IsStretch length → near length ≡ length
near_is (pos n) fits = let high = fits.high in ap (λ m. pos m) (min_is n (omega (arith, ints)))
near_is (negsuc n) fits = absurd (let low = fits.low in omega (arith, ints))

-- the nearest size to one that fits is that size
pub near_size_is : (rect : Rect) → IsNarrow rect → near_size rect ≡ size_of_rect rect
near_size_is rect fits = rw (near_is _ fits.width, near_is _ fits.height) refl

pub reported_is : (geometry : List Laid) (hooks : List Hook) → FitAll geometry → reported_over geometry hooks ≡ reported_each geometry hooks
reported_is [] hooks fit = refl
reported_is (laid ∷ geometry) hooks fit =
    ap (λ (size : Size). reported_over geometry (reported_as laid.number size hooks)) (near_size_is laid.rect fit.0)
    ∙ reported_is geometry (reported_as laid.number (size_of_rect laid.rect) hooks) fit.1
