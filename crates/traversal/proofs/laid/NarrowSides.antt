-- The sides that a relative layout finds for its children are near to one another.
use Rattle.std.proofs.Common.{◌≡◌, ℕ, zero, suc, ℤ, Bool, true, false, Option, Some, None, List, [], ◌∷◌, refl, sym, ◌∙◌, subst, arith, inl, inr}
use Rattle.std.proofs.lemmas.Bool.{cases_Bool}
use Rattle.std.proofs.lemmas.Int.{ints}
use Rattle.std.specs.Int.{int_max}
use Rattle.std.specs.Prelude.{◌⊎◌, pos, negsuc, ◌≤ℤ◌, ◌+ℤ◌, ◌-ℤ◌, if◌then◌else◌, IfSome, filter, length, map}
use Rattle.std.specs.Option.{option_map}
use Rattle.geom_core.specs.Limits.{IsCoordinate, IsSide, clamp_coordinate}
use Rattle.geom_core.specs.declared.geometry.Rect.{Rect}
use Rattle.kept_views.specs.Kept.{IsSized, last_edges}
use Rattle.measure_pass.proofs.rules.Laws.{measured_sides}
use Rattle.view_model.specs.declared.facts.Facts.{Facts}
use Rattle.view_model.specs.declared.class.Class.{Class}
use Rattle.view_model.specs.declared.class.Class.TheVariants.{RelativeLayout}
use Rattle.view_model.specs.declared.relative.Anchor.{Anchor}
use Rattle.view_model.specs.declared.relative.Anchors.{Anchors}
use Rattle.view_model.specs.declared.relative.GroupAxis.{GroupAxis}
use Rattle.view_model.specs.declared.relative.ChildAxis.{ChildAxis}
use Rattle.view_model.specs.Course.{Child, Requested, last_of}
use Rattle.view_model.specs.Facts.{is_shown}
use Rattle.view_model.specs.Forest.{Forest, Nothing, Branch}
use Rattle.view_model.specs.Layout.{Final, children_of, course_in, manner_by, for_layout}
use Rattle.view_model.specs.Measuring.{Specs}
use Rattle.view_model.specs.PlainTree.{PlainView}
use Rattle.view_model.specs.RelativeCourse.{arranged, child_at, each_from, edges_at, following, requested_at, span_across, span_down, spans_across, unknown}
use Rattle.view_model.specs.RelativeLayout.{after_anchor, before_anchor, begins_at_parent, begins_with, ends_at_parent, ends_with, far_side, last_set, moved_span, near_side, rect_between, room_of, settled_span, sides_of, span_of, where_so}
use Rattle.view_tree.specs.Rows.{Row, views_of}
use Rattle.view_tree.specs.Views.{Held, specs_of}
use Rattle.traversal.specs.Narrow.{AreNarrow, AreSidesNarrow, IsNarrow, IsStretch}

-- On one axis.

clamped : (x : ℤ) → IsCoordinate (clamp_coordinate x)
unfolding clamp_coordinate
clamped x = record { low = grind (arith, ints); high = grind (arith, ints) }

abbrev AreSides : List (Option ℤ) → Type 0
AreSides [] = Unit {0}
AreSides (side ∷ later) = IfSome side (λ x. IsCoordinate x) × AreSides later

last_in : (sides : List (Option ℤ)) → AreSides sides → IfSome (last_set sides) (λ x. IsCoordinate x)
last_in [] are = tt
last_in (side ∷ later) are = by_last (last_set later) refl (last_in later are.1)
  where
    by_last : (last : Option ℤ) → last_set later ≡ last → IfSome last (λ x. IsCoordinate x) → IfSome (last_set (side ∷ later)) (λ x. IsCoordinate x)
    by_last None is h = rw is are.0
    by_last (Some x) is h = rw is h

mapped : (f : Anchor → ℤ) → ((anchor : Anchor) → IsCoordinate (f anchor)) → (anchor : Option Anchor) → IfSome (option_map f anchor) (λ x. IsCoordinate x)
mapped f is None = tt
mapped f is (Some anchor) = is anchor

so_in : (so : Bool) (side : Option ℤ) → IfSome side (λ x. IsCoordinate x) → IfSome (where_so so side) (λ x. IsCoordinate x)
so_in true side is = is
so_in false side is = tt

near_in : (group : GroupAxis) (kid : ChildAxis) (anchors : Anchors) → IfSome (near_side group kid anchors) (λ x. IsCoordinate x)
unfolding near_side
near_in group kid anchors =
    let sides : List (Option ℤ) =
    option_map (after_anchor kid) anchors.after
    ∷ option_map (begins_with kid) anchors.align_near
    ∷ where_so kid.at_near (Some (begins_at_parent group kid))
    ∷ [] in
    let are : AreSides sides = (
      mapped (after_anchor kid) (λ anchor. clamped _) anchors.after,
      (mapped (begins_with kid) (λ anchor. clamped _) anchors.align_near, (so_in kid.at_near (Some (begins_at_parent group kid)) (clamped _), tt)),
    ) in
    last_in sides are

room_in : (group : GroupAxis) (kid : ChildAxis) (room : Option ℤ) → IfSome (option_map (ends_at_parent group kid) room) (λ x. IsCoordinate x)
room_in group kid None = tt
room_in group kid (Some room) = clamped _

far_in : (group : GroupAxis) (kid : ChildAxis) (anchors : Anchors) → IfSome (far_side group kid anchors) (λ x. IsCoordinate x)
unfolding far_side
far_in group kid anchors =
    let sides : List (Option ℤ) =
    option_map (before_anchor kid) anchors.before
    ∷ option_map (ends_with kid) anchors.align_far
    ∷ where_so kid.at_far (option_map (ends_at_parent group kid) (room_of group))
    ∷ [] in
    let are : AreSides sides = (
      mapped (before_anchor kid) (λ anchor. clamped _) anchors.before,
      (
        mapped (ends_with kid) (λ anchor. clamped _) anchors.align_far,
        (so_in kid.at_far (option_map (ends_at_parent group kid) (room_of group)) (room_in group kid (room_of group)), tt),
      ),
    ) in
    last_in sides are

-- two sides of a child
record AreNear (span : ℤ × ℤ) : Type 0 where
  low : negsuc 536870911 ≤ℤ (span.1 -ℤ span.0)
  high : (span.1 -ℤ span.0) ≤ℤ pos 536870912

near_length : (edge length : ℤ) → IsSide length → AreNear (edge, edge +ℤ length)
near_length edge length side =
    let low = side.low in
    let high = side.high in
    record { low = grind (arith, ints); high = grind (arith, ints) }

near_both : (near far : ℤ) → IsCoordinate near → IsCoordinate far → AreNear (near, far)
near_both near far first last =
    let a = first.low in
    let b = first.high in
    let c = last.low in
    let d = last.high in
    record { low = grind (arith, ints); high = grind (arith, ints) }

span_near : (group : GroupAxis) (kid : ChildAxis) (near far : Option ℤ) (length : ℤ) → IfSome near (λ x. IsCoordinate x) → IfSome far (λ x. IsCoordinate x) → IsSide length
    → AreNear (span_of group kid near far length)
unfolding span_of
span_near group kid None None length first last side = near_length _ length side
span_near group kid (Some near) None length first last side = near_length near length side
span_near group kid None (Some far) length first last side = near_both _ far (clamped _) last
span_near group kid (Some near) (Some far) length first last side = near_both near far first last

settled_near : (group : GroupAxis) (kid : ChildAxis) (anchors : Anchors) (length : ℤ) → IsSide length → AreNear (settled_span group kid anchors length)
settled_near group kid anchors length side =
    span_near group kid (near_side group kid anchors) (far_side group kid anchors) length (near_in group kid anchors) (far_in group kid anchors) side

near_if : (test : Bool) (one other : ℤ × ℤ) → AreNear one → AreNear other → AreNear (if test then one else other)
near_if true one other first second = first
near_if false one other first second = second

moved_near : (group : GroupAxis) (kid : ChildAxis) (own : ℤ) (span : ℤ × ℤ) (length : ℤ) → AreNear span → IsSide length → AreNear (moved_span group kid own span length)
unfolding moved_span
moved_near group kid own span length near side =
    near_if _ span _ near (near_if kid.centered _ _ (near_length _ length side) (near_if kid.at_far _ _ (near_length _ length side) (near_if kid.rests_far _ span (near_length _ length side) near)))

one_less : (a b : ℤ) → a ≤ℤ b → int_max a b ≡ b
one_less a b le = grind (arith, ints)

one_more : (a b : ℤ) → b ≤ℤ a → int_max a b ≡ a
one_more a b le = grind (arith, ints)

nothing_far : (a : ℤ) → IsStretch (a -ℤ a)
nothing_far a = record { low = grind (arith, ints); high = grind (arith, ints) }

ordered : (a b : ℤ) → (a ≤ℤ b) ⊎ (b ≤ℤ a)
ordered a b = grind (arith, ints)

side_narrow : (span : ℤ × ℤ) → AreNear span → IsStretch (int_max span.0 span.1 -ℤ span.0)
side_narrow span near = elim (ordered span.0 span.1) [
  | inl le ↦ rw (one_less span.0 span.1 le) (let high = near.high in record { low = grind (arith, ints); high = high })
  | inr le ↦ rw (one_more span.0 span.1 le) (nothing_far span.0)
]

between_narrow : (across down : ℤ × ℤ) → AreNear across → AreNear down → IsNarrow (rect_between across down)
between_narrow across down first second = record { width = side_narrow across first; height = side_narrow down second }

-- On both axes, for all children.

abbrev AreSided : List Child → Type 0
AreSided kids = (place : ℕ) (specs : Specs) → let size = (child_at kids place).measure specs in IsSide size.w × IsSide size.h

nothing_sided : IsSide (pos 0)
nothing_sided = record { low = grind (arith, ints); high = grind (arith, ints) }

kids_sided : (list : Forest PlainView) → AreSided (children_of list)
kids_sided Nothing zero specs = (nothing_sided, nothing_sided)
kids_sided Nothing (suc place) specs = (nothing_sided, nothing_sided)
kids_sided (Branch view below after) zero specs = measured_sides (for_layout view) (children_of below) specs
kids_sided (Branch view below after) (suc place) specs = kids_sided after place specs

unknown_near : AreNear (pos 0, pos 0)
unknown_near = record { low = grind (arith, ints); high = grind (arith, ints) }

module _ (own : Facts) (specs : Specs) (kids : List Child) (sided : AreSided kids) where
  across_near : (steps place : ℕ) → AreNear (following (span_across own specs kids) unknown steps place)
  across_near zero place = unknown_near
  across_near (suc steps) place = settled_near _ _ _ _ (sided place _).0

  down_near : (across : ℕ → ℤ × ℤ) (steps place : ℕ) → AreNear (following (span_down own specs kids across) unknown steps place)
  down_near across zero place = unknown_near
  down_near across (suc steps) place = settled_near _ _ _ _ (sided place _).1

  edges_narrow : (place : ℕ) → IsNarrow (edges_at own specs kids (arranged own specs kids) place)
  edges_narrow place =
      let across = spans_across own specs kids in
      between_narrow _ _
      (moved_near _ _ _ _ _ (across_near (length kids) place) (sided place _).0)
      (moved_near _ _ _ _ _ (down_near across (length kids) place) (sided place _).1)

-- all sides that there are, are narrow
abbrev pub AllNarrow : List (Option Rect) → Type 0
AllNarrow [] = Unit {0}
AllNarrow (sides ∷ more) = AreSidesNarrow sides × AllNarrow more

-- the sides of those that take part in layout
abbrev pub sides_in : Specs → List Requested → List (Option Rect)
sides_in specs kids =
    map (λ (kid : Final). kid.edges)
    (map (λ (kid : Requested). record { child = kid.child; specs = last_of specs kid.requests; edges = kid.edges })
    (filter (λ (kid : Requested). is_shown kid.child.facts) kids))

course_narrow : (own : Facts) (specs : Specs) (all : List Child) → AreSided all → (place : ℕ) (kids : List Child)
    → AllNarrow (sides_in specs (each_from place (requested_at own specs all (arranged own specs all)) kids))
course_narrow own specs all sided place [] = tt
course_narrow own specs all sided place (kid ∷ kids) = by_test (is_shown kid.facts) refl (course_narrow own specs all sided (suc place) kids)
  where
    by_test : (shown : Bool) → is_shown kid.facts ≡ shown
        → AllNarrow (sides_in specs (each_from (suc place) (requested_at own specs all (arranged own specs all)) kids))
        → AllNarrow (sides_in specs (each_from place (requested_at own specs all (arranged own specs all)) (kid ∷ kids)))
    by_test true is rest = rw (is, is) (edges_narrow own specs all sided place, rest)
    by_test false is rest = rw (is, is) rest

-- those of the children of a relative layout
pub finals_narrow : (class : Class) (view : PlainView) (below : Forest PlainView) (specs : Specs) → class ≡ RelativeLayout
    → AllNarrow (sides_in specs (course_in (manner_by class view specs) view (children_of below) specs).kids)
finals_narrow class view below specs is =
    subst (λ (class : Class). AllNarrow (sides_in specs (course_in (manner_by class view specs) view (children_of below) specs).kids)) (sym is)
    (course_narrow view.facts specs (children_of below) (kids_sided below) 0 (children_of below))

-- In the tree.

kept_narrow : (held : ℕ → Held) (list : Forest Row) → AllNarrow (last_edges held list) → AreNarrow held list
kept_narrow held Nothing all = tt
kept_narrow held (Branch row kids siblings) all = elim (cases_Bool (is_shown row.view.facts)) [
  | inl here ↦
      let both : AreSidesNarrow (sides_of (held row.key).state.edges) × AllNarrow (last_edges held siblings) = rw here at all in
      (λ shown. both.0, kept_narrow held siblings both.1)
  | inr gone ↦
      let rest : AllNarrow (last_edges held siblings) = rw gone at all in
      (λ shown. absurd (let both : true ≡ false = sym shown ∙ gone in cc), kept_narrow held siblings rest)
]

-- the children of a relative layout that was measured
pub group_narrow : (held : ℕ → Held) (own : Held) (row : Row) (kids : Forest Row) → IsSized held own row kids → own.state.measure_first ≡ false → row.view.class ≡ RelativeLayout → AreNarrow held kids
group_narrow held own row kids sized whole is =
    kept_narrow held kids
    (subst AllNarrow (sym (sized.edges whole is)) (finals_narrow row.view.class (for_layout row.view) (views_of kids) (specs_of own.state) is))
