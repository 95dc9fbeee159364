-- The views that a frame has moved, by their keys and by their numbers.
use Rattle.std.proofs.Common.{◌≡◌, ◌≢◌, ℕ, ◌<◌, ℤ, Bool, true, false, List, [], ◌∷◌, filter, Option, Some, None, refl, sym, ◌∙◌, ap, subst, eqb-true, arith, inl, inr}
use Rattle.std.specs.Prelude.{◌==◌, ◌&&◌, ◌||◌, not}
use Rattle.std.specs.Ordering.{int_eq}
use Rattle.std.proofs.lemmas.Bool.{cases_Bool, cases_eq, eq-eqb, ne_eqb}
use Rattle.std.proofs.lemmas.Bool.Decides.{Decides-int_eq}
use Rattle.std.proofs.lemmas.List.{map-append}
use Rattle.damage_rect.specs.Within.{LiesIn}
use Rattle.geom_core.specs.declared.geometry.Rect.{Rect}
use Rattle.geom_core.specs.declared.geometry.Size.{Size}
use Rattle.pixel_raster.specs.Raster.{size_of}
use Rattle.seen_edits.specs.Shown.{seen_of}
use Rattle.touch_dispatch.proofs.steps.SceneLaws.{offset_live}
use Rattle.traversal.proofs.laid.ShapeLaws.{count_of_key-same, number_of-same}
use Rattle.traversal.specs.Changing.{SameShape}
use Rattle.traversal.specs.Covering.{HasShifted, IsShifted}
use Rattle.view_model.specs.Forest.{Forest, Nothing, Branch, rows}
use Rattle.view_model.specs.Geometry.{rect_in}
use Rattle.view_model.specs.PlainTree.{PlainView, numbers_of}
use Rattle.view_tree.proofs.forest.KeyLaws.{Agree, zero_or_more}
use Rattle.view_tree.proofs.forest.PlainLaws.{agree_live}
use Rattle.view_tree.proofs.values.GeometryLaws.{rect_live}
use Rattle.view_tree.specs.Rows.{Row, count_of_key}
use Rattle.view_tree.specs.Views.{Held, IsLive, IsTree, held_of, number_of, offset_of, plain_of, plain_rows, state_of}
use Rattle.world_parts.proofs.touches.SceneLaws.{offsets_plain}
use Rattle.view_world.proofs.frames.SeenLaws.{among_first, among_later, among_left, among_right, seen_named}
use Rattle.view_world.specs.screen.KeyedScreen.{KeyedScreen, geometry_in, world_of}
use Rattle.view_world.specs.frames.Resting.{MovedIn, seen_on}
use Rattle.view_world.specs.frames.Seen.{has_moved, place_differs, same_rect}
use Rattle.world_parts.specs.Touching.{is_among, offsets_in}
use Rattle.view_world.specs.declared.screen.stage.Stage.{Stage}
use Rattle.view_world.specs.declared.screen.stage.Stage.TheVariants.{Settled}

both : (s t : Bool) → (s && t) ≡ true → (s ≡ true) × (t ≡ true)
both true t e = (refl, e)
both false t e = absurd cc

int_is : (a b : ℤ) → int_eq a b ≡ true → a ≡ b
int_is a b e = (Decides-int_eq a b).0 e

rect_is : (a b : Rect) → same_rect a b ≡ true → a ≡ b
rect_is a b e =
    let three = both (int_eq a.left b.left && int_eq a.top b.top && int_eq a.right b.right) (int_eq a.bottom b.bottom) e in
    let two = both (int_eq a.left b.left && int_eq a.top b.top) (int_eq a.right b.right) three.0 in
    let one = both (int_eq a.left b.left) (int_eq a.top b.top) two.0 in
    let made : ℤ → ℤ → ℤ → ℤ → Rect = λ l t r b. record { left = l; top = t; right = r; bottom = b } in
    ap (λ l. made l a.top a.right a.bottom) (int_is a.left b.left one.0)
    ∙ ap (λ t. made b.left t a.right a.bottom) (int_is a.top b.top one.1)
    ∙ ap (λ r. made b.left b.top r a.bottom) (int_is a.right b.right two.1)
    ∙ ap (made b.left b.top b.right) (int_is a.bottom b.bottom three.1)

untrue : (t : Bool) → (t ≡ true → ⊥) → not t ≡ true
untrue true never = absurd (never refl)
untrue false never = refl

differs_place : (before after : Option Rect) → after ≢ before → place_differs before after ≡ true
differs_place None None ne = absurd (ne refl)
differs_place None (Some after) ne = refl
differs_place (Some before) None ne = refl
differs_place (Some before) (Some after) ne = untrue (same_rect before after) (λ e. ne (ap Some (sym (rect_is before after e))))

or_left : (s t : Bool) → s ≡ true → (s || t) ≡ true
or_left true t e = refl
or_left false t e = absurd cc

or_right : (s t : Bool) → t ≡ true → (s || t) ≡ true
or_right true t e = refl
or_right false t e = e

-- a view of a tree has its number among those of the plain tree
among_numbers : (held : ℕ → Held) (key number : ℕ) (tree : Forest Row) → 0 < count_of_key key tree → Agree key number tree → is_among number (numbers_of (plain_rows held tree)) ≡ true
among_numbers held key number Nothing live agree = absurd (omega arith)
among_numbers held key number (Branch row kids siblings) live agree = elim (cases_Bool (row.key == key)) [
  | inl e ↦
      let own : row.view.number ≡ number = eqb-true _ _ (agree.0 ∙ e) in
      rw (eq-eqb number row.view.number (sym own)) refl
  | inr e ↦
      let live = rw e at live in
      let parts = map-append (λ (view : PlainView). view.number) (rows (plain_rows held kids)) (rows (plain_rows held siblings)) in
      among_later number row.view.number _ (ap (is_among number) parts ∙ (elim (zero_or_more (count_of_key key kids)) [
        | inl z ↦ among_right number (numbers_of (plain_rows held kids)) (numbers_of (plain_rows held siblings)) (among_numbers held key number siblings (omega arith) agree.2)
        | inr l ↦ among_left number (numbers_of (plain_rows held kids)) (numbers_of (plain_rows held siblings)) (among_numbers held key number kids l agree.1)
      ]))
]

among_filter : (keep : ℕ → Bool) (number : ℕ) (numbers : List ℕ) → is_among number numbers ≡ true → keep number ≡ true → is_among number (filter keep numbers) ≡ true
among_filter keep number [] there kept = absurd cc
among_filter keep number (first ∷ numbers) there kept = elim (cases_eq number first) [
  | inl e ↦ rw (← e, kept) (among_first number (filter keep numbers))
  | inr ne ↦
      let later = among_filter keep number numbers (rw (ne_eqb number first ne) at there) kept in
      elim (cases_Bool (keep first)) [
        | inl f ↦ rw f (among_later number first (filter keep numbers) later)
        | inr f ↦ rw f later
      ]
]

module _ (old new : KeyedScreen) (box : Rect) (was : IsTree old.views) (is : IsTree new.views) (shape : SameShape old.views new.views) (before : old.stage ≡ Settled) (after : new.stage ≡ Settled) where
  same_number : (key : ℕ) → number_of new.views key ≡ number_of old.views key
  same_number key = number_of-same key shape

  there : (key : ℕ) → IsLive old.views key → IsLive new.views key
  there key live = subst (λ (n : ℕ). 0 < n) (sym (count_of_key-same key shape)) live

  -- the bounds of a view in a world, and how far it is scrolled
  place_of : (screen : KeyedScreen) (key : ℕ) → IsTree screen.views → IsLive screen.views key → screen.stage ≡ Settled → rect_in (world_of screen).geometry (number_of screen.views key) ≡ (state_of screen.views key).bounds
  place_of screen key tree live settled =
      ap (λ (stage : Stage). rect_in (geometry_in stage screen.views) (number_of screen.views key)) settled ∙ rect_live screen.views key tree live

  offset_in : (screen : KeyedScreen) (key : ℕ) → IsTree screen.views → IsLive screen.views key → offsets_in (world_of screen).tree (number_of screen.views key) ≡ offset_of screen.views key
  offset_in screen key tree live = ap (λ (offsets : ℕ → ℤ). offsets (number_of screen.views key)) (sym (offsets_plain screen.views tree)) ∙ offset_live screen.views key tree live

  moved : (key : ℕ) → IsLive old.views key → IsShifted (held_of old.views key) (held_of new.views key) → has_moved (world_of old) (world_of new) (number_of old.views key) ≡ true
  moved key live (inl elsewhere) =
      let now : rect_in (world_of new).geometry (number_of old.views key) ≡ (state_of new.views key).bounds =
      ap (rect_in (world_of new).geometry) (sym (same_number key)) ∙ place_of new key is (there key live) after in
      or_left _ _ (differs_place _ _ (λ same. elsewhere (sym now ∙ same ∙ place_of old key was live before)))
  moved key live (inr scrolled) =
      let now : offsets_in (world_of new).tree (number_of old.views key) ≡ offset_of new.views key =
      ap (offsets_in (world_of new).tree) (sym (same_number key)) ∙ offset_in new key is (there key live) in
      or_right (place_differs (rect_in (world_of old).geometry (number_of old.views key)) (rect_in (world_of new).geometry (number_of old.views key))) _
      (untrue _ (λ e. scrolled (sym now ∙ sym (int_is _ _ e) ∙ offset_in old key was live)))

  -- what is seen of the views that a frame has moved is within a known rectangle
  pub shifted_in : size_of new.surface ≡ size_of old.surface → MovedIn box old new → HasShifted (size_of old.surface) box old.views new.views
  shifted_in size seen key live shifted =
      let number = number_of old.views key in
      let among = among_filter (has_moved (world_of old) (world_of new)) number (numbers_of (plain_of old.views))
      (among_numbers (held_of old.views) key number old.views.tree live (agree_live old.views key was live)) (moved key live shifted) in
      let lies = seen number among in (
        subst (λ (rect : Rect). LiesIn rect box) (seen_named old key was live) lies.0,
        subst (λ (window : Size). LiesIn (seen_of window new.views key) box) size
            (subst (λ (rect : Rect). LiesIn rect box) (seen_named new key is (there key live)) (subst (λ (n : ℕ). LiesIn (seen_on new n) box) (sym (same_number key)) lies.1)),
      )
