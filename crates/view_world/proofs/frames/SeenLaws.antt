-- Where views are seen on a screen, by their keys and by their numbers, and what is within a rectangle.
use Rattle.std.proofs.Common.{◌≡◌, ℕ, Bool, true, false, List, [], ◌∷◌, ◌++◌, map, Option, Some, None, refl, sym, ◌∙◌, ap, subst, inl, inr}
use Rattle.std.specs.Prelude.{◌==◌, ◌||◌}
use Rattle.std.specs.Option.{option_or, unwrap_or}
use Rattle.std.specs.List.{list_any}
use Rattle.std.proofs.lemmas.Bool.{cases_Bool, cases_eq, eq-eqb, ne_eqb}
use Rattle.damage_rect.specs.Within.{LiesIn}
use Rattle.geom_core.specs.declared.geometry.Rect.{Rect}
use Rattle.geom_core.specs.declared.geometry.Size.{Size}
use Rattle.pixel_raster.specs.Raster.{size_of}
use Rattle.seen_edits.specs.Scrolled.{ScrolledIn}
use Rattle.seen_edits.specs.Shown.{seen_of}
use Rattle.seen_parts.proofs.SeenLaws.{seen_visible}
use Rattle.touch_dispatch.specs.handling.Scrolled.{has_scrolled, is_scroll}
use Rattle.touch_dispatch.specs.declared.log.Entry.{Entry}
use Rattle.view_model.specs.Forest.{Forest, Nothing, Branch, or_else}
use Rattle.view_model.specs.Geometry.{Laid}
use Rattle.view_model.specs.PlainTree.{PlainView}
use Rattle.view_model.specs.Visible.{visible_rect}
use Rattle.view_tree.specs.Rows.{Row, changed_at_key, head_view, part_from}
use Rattle.view_tree.specs.Views.{IsLive, IsTree, Views, geometry_of, number_of, plain_of}
use Rattle.view_world.specs.screen.KeyedScreen.{KeyedScreen}
use Rattle.view_world.specs.frames.Resting.{AreSeenIn, seen_on}
use Rattle.view_world.specs.frames.Seen.{scrolled_in}
use Rattle.world_parts.specs.Touching.{is_among}

-- what is seen of a view, by its key and by its number
pub seen_named : (screen : KeyedScreen) (key : ℕ) → IsTree screen.views → IsLive screen.views key → seen_on screen (number_of screen.views key) ≡ seen_of (size_of screen.surface) screen.views key
seen_named screen key is live = seen_visible screen.views (size_of screen.surface) key is live

-- the same if neither the plain tree, nor the bounds of views, nor the window has changed
pub seen_alike : (old new : KeyedScreen) (number : ℕ) → plain_of new.views ≡ plain_of old.views → geometry_of new.views ≡ geometry_of old.views → size_of new.surface ≡ size_of old.surface
    → seen_on new number ≡ seen_on old number
seen_alike old new number plain geometry size =
    ap (λ (tree : Forest PlainView). visible_rect tree (geometry_of new.views) (size_of new.surface) number) plain
    ∙ ap (λ (list : List Laid). visible_rect (plain_of old.views) list (size_of new.surface) number) geometry
    ∙ ap (λ (window : Size). visible_rect (plain_of old.views) (geometry_of old.views) window number) size

-- what is seen of views before a step is within the same rectangle as before an earlier one that left where they are
-- seen
pub seen_mid : (old mid now : KeyedScreen) (box : Rect) (numbers : List ℕ) → plain_of mid.views ≡ plain_of old.views → geometry_of mid.views ≡ geometry_of old.views → size_of mid.surface ≡ size_of old.surface
    → AreSeenIn box numbers old now → AreSeenIn box numbers mid now
seen_mid old mid now box numbers plain geometry size seen = λ number there.
    let both = seen number there in
    (subst (λ (rect : Rect). LiesIn rect box) (sym (seen_alike old mid number plain geometry size)) both.0, both.1)

pub or_right : (one other : Bool) → other ≡ true → (one || other) ≡ true
or_right true other e = refl
or_right false other e = e

-- a view is among those that it begins
pub among_first : (number : ℕ) (numbers : List ℕ) → is_among number (number ∷ numbers) ≡ true
among_first number numbers = rw (eq-eqb number number refl) refl

pub among_later : (number first : ℕ) (numbers : List ℕ) → is_among number numbers ≡ true → is_among number (first ∷ numbers) ≡ true
among_later number first numbers there = or_right (number == first) (is_among number numbers) there

-- one that is not among those
pub among_none : {P : Type 0} (number : ℕ) → is_among number [] ≡ true → P
among_none number there = absurd cc

pub among_key : (named : ℕ → ℕ) (key : ℕ) (keys : List ℕ) → list_any (λ (k : ℕ). key == k) keys ≡ true → is_among (named key) (map named keys) ≡ true
among_key named key [] there = absurd cc
among_key named key (first ∷ keys) there = elim (cases_eq key first) [
  | inl e ↦ rw (eq-eqb (named key) (named first) (ap named e)) refl
  | inr ne ↦ or_right (named key == named first) _ (among_key named key keys (rw (ne_eqb key first ne) at there))
]

pub among_left : (number : ℕ) (one other : List ℕ) → is_among number one ≡ true → is_among number (one ++ other) ≡ true
among_left number [] other there = absurd cc
among_left number (first ∷ one) other there = elim (cases_Bool (number == first)) [
  | inl e ↦ rw e refl
  | inr e ↦ rw e (among_left number one other (rw e at there))
]

pub among_right : (number : ℕ) (one other : List ℕ) → is_among number other ≡ true → is_among number (one ++ other) ≡ true
among_right number [] other there = there
among_right number (first ∷ one) other there = or_right (number == first) _ (among_right number one other there)

-- a view that has scrolled is among those that have
pub among_scrolled : (number : ℕ) (entries : List Entry) → has_scrolled number entries ≡ true → is_among number (scrolled_in entries) ≡ true
among_scrolled number [] there = absurd cc
among_scrolled number (entry ∷ entries) there = elim (cases_Bool (is_scroll entry.kind)) [
  | inl e ↦ elim (cases_eq entry.view number) [
    | inl same ↦ rw (e, eq-eqb number entry.view (sym same)) refl
    | inr ne ↦ rw e (or_right (number == entry.view) _ (among_scrolled number entries (rw (e, ne_eqb entry.view number ne) at there)))
  ]
  | inr e ↦ rw e (among_scrolled number entries (rw e at there))
]

-- what is seen of the views that have scrolled is within a known rectangle
pub scrolled_seen : (old new : KeyedScreen) (box : Rect) → IsTree new.views → size_of new.surface ≡ size_of old.surface → AreSeenIn box (scrolled_in new.reported) old new
    → ScrolledIn (size_of old.surface) box new.views new.reported
scrolled_seen old new box is size seen key live there =
    let lies = (seen (number_of new.views key) (among_scrolled (number_of new.views key) new.reported there)).1 in
    subst (λ (window : Size). LiesIn (seen_of window new.views key) box) size (subst (λ (rect : Rect). LiesIn rect box) (seen_named new key is live) lies)

-- the number of the first view of a list
abbrev first_number : Forest Row → Option ℕ
first_number Nothing = None
first_number (Branch row kids siblings) = Some row.view.number

first_else : (one other : Forest Row) → first_number (or_else one other) ≡ option_or (first_number one) (first_number other)
first_else Nothing other = refl
first_else (Branch row kids siblings) other = refl

head_first : (tree : Forest Row) → (head_view tree).number ≡ unwrap_or (first_number tree) (head_view Nothing).number
head_first Nothing = refl
head_first (Branch row kids siblings) = refl

part_changed : (key view : ℕ) (change : PlainView → PlainView) (tree : Forest Row) → ((own : PlainView) → (change own).number ≡ own.number)
    → first_number (part_from key (changed_at_key view change tree)) ≡ first_number (part_from key tree)
part_changed key view change Nothing same = refl
part_changed key view change (Branch row kids siblings) same = elim (cases_Bool (row.key == view)) [
  | inl e ↦ elim (cases_Bool (row.key == key)) [
    | inl f ↦ rw (e, f) (ap Some (same row.view))
    | inr f ↦ rw (e, f) refl
  ]
  | inr e ↦ elim (cases_Bool (row.key == key)) [
    | inl f ↦ rw (e, f) refl
    | inr f ↦ rw (e, f) (
        first_else (part_from key (changed_at_key view change kids)) (part_from key (changed_at_key view change siblings))
        ∙ ap (λ (n : Option ℕ). option_or n (first_number (part_from key (changed_at_key view change siblings)))) (part_changed key view change kids same)
        ∙ ap (option_or (first_number (part_from key kids))) (part_changed key view change siblings same)
        ∙ sym (first_else (part_from key kids) (part_from key siblings))
        )
  ]
]

-- a change of a view leaves the numbers of keys
pub number_changed : (old new : Views) (key view : ℕ) (change : PlainView → PlainView) → ((own : PlainView) → (change own).number ≡ own.number) → new.tree ≡ changed_at_key view change old.tree
    → number_of new key ≡ number_of old key
number_changed old new key view change same tree =
    ap (λ (t : Forest Row). (head_view (part_from key t)).number) tree
    ∙ head_first (part_from key (changed_at_key view change old.tree))
    ∙ ap (λ (n : Option ℕ). unwrap_or n (head_view Nothing).number) (part_changed key view change old.tree same)
    ∙ sym (head_first (part_from key old.tree))
