-- Views on which nothing is left to do.
use Rattle.std.proofs.Common.{◌≡◌, ℤ, Bool, true, false, Option, Some, refl, sym, ◌∙◌, ap}
use Rattle.std.proofs.lemmas.Bool.Decides.{Decides-int_eq}
use Rattle.std.specs.Ordering.{int_eq}
use Rattle.std.specs.Prelude.{if◌then◌else◌, ◌&&◌, ◌||◌, not}
use Rattle.geom_core.specs.declared.geometry.Rect.{Rect}
use Rattle.kept_views.specs.Laying.{same_place}
use Rattle.kept_views.proofs.laid.LaidRows.{moved_is}
use Rattle.view_tree.specs.Views.{Held}
use Rattle.traversal.specs.Resting.{IsAtPlace, is_at_place}

pub calm_of : (moved forced needed : Bool) → (if moved then false else (if forced then false else (if needed then false else true))) ≡ true → (moved ≡ false) × (forced ≡ false) × (needed ≡ false)
calm_of true forced needed e = let no : false ≡ true = e in absurd (cc)
calm_of false true needed e = let no : false ≡ true = e in absurd (cc)
calm_of false false true e = let no : false ≡ true = e in absurd (cc)
calm_of false false false e = (refl, refl, refl)

pub calm_is : (moved forced needed : Bool) → moved ≡ false → forced ≡ false → needed ≡ false → (if moved then false else (if forced then false else (if needed then false else true))) ≡ true
calm_is moved forced needed m f n = rw (m, f, n) refl

-- a view that has this rectangle is not moved there
pub unmoved : (bounds : Option Rect) (rect : Rect) (moved : Bool) → bounds ≡ Some rect → same_place bounds rect ≡ (if moved then false else true) → moved ≡ false
unmoved bounds rect false lies e = refl
unmoved bounds rect true lies e = absurd (let no : true ≡ false = sym there ∙ ap (λ (b : Option Rect). same_place b rect) (sym lies) ∙ e in cc)
  where
    self : (x : ℤ) → int_eq x x ≡ true
    self x = (Decides-int_eq x x).1 refl

    there : same_place (Some rect) rect ≡ true
    there = rw (self rect.left, self rect.top, self rect.right) (self rect.bottom)

-- a view that passes the test
pub is_at_place-IsAtPlace : (own : Held) (rect : Rect) → is_at_place own.state rect ≡ true → IsAtPlace own.state rect
is_at_place-IsAtPlace own rect there =
    let quiet = none_of own.state.forced own.state.layout_needed own.state.measure_first _ there in
    record {
      forced = quiet.0;
      needed = quiet.1;
      marked = quiet.2;
      bounds = ap (λ (h : Held). h.state.bounds) (moved_is own own rect false quiet.3 refl);
    }
  where
    none_of : (forced needed marked lies : Bool) → (not ((forced || needed) || marked) && lies) ≡ true → (forced ≡ false) × (needed ≡ false) × (marked ≡ false) × (lies ≡ true)
    none_of true needed marked lies e = let no : false ≡ true = e in absurd (cc)
    none_of false true marked lies e = let no : false ≡ true = e in absurd (cc)
    none_of false false true lies e = let no : false ≡ true = e in absurd (cc)
    none_of false false false lies e = (refl, refl, refl, e)
