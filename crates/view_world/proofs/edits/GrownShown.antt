-- Views that are added have no bounds, so no picture shows them.
use Rattle.std.proofs.Common.{◌≡◌, ℕ, suc, ◌+◌, ◌≤◌, ℤ, pos, List, Option, None, Some, refl, sym, ◌∙◌, ap, arith, inl, inr}
use Rattle.std.specs.Prelude.{◌==◌}
use Rattle.std.specs.Option.{option_map}
use Rattle.std.proofs.lemmas.Bool.{cases_Bool}
use mathlib.Core.Path.{fun_ext}
use Rattle.geom_core.specs.declared.color.Argb.{Argb}
use Rattle.geom_core.specs.Numbers.{unpainted}
use Rattle.geom_core.specs.declared.geometry.Rect.{Rect}
use Rattle.geom_core.specs.declared.geometry.Size.{Size}
use Rattle.pixel_raster.specs.Raster.{Raster}
use Rattle.seen_edits.specs.Shown.{KeepsShown, Shows}
use Rattle.view_model.specs.Forest.{Forest, Nothing, Branch, EveryRow, count_of, joined}
use Rattle.view_model.specs.Geometry.{Laid, rect_in}
use Rattle.view_model.specs.Growth.{grown_at}
use Rattle.view_model.specs.Painting.{Painter, drawn_in, painted, pixel_color, placed_by}
use Rattle.view_model.specs.PlainTree.{PlainView, grown}
use Rattle.view_model.specs.Sprouts.{Seed, numbered}
use Rattle.view_tree.proofs.values.GeometryLaws.{find-laid_absent}
use Rattle.view_tree.specs.Views.{IsTree, Views, geometry_of, held_of, plain_of}

-- none of these views has bounds
abbrev pub AreNowhere : List Laid → Forest PlainView → Type 0
AreNowhere geometry list = EveryRow (λ (view : PlainView). rect_in geometry view.number ≡ None) list

same_painter : (one other : Painter) → ((x y : ℤ) (u : Argb) → one x y u ≡ other x y u) → one ≡ other
same_painter one other same = fun_ext (λ x. fun_ext (λ y. fun_ext (same x y)))

painted_nowhere : (geometry : List Laid) (list : Forest PlainView) → AreNowhere geometry list → (x y : ℤ) (u : Argb) → painted (placed_by geometry list) x y u ≡ u
painted_nowhere geometry Nothing none x y u = refl
painted_nowhere geometry (Branch view below after) none x y u = rw none.0 (painted_nowhere geometry after none.2 x y u)

painted_joined : (geometry : List Laid) (list more : Forest PlainView) → AreNowhere geometry more → (x y : ℤ) (u : Argb)
    → painted (placed_by geometry (joined list more)) x y u ≡ painted (placed_by geometry list) x y u
painted_joined geometry Nothing more none x y u = painted_nowhere geometry more none x y u
painted_joined geometry (Branch view below after) more none x y u =
    painted_joined geometry after more none x y (drawn_in (rect_in geometry view.number) view (painted (placed_by geometry below)) x y u)

painted_grown : (geometry : List Laid) (parent : ℕ) (more tree : Forest PlainView) → AreNowhere geometry more → (x y : ℤ) (u : Argb)
    → painted (placed_by geometry (grown parent more tree)) x y u ≡ painted (placed_by geometry tree) x y u
painted_grown geometry parent more Nothing none x y u = refl
painted_grown geometry parent more (Branch view below after) none x y u = elim (cases_Bool (view.number == parent)) [
  | inl e ↦ rw e (
      ap (λ (kids : Painter). painted (placed_by geometry after) x y (drawn_in (rect_in geometry view.number) view kids x y u))
      (same_painter (painted (placed_by geometry (joined below more))) (painted (placed_by geometry below)) (painted_joined geometry below more none))
      )
  | inr e ↦ rw e (
      ap (λ (kids : Painter). painted (placed_by geometry (grown parent more after)) x y (drawn_in (rect_in geometry view.number) view kids x y u))
      (same_painter (painted (placed_by geometry (grown parent more below))) (painted (placed_by geometry below)) (painted_grown geometry parent more below none))
      ∙ painted_grown geometry parent more after none x y (drawn_in (rect_in geometry view.number) view (painted (placed_by geometry below)) x y u)
      )
]

color_grown : (geometry : List Laid) (place : Option ℕ) (more tree : Forest PlainView) → AreNowhere geometry more → (place ≡ None → tree ≡ Nothing) → (x y : ℤ)
    → pixel_color geometry (grown_at place more tree) x y ≡ pixel_color geometry tree x y
color_grown geometry None more tree none root x y = painted_nowhere geometry more none x y unpainted ∙ ap (λ (tree : Forest PlainView). pixel_color geometry tree x y) (sym (root refl))
color_grown geometry (Some parent) more tree none root x y = painted_grown geometry parent more tree none x y unpainted

-- the same views with the bounds that they had are shown as before
pub shows_alike : (picture : Raster) (damage : Rect) (old new : Views) → plain_of new ≡ plain_of old → geometry_of new ≡ geometry_of old → Shows picture damage old → Shows picture damage new
shows_alike picture damage old new plain geometry shows x y column row out =
    shows x y column row out
    ∙ ap (λ (list : List Laid). pixel_color list (plain_of old) (pos x) (pos y)) (sym geometry)
    ∙ ap (λ (tree : Forest PlainView). pixel_color (geometry_of new) tree (pos x) (pos y)) (sym plain)

-- views were added that have no bounds
pub shown_come : (window : Size) (damage : Rect) (old new : Views) (place : Option ℕ) (more : Forest PlainView) → AreNowhere (geometry_of old) more → (place ≡ None → plain_of old ≡ Nothing)
    → plain_of new ≡ grown_at place more (plain_of old) → geometry_of new ≡ geometry_of old → KeepsShown window damage damage old new
shown_come window damage old new place more none root plain geometry = record {
  grew = λ x y h. h;
  colors = λ x y inside out.
      ap (λ (list : List Laid). pixel_color list (plain_of new) x y) geometry
      ∙ ap (λ (tree : Forest PlainView). pixel_color (geometry_of old) tree x y) plain
      ∙ color_grown (geometry_of old) place more (plain_of old) none root x y;
}

-- no view of the next number has bounds, nor one of a later number
pub nowhere_next : (views : Views) (number : ℕ) → IsTree views → views.next ≤ number → rect_in (geometry_of views) number ≡ None
nowhere_next views number is later = ap (option_map (λ (laid : Laid). laid.rect)) (find-laid_absent (held_of views) number views.tree (is.earlier number later))

pub nowhere_numbered : (views : Views) (number : ℕ) (seeds : Forest Seed) → IsTree views → views.next ≤ number → AreNowhere (geometry_of views) (numbered number seeds)
nowhere_numbered views number Nothing is later = tt
nowhere_numbered views number (Branch seed below after) is later = (
  nowhere_next views number is later,
  nowhere_numbered views (suc number) below is (omega arith),
  nowhere_numbered views (suc number + count_of below) after is (omega arith),
)
