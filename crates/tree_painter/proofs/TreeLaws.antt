-- What the views of a tree paint, and what a whole tree does.
use Rattle.std.proofs.Common.{◌≡◌, ℕ, ◌+◌, ◌*◌, ◌<◌, ◌≤◌, ℤ, pos, ◌-ℤ◌, Bool, true, false, if◌then◌else◌, refl, sym, ap, ◌∙◌, arith}
use Rattle.std.proofs.lemmas.Int.{ints}
use Rattle.geom_core.specs.Color.{alpha_of, blend_of}
use Rattle.geom_core.specs.Rects.{holds}
use Rattle.geom_core.specs.declared.color.Argb.{Argb}
use Rattle.geom_core.specs.Numbers.{unpainted}
use Rattle.geom_core.specs.declared.geometry.Rect.{Rect}
use Rattle.geom_core.proofs.ColorLaws.{blend_of-covering}
use Rattle.pixel_raster.specs.Raster.{Fills, Raster, color_at}
use Rattle.view_model.specs.Forest.{Forest, Nothing, Branch, count_of}
use Rattle.view_model.specs.Painting.{Painter, drawn_in, painted, pixel_color, placed_by}
use Rattle.view_model.specs.declared.work.Work.{Work}
use Rattle.view_tree.specs.Rows.{Row, children_of_first, count_of_key, first_tree, later_siblings, part_from}
use Rattle.view_tree.specs.Views.{Held, IsLive, IsTree, Views, geometry_of, held_of, plain_of, state_of, view_at}
use Rattle.view_tree.proofs.forest.KeyLaws.{located}
use Rattle.seen_parts.specs.declared.frame.Canvas.{Canvas}
use Rattle.seen_parts.proofs.PlacedLaws.{placed_is}
use Rattle.seen_parts.specs.Meeting.{placed_rows}
use Rattle.tree_painter.specs.Painted.{IsCounted, IsPainted, PaintedIn, from_origin, share_of}
use Rattle.tree_painter.proofs.AreaLaws.{counted_none, counted_then}
use Rattle.tree_painter.proofs.PainterLaws.{painted_by}

-- a view, and then its later siblings
pub painted_parts : (held : ℕ → Held) (list : Forest Row) (x y : ℤ) (u : Argb)
    → painted (placed_rows held list) x y u ≡ painted (placed_rows held (later_siblings list)) x y (painted (placed_rows held (first_tree list)) x y u)
painted_parts held Nothing x y u = refl
painted_parts held (Branch row kids siblings) x y u = refl

pub share_parts : (area : ℕ) (list : Forest Row) → share_of area (first_tree list) + share_of area (later_siblings list) ≤ share_of area list
share_parts area Nothing = omega arith
share_parts area (Branch row kids siblings) = omega arith

share_grows : (a b : ℕ) (list : Forest Row) → a ≤ b → share_of a list ≤ share_of b list
share_grows a b Nothing le = omega arith
share_grows a b (Branch row kids siblings) le =
    let x = share_grows a b kids le in
    let y = share_grows a b siblings le in
    omega arith

share_is : (area : ℕ) (list : Forest Row) → share_of area list ≡ 2 * count_of list * area
share_is area Nothing = omega arith
share_is area (Branch row kids siblings) =
    let x = share_is area kids in
    let y = share_is area siblings in
    omega arith

pub share_of_all : (area : ℕ) (list : Forest Row) → area + share_of area list ≤ (2 * count_of list + 1) * area
share_of_all area list = let e = share_is area list in omega arith

-- a view paints itself, and then its children
view_painted : (views : Views) (view : ℕ) → IsLive views view → (x y : ℤ) (u : Argb)
    → painted (placed_rows (held_of views) (first_tree (part_from view views.tree))) x y u
    ≡ drawn_in (state_of views view).bounds (view_at views view) (painted (placed_rows (held_of views) (children_of_first (part_from view views.tree)))) x y u
view_painted views view live x y u =
    let f = located view views.tree live in
    rw (f.is, f.key_is) refl

module _ (views : Views) (view : ℕ) (live : IsLive views view) (canvas : Canvas) where
  abbrev pub Own : Raster → Raster → Type 0
  Own old new = PaintedIn canvas (painted (placed_rows (held_of views) (first_tree (part_from view views.tree)))) old new

  abbrev pub children_painter : Painter
  children_painter = painted (placed_rows (held_of views) (children_of_first (part_from view views.tree)))

  pub own_drawn : (old new : Raster) → PaintedIn canvas (drawn_in (state_of views view).bounds (view_at views view) children_painter) old new → Own old new
  own_drawn old new h = painted_by _ _ canvas.clip old new (λ x y u. view_painted views view live (x -ℤ canvas.left) (y -ℤ canvas.top) u) h

-- the count of a view, and of its children in a narrower canvas
pub counted_children : (tree : Forest Row) (view area inner : ℕ) (a b c : Raster) (u v w : Work) → 0 < count_of_key view tree → inner ≤ area → IsCounted (area + area) a b u v
    → IsCounted (share_of inner (children_of_first (part_from view tree))) b c v w → IsCounted (share_of area (first_tree (part_from view tree))) a c u w
counted_children tree view area inner a b c u v w live le own children =
    let f = located view tree live in
    let grows = share_grows inner area f.kids le in
    let below : IsCounted (share_of inner f.kids) b c v w = rw f.is at children in
    rw f.is (counted_then (area + area) (share_of inner f.kids) (area + area + (share_of area f.kids + 0)) a b c u v w (omega arith) own below)

pub counted_own : (tree : Forest Row) (view area : ℕ) (a b : Raster) (u v : Work) → 0 < count_of_key view tree → IsCounted (area + area) a b u v
    → IsCounted (share_of area (first_tree (part_from view tree))) a b u v
counted_own tree view area a b u v live own =
    let f = located view tree live in
    rw f.is (counted_then (area + area) 0 (area + area + (share_of area f.kids + 0)) a b b u v v (omega arith) own (counted_none 0 b v))

black_covers : (u : Argb) → blend_of unpainted u ≡ unpainted
unfolding alpha_of
black_covers u = blend_of-covering unpainted u refl

-- over black
module _ (views : Views) (damage : Rect) (old mid : Raster) (is : IsTree views) (cleared : Fills damage unpainted old mid) where
  abbrev pub Whole : Raster → Type 0
  Whole new = IsPainted (λ (x y : ℤ) (u : Argb). pixel_color (geometry_of views) (plain_of views) x y) damage old new

  over_black : (t : Bool) (paint : Argb → Argb) (old mid new : Argb) → mid ≡ (if t then blend_of unpainted old else old) → new ≡ (if t then paint mid else mid)
      → new ≡ (if t then paint unpainted else old)
  over_black true paint old mid new m e = e ∙ ap paint (m ∙ black_covers old)
  over_black false paint old mid new m e = e ∙ m

  pub whole_none : views.tree ≡ Nothing → Whole mid
  whole_none none = record {
    width = cleared.width;
    height = cleared.height;
    colors = λ x y xw yh.
        let empty : pixel_color (geometry_of views) (plain_of views) (pos x) (pos y) ≡ unpainted = rw none refl in
        cleared.colors x y xw yh ∙ ap (λ (v : Argb). if holds damage (pos x) (pos y) then v else color_at old x y) (black_covers (color_at old x y) ∙ sym empty);
  }

  no_shift : (x : ℤ) → x -ℤ pos 0 ≡ x
  no_shift x = omega (arith, ints)

  pub whole_some : (new : Raster) (root : ℕ) → first_tree (part_from root views.tree) ≡ views.tree
      → IsPainted (from_origin (pos 0) (pos 0) (painted (placed_rows (held_of views) (first_tree (part_from root views.tree))))) damage mid new → Whole new
  whole_some new root same h = record {
    width = h.width ∙ cleared.width;
    height = h.height ∙ cleared.height;
    colors = λ x y xw yh.
        let all : painted (placed_rows (held_of views) (first_tree (part_from root views.tree))) (pos x -ℤ pos 0) (pos y -ℤ pos 0) (color_at mid x y)
        ≡ painted (placed_by (geometry_of views) (plain_of views)) (pos x) (pos y) (color_at mid x y) =
        rw (same, no_shift (pos x), no_shift (pos y), placed_is views is) refl in
        over_black (holds damage (pos x) (pos y)) (λ (v : Argb). painted (placed_by (geometry_of views) (plain_of views)) (pos x) (pos y) v)
        (color_at old x y) (color_at mid x y) (color_at new x y) (cleared.colors x y xw yh)
        (h.colors x y (rw cleared.width xw) (rw cleared.height yh) ∙ ap (λ (v : Argb). if holds damage (pos x) (pos y) then v else color_at mid x y) all);
  }
