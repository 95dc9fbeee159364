-- The colour of a point is that of the views that are seen there.
use Rattle.std.proofs.Common.{◌≡◌, List, ℤ, pos, ◌-ℤ◌, ◌+ℤ◌, Bool, true, false, Option, Some, None, refl, sym, ap, ◌∙◌, arith}
use Rattle.std.specs.Prelude.{◌&&◌, ◌||◌, not, int_lt, if◌then◌else◌}
use Rattle.std.proofs.lemmas.Int.{ints}
use Rattle.damage_rect.proofs.RectLaws.{and_true, empty_none, meet_holds}
use Rattle.geom_core.specs.Rects.{empty_rect, holds, meet_of}
use Rattle.geom_core.specs.declared.color.Argb.{Argb}
use Rattle.geom_core.specs.declared.color.TheConstants.{BLACK}
use Rattle.geom_core.specs.declared.geometry.Size.{Size}
use Rattle.geom_core.specs.declared.geometry.Rect.{Rect}
use Rattle.view_model.specs.declared.facts.Facts.{Facts}
use Rattle.view_model.specs.Forest.{Forest, Nothing, Branch}
use Rattle.view_model.specs.Geometry.{Laid, rect_at, size_of_rect}
use Rattle.view_model.specs.Painting.{Painter, PlacedView, drawn_in, inner_rect, is_drawn, painted, pixel_color, placed_by, reaches_children}
use Rattle.view_model.specs.PlainTree.{PlainView}
use Rattle.view_model.specs.Visible.{Canvas, canvas_below, moved_rect, seen_in, whole_window}
use Rattle.seen_parts.specs.Meeting.{met_at}

nothing_more : (n : ℤ) → pos 0 +ℤ n ≡ n
nothing_more n = omega (arith, ints)

-- what lies at the origin of a window and is as large is all of it
pub whole_is : (window : Size) → rect_at (pos 0) (pos 0) window ≡ (whole_window window).clip
whole_is window = rw (nothing_more window.w, nothing_more window.h) refl

lt_moved : (x by edge : ℤ) → int_lt x (edge +ℤ by) ≡ int_lt (x -ℤ by) edge
lt_moved x by edge = grind (arith, ints)

-- a rectangle that was moved, and a point that was moved the other way
pub moved_holds : (rect : Rect) (left top x y : ℤ) → holds (moved_rect rect left top) x y ≡ holds rect (x -ℤ left) (y -ℤ top)
moved_holds rect left top x y = rw (lt_moved x left rect.left, lt_moved x left rect.right, lt_moved y top rect.top, lt_moved y top rect.bottom) refl

if_same : (t : Bool) (a b c : Argb) → (t ≡ true → a ≡ b) → (if t then a else c) ≡ (if t then b else c)
if_same true a b c same = same refl
if_same false a b c same = refl

-- where a rectangle of a canvas is seen
pub seen_holds : (rect : Rect) (canvas : Canvas) (x y : ℤ)
    → holds (seen_in (Some rect) canvas) x y ≡ (holds rect (x -ℤ canvas.left) (y -ℤ canvas.top) && holds canvas.clip x y)
seen_holds rect canvas x y =
    meet_holds (moved_rect rect canvas.left canvas.top) canvas.clip x y
    ∙ ap (λ (t : Bool). t && holds canvas.clip x y) (moved_holds rect canvas.left canvas.top x y)

pub nowhere_unseen : (canvas : Canvas) (x y : ℤ) → holds (seen_in None canvas) x y ≡ false
nowhere_unseen canvas x y = empty_none empty_rect x y refl

shifted_across : (x left canvas : ℤ) → x -ℤ (left +ℤ canvas) ≡ (x -ℤ canvas) -ℤ left
shifted_across x left canvas = omega (arith, ints)

shifted_down : (y top canvas offset : ℤ) → y -ℤ ((top +ℤ canvas) -ℤ offset) ≡ ((y -ℤ canvas) -ℤ top) +ℤ offset
shifted_down y top canvas offset = omega (arith, ints)

-- children are seen where their group is and reaches them
clip_reached : (rect own : Rect) (facts : Facts) (left top x y : ℤ) (clip : Bool) → (not clip || holds (inner_rect facts (size_of_rect rect)) (x -ℤ left) (y -ℤ top)) ≡ true → holds own x y ≡ true
    → holds (if clip then meet_of (moved_rect (inner_rect facts (size_of_rect rect)) left top) own else own) x y ≡ true
clip_reached rect own facts left top x y true reached seen =
    meet_holds (moved_rect (inner_rect facts (size_of_rect rect)) left top) own x y
    ∙ and_true _ _ (moved_holds (inner_rect facts (size_of_rect rect)) left top x y ∙ reached) seen
clip_reached rect own facts left top x y false reached seen = seen

module _ (view : PlainView) (rect : Rect) (canvas : Canvas) (x y : ℤ) where
  abbrev below_canvas : Canvas
  below_canvas = canvas_below (Some rect) view.facts canvas

  abbrev across : ℤ
  across = (x -ℤ canvas.left) -ℤ rect.left

  abbrev down : ℤ
  down = (y -ℤ canvas.top) -ℤ rect.top

  reached : holds (seen_in (Some rect) canvas) x y ≡ true → reaches_children view.facts (size_of_rect rect) across down ≡ true → holds below_canvas.clip x y ≡ true
  reached seen reaches =
      clip_reached rect (seen_in (Some rect) canvas) view.facts (rect.left +ℤ canvas.left) (rect.top +ℤ canvas.top) x y view.facts.clip
      (ap (λ (t : Bool). not view.facts.clip || t) (ap (λ (a : ℤ). holds (inner_rect view.facts (size_of_rect rect)) a (y -ℤ (rect.top +ℤ canvas.top))) (shifted_across x rect.left canvas.left)
      ∙ ap (λ (d : ℤ). holds (inner_rect view.facts (size_of_rect rect)) across d) (shifted_across y rect.top canvas.top)) ∙ reaches) seen

  -- a view that is seen paints the same with children that paint the same
  pub drawn_alike : (one other : Painter) (u : Argb) → holds (seen_in (Some rect) canvas) x y ≡ true
      → (holds below_canvas.clip x y ≡ true → (v : Argb) → one (x -ℤ below_canvas.left) (y -ℤ below_canvas.top) v ≡ other (x -ℤ below_canvas.left) (y -ℤ below_canvas.top) v)
      → drawn_in (Some rect) view one (x -ℤ canvas.left) (y -ℤ canvas.top) u ≡ drawn_in (Some rect) view other (x -ℤ canvas.left) (y -ℤ canvas.top) u
  drawn_alike one other u seen same =
      if_same (is_drawn view.facts.visibility && holds rect (x -ℤ canvas.left) (y -ℤ canvas.top)) _ _ u λ drawn.
      if_same (reaches_children view.facts (size_of_rect rect) across down) _ _ _ λ reaches.
      at_children (reached seen reaches)
    where
      at_children : holds below_canvas.clip x y ≡ true → {v : Argb} → one across (down +ℤ view.facts.offset) v ≡ other across (down +ℤ view.facts.offset) v
      at_children clip {v} = rw (← shifted_across x rect.left canvas.left, ← shifted_down y rect.top canvas.top view.facts.offset) (same clip v)

-- one that is not seen paints nothing
pub drawn_unseen : (bounds : Option Rect) (view : PlainView) (children : Painter) (canvas : Canvas) (x y : ℤ) (u : Argb) → holds canvas.clip x y ≡ true
    → holds (seen_in bounds canvas) x y ≡ false → drawn_in bounds view children (x -ℤ canvas.left) (y -ℤ canvas.top) u ≡ u
drawn_unseen None view children canvas x y u clip unseen = refl
drawn_unseen (Some rect) view children canvas x y u clip unseen =
    nothing (is_drawn view.facts.visibility) (holds rect (x -ℤ canvas.left) (y -ℤ canvas.top)) (holds canvas.clip x y) _ clip (sym (seen_holds rect canvas x y) ∙ unseen)
  where
    nothing : (d h c : Bool) (v : Argb) → c ≡ true → (h && c) ≡ false → (if d && h then v else u) ≡ u
    nothing true true true v c e = absurd (cc)
    nothing true true false v c e = absurd (cc)
    nothing true false c' v c e = refl
    nothing false h c' v c e = refl

met_branch : (x y : ℤ) (canvas : Canvas) (it : PlacedView) (below after : Forest PlacedView) (u : Argb) (t : Bool) → holds (seen_in it.bounds canvas) x y ≡ t → holds canvas.clip x y ≡ true
    → ((v : Argb) → painted after (x -ℤ canvas.left) (y -ℤ canvas.top) v ≡ painted (met_at x y canvas after) (x -ℤ canvas.left) (y -ℤ canvas.top) v)
    → (holds (canvas_below it.bounds it.view.facts canvas).clip x y ≡ true → (v : Argb)
    → painted below (x -ℤ (canvas_below it.bounds it.view.facts canvas).left) (y -ℤ (canvas_below it.bounds it.view.facts canvas).top) v
    ≡ painted (met_at x y (canvas_below it.bounds it.view.facts canvas) below) (x -ℤ (canvas_below it.bounds it.view.facts canvas).left) (y -ℤ (canvas_below it.bounds it.view.facts canvas).top) v)
    → painted (Branch it below after) (x -ℤ canvas.left) (y -ℤ canvas.top) u
    ≡ painted (if t then Branch it (met_at x y (canvas_below it.bounds it.view.facts canvas) below) (met_at x y canvas after) else met_at x y canvas after) (x -ℤ canvas.left) (y -ℤ canvas.top) u
met_branch x y canvas it below after u true seen clip later children =
    later (drawn_in it.bounds it.view (painted below) (x -ℤ canvas.left) (y -ℤ canvas.top) u)
    ∙ ap (painted (met_at x y canvas after) (x -ℤ canvas.left) (y -ℤ canvas.top)) (alike it.bounds seen children)
  where
    alike : (bounds : Option Rect) → holds (seen_in bounds canvas) x y ≡ true
        → (holds (canvas_below bounds it.view.facts canvas).clip x y ≡ true → (v : Argb)
        → painted below (x -ℤ (canvas_below bounds it.view.facts canvas).left) (y -ℤ (canvas_below bounds it.view.facts canvas).top) v
        ≡ painted (met_at x y (canvas_below it.bounds it.view.facts canvas) below) (x -ℤ (canvas_below bounds it.view.facts canvas).left) (y -ℤ (canvas_below bounds it.view.facts canvas).top) v)
        → drawn_in bounds it.view (painted below) (x -ℤ canvas.left) (y -ℤ canvas.top) u
        ≡ drawn_in bounds it.view (painted (met_at x y (canvas_below it.bounds it.view.facts canvas) below)) (x -ℤ canvas.left) (y -ℤ canvas.top) u
    alike None seen children = refl
    alike (Some rect) seen children =
        drawn_alike it.view rect canvas x y (painted below) (painted (met_at x y (canvas_below it.bounds it.view.facts canvas) below)) u seen children
met_branch x y canvas it below after u false unseen clip later children =
    later (drawn_in it.bounds it.view (painted below) (x -ℤ canvas.left) (y -ℤ canvas.top) u)
    ∙ ap (painted (met_at x y canvas after) (x -ℤ canvas.left) (y -ℤ canvas.top)) (drawn_unseen it.bounds it.view (painted below) canvas x y u clip unseen)

-- the views that are seen at a point paint what all do
pub painted_met : (x y : ℤ) (canvas : Canvas) (list : Forest PlacedView) (u : Argb) → holds canvas.clip x y ≡ true
    → painted list (x -ℤ canvas.left) (y -ℤ canvas.top) u ≡ painted (met_at x y canvas list) (x -ℤ canvas.left) (y -ℤ canvas.top) u
painted_met x y canvas Nothing u clip = refl
painted_met x y canvas (Branch it below after) u clip =
    met_branch x y canvas it below after u (holds (seen_in it.bounds canvas) x y) refl clip
    (λ v. painted_met x y canvas after v clip)
    (λ reached v. painted_met x y (canvas_below it.bounds it.view.facts canvas) below v reached)

clip_both : (s t : Bool) → s ≡ false → (t && s) ≡ false
clip_both s true e = e
clip_both s false e = refl

pub outside_unseen : (bounds : Option Rect) (canvas : Canvas) (x y : ℤ) → holds canvas.clip x y ≡ false → holds (seen_in bounds canvas) x y ≡ false
outside_unseen None canvas x y out = nowhere_unseen canvas x y
outside_unseen (Some rect) canvas x y out = seen_holds rect canvas x y ∙ clip_both (holds canvas.clip x y) (holds rect (x -ℤ canvas.left) (y -ℤ canvas.top)) out

-- outside of a canvas nothing is seen
pub met_none : (x y : ℤ) (canvas : Canvas) (list : Forest PlacedView) → holds canvas.clip x y ≡ false → met_at x y canvas list ≡ Nothing
met_none x y canvas Nothing out = refl
met_none x y canvas (Branch it below after) out = rw (outside_unseen it.bounds canvas x y out) (met_none x y canvas after out)

no_shift : (x : ℤ) → x -ℤ pos 0 ≡ x
no_shift x = omega (arith, ints)

-- where the same views are seen, the colour is the same
pub same_color : (window : Size) (one other : List Laid) (tree forest : Forest PlainView) (x y : ℤ) → holds (whole_window window).clip x y ≡ true
    → met_at x y (whole_window window) (placed_by one tree) ≡ met_at x y (whole_window window) (placed_by other forest)
    → pixel_color one tree x y ≡ pixel_color other forest x y
same_color window one other tree forest x y inside same =
    let first = painted_met x y (whole_window window) (placed_by one tree) BLACK inside in
    let second = painted_met x y (whole_window window) (placed_by other forest) BLACK inside in
    rw (no_shift x, no_shift y) at (first ∙ ap (λ (list : Forest PlacedView). painted list (x -ℤ pos 0) (y -ℤ pos 0) BLACK) same ∙ sym second)
