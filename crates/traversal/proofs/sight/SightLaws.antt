-- What is seen of a tree while a frame lays it out.
use Rattle.std.proofs.Common.{◌≡◌, ◌≤◌, ℕ, ℤ, true, false, refl, sym, ap, ◌∙◌, subst, pos}
use Rattle.geom_core.specs.Rects.{holds}
use Rattle.geom_core.specs.declared.geometry.Rect.{Rect}
use Rattle.geom_core.specs.declared.geometry.Size.{Size}
use Rattle.damage_rect.specs.Within.{LiesIn}
use Rattle.seen_parts.proofs.MeetingLaws.{same_color, whole_is}
use Rattle.seen_parts.proofs.PlacedLaws.{placed_is}
use Rattle.seen_parts.specs.Meeting.{KeepsSight, as_seen, met_at, placed_rows, seen_at}
use Rattle.seen_parts.specs.declared.frame.Canvas.{Canvas as FramedCanvas}
use Rattle.view_model.specs.Forest.{Forest}
use Rattle.view_model.specs.Geometry.{rect_at}
use Rattle.view_model.specs.Painting.{pixel_color}
use Rattle.view_model.specs.Visible.{Canvas, whole_window}
use Rattle.view_tree.specs.Rows.{Row, count_of_key}
use Rattle.view_tree.specs.Views.{Held, IsTree, SameTree, Views, geometry_of, held_of, plain_of}
use Rattle.view_tree.proofs.values.KeptLaws.{is_tree-same}
use Rattle.traversal.specs.Covering.{Covered, HasShifted}
use Rattle.traversal.proofs.sight.CoverLaws.{SamePlaces, covered_by, covered_same, placed_same}

-- a whole tree was measured, and then its root was laid
pub sight_whole : (window : Size) (canvas : FramedCanvas) (damage : Rect) (old mid new : ℕ → Held) (tree part : Forest Row) → as_seen canvas ≡ whole_window window → part ≡ tree
    → SamePlaces old mid tree → KeepsSight (as_seen canvas) damage mid new part → KeepsSight (whole_window window) damage old new tree
sight_whole window canvas damage old mid new tree part is whole same sight x y out =
    subst (λ (c : Canvas). met_at x y c (placed_rows new tree) ≡ met_at x y c (placed_rows old tree)) is
    (subst (λ (list : Forest Row). met_at x y (as_seen canvas) (placed_rows new list) ≡ met_at x y (as_seen canvas) (placed_rows mid list)) whole (sight x y out)
    ∙ ap (met_at x y (as_seen canvas)) (placed_same old mid tree same))

pub within_whole : (window : Size) (canvas : FramedCanvas) (less damage : Rect) (old mid new : ℕ → Held) (tree part : Forest Row) → as_seen canvas ≡ whole_window window → part ≡ tree
    → SamePlaces old mid tree → ((box : Rect) → LiesIn less box → Covered (as_seen canvas) box mid new part → LiesIn damage box)
    → (box : Rect) → LiesIn less box → Covered (whole_window window) box old new tree → LiesIn damage box
within_whole window canvas less damage old mid new tree part is whole same within box lies covered =
    within box lies (subst (λ (list : Forest Row). Covered (as_seen canvas) box mid new list) (sym whole)
    (subst (λ (c : Canvas). Covered c box mid new tree) (sym is) (covered_same (whole_window window) box old mid new new tree same (λ key here. (refl, refl)) covered)))

-- the colours of a tree of which the same is seen
pub color_stays : (old new : Views) (window : Size) (damage : Rect) → SameTree old new → IsTree new → KeepsSight (whole_window window) damage (held_of old) (held_of new) old.tree
    → (x y : ℤ) → holds (rect_at (pos 0) (pos 0) window) x y ≡ true → holds damage x y ≡ false
    → pixel_color (geometry_of new) (plain_of new) x y ≡ pixel_color (geometry_of old) (plain_of old) x y
color_stays old new window damage same is sight x y inside out =
    let was : IsTree old = is_tree-same new old is (sym same.tree) (sym same.next) in
    same_color window (geometry_of new) (geometry_of old) (plain_of new) (plain_of old) x y (ap (λ (rect : Rect). holds rect x y) (sym (whole_is window)) ∙ inside)
    (ap (met_at x y (whole_window window)) (placed_is new is ∙ ap (placed_rows (held_of new)) same.tree)
    ∙ sight x y out
    ∙ ap (met_at x y (whole_window window)) (sym (placed_is old was)))

-- a box that has what is seen of the views of a tree that are shifted covers them
pub covered_tree : (old new : Views) (window : Size) (box : Rect) → SameTree old new → IsTree new → HasShifted window box old new
    → Covered (whole_window window) box (held_of old) (held_of new) old.tree
covered_tree old new window box same is around =
    let keys : (key : ℕ) → count_of_key key old.tree ≤ 1 = subst (λ (tree : Forest Row). (key : ℕ) → count_of_key key tree ≤ 1) same.tree is.keys in
    covered_by (whole_window window) box (held_of old) (held_of new) old.tree keys
    (λ key live shifted. let seen = around key live shifted in
    (seen.0, subst (λ (tree : Forest Row). LiesIn (seen_at (held_of new) (whole_window window) key tree) box) same.tree seen.1))
