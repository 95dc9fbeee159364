-- What a picture shows while views change.
use Rattle.std.proofs.Common.{◌≡◌, ◌≢◌, mul-le-mul, ℕ, ◌-◌, ◌*◌, ◌<◌, ◌≤◌, ℤ, pos, Bool, true, false, refl, sym, ap, ◌∙◌, subst, arith}
use Rattle.std.specs.Prelude.{◌==◌, if◌then◌else◌, chars}
use Rattle.std.proofs.lemmas.Bool.{eq-eqb, ne_eqb}
use Rattle.std.proofs.lemmas.Int.{ints}
use Rattle.damage_rect.specs.Within.{LiesIn}
use Rattle.damage_rect.proofs.RectLaws.{hull_least, is_between, outside, outside_first, outside_second}
use Rattle.geom_core.specs.Rects.{holds, hull_of}
use Rattle.geom_core.specs.declared.geometry.Rect.{Rect}
use Rattle.geom_core.specs.declared.geometry.Size.{Size}
use Rattle.pixel_raster.proofs.PictureLaws.{pixels-picture}
use Rattle.pixel_raster.specs.Cuts.{area_within, cut_of, edge_within, from_zero}
use Rattle.pixel_raster.specs.Raster.{IsRaster, Raster, color_at, size_of}
use Rattle.seen_edits.proofs.AroundLaws.{seen_less}
use Rattle.seen_edits.proofs.BesideLaws.{cut_spread}
use Rattle.seen_edits.proofs.StillLaws.{AreStill, IsStill, met_beside, placed_still}
use Rattle.seen_parts.proofs.PlacedLaws.{placed_is}
use Rattle.seen_edits.specs.Shown.{GrowsWithin, IsChange, KeepsShown, Shows, edited, seen_of}
use Rattle.seen_parts.proofs.ChangeLaws.{cut_changed, met_cut}
use Rattle.seen_parts.proofs.MeetingLaws.{same_color, whole_is}
use Rattle.seen_parts.specs.Meeting.{met_at, placed_rows}
use Rattle.tree_edits.proofs.SpreadLaws.{count_of_key-spread}
use Rattle.tree_edits.proofs.UnaskedLaws.{stays_bounds, stays_offset}
use Rattle.tree_edits.specs.Applied.{IsEdit}
use Rattle.tree_edits.specs.Asking.{acted_view, goes_out, is_in_part}
use Rattle.tree_edits.specs.Editing.{hides}
use Rattle.tree_edits.specs.Hiding.{gone_one, held_hiding}
use Rattle.tree_edits.specs.Keeping.{KeepsViews, held_edited}
use Rattle.tree_edits.specs.declared.edits.Edit.{Edit}
use Rattle.tree_edits.specs.declared.edits.Edit.TheVariants as edit
use Rattle.tree_painter.specs.Painted.{IsPainted}
use Rattle.view_model.specs.Forest.{Forest}
use Rattle.view_model.specs.Geometry.{rect_at}
use Rattle.view_model.specs.Painting.{pixel_color, picture}
use Rattle.view_model.specs.Visible.{whole_window}
use Rattle.view_tree.specs.Rows.{Row, changed_at_key, count_of_key, first_tree, part_from, pruned_at_key}
use Rattle.view_tree.specs.Views.{IsLive, IsTree, Views, geometry_of, held_of, plain_of}
use Rattle.view_tree.proofs.forest.NumberLaws.{count_of_key-cut_le, count_of_key-own_cut, count_of_key-pruned_at_key, count_of_key-put}

-- the points of one rectangle
pub points : {one other : Rect} → one ≡ other → (x y : ℤ) → holds one x y ≡ holds other x y
points same x y = ap (λ (rect : Rect). holds rect x y) same

-- where the same is seen of two trees
pub colors_same : (window : Size) (old new : Views) (x y : ℤ) → IsTree old → IsTree new → holds (rect_at (pos 0) (pos 0) window) x y ≡ true
    → met_at x y (whole_window window) (placed_rows (held_of new) new.tree) ≡ met_at x y (whole_window window) (placed_rows (held_of old) old.tree)
    → pixel_color (geometry_of new) (plain_of new) x y ≡ pixel_color (geometry_of old) (plain_of old) x y
colors_same window old new x y was is inside same =
    same_color window (geometry_of new) (geometry_of old) (plain_of new) (plain_of old) x y (ap (λ (rect : Rect). holds rect x y) (sym (whole_is window)) ∙ inside)
    (ap (met_at x y (whole_window window)) (placed_is new is) ∙ same ∙ ap (met_at x y (whole_window window)) (sym (placed_is old was)))

-- nothing has changed
pub shown_same : (window : Size) (damage : Rect) (views new : Views) → new ≡ views → KeepsShown window damage damage views new
shown_same window damage views new same = record {
  grew = λ x y h. h;
  colors = λ x y inside out. rw same refl;
}

-- what an edit leaves besides its view
cut_after : (old new : Views) (e : Edit) → IsChange e → IsTree old → KeepsViews old new e → pruned_at_key (edited e) new.tree ≡ pruned_at_key (edited e) old.tree
cut_after old new (edit.Add parent class width height) is was keeps = absurd is
cut_after old new (edit.Remove view) is was keeps = absurd is
cut_after old new (edit.Act view act) is was keeps = ap (pruned_at_key view) keeps.tree ∙ cut_spread view act (acted_view act) old.tree was.directed
cut_after old new (edit.Text view text) is was keeps = ap (pruned_at_key view) keeps.tree ∙ cut_changed view (λ v. record v { text = chars text.now }) old.tree

pub live_after : (old new : Views) (e : Edit) → IsChange e → KeepsViews old new e → (key : ℕ) → IsLive old key → IsLive new key
live_after old new (edit.Add parent class width height) is keeps key live = absurd is
live_after old new (edit.Remove view) is keeps key live = absurd is
live_after old new (edit.Act view act) is keeps key live =
    let c = count_of_key-spread key act (changed_at_key view (acted_view act) old.tree) ∙ count_of_key-put key view (acted_view act) old.tree in
    subst (λ (tree : Forest Row). 0 < count_of_key key tree) (sym keeps.tree) (omega (arith, c, live))
live_after old new (edit.Text view text) is keeps key live = let c = count_of_key-put key view (λ v. record v { text = chars text.now }) old.tree in subst (λ (tree : Forest Row). 0 < count_of_key key tree) (sym keeps.tree) (omega (arith, c, live))

-- an edit takes no view out of layout besides its own and those below it
stays_in : (old : Views) (e : Edit) → IsChange e → (key : ℕ) → count_of_key key (first_tree (part_from (edited e) old.tree)) ≡ 0 → goes_out old e key ≡ false
stays_in old (edit.Add parent class width height) is key none = absurd is
stays_in old (edit.Remove view) is key none = absurd is
stays_in old (edit.Act view act) is key none = by (hides act)
  where
    by : (t : Bool) → (if t then is_in_part view old.tree key else false) ≡ false
    by true = rw (eq-eqb (count_of_key key (first_tree (part_from view old.tree))) 0 none) refl
    by false = refl
stays_in old (edit.Text view text) is key none = refl

pub hiding_offset : (goes : Bool) (views : Views) (view key : ℕ) → (held_hiding goes views view key).offset ≡ (held_of views key).offset
hiding_offset false views view key = refl
hiding_offset true views view key = by (count_of_key key (first_tree (part_from view views.tree)) == 0)
  where
    by : (none : Bool) → (if none then held_of views key else gone_one (held_of views key)).offset ≡ (held_of views key).offset
    by true = refl
    by false = refl

-- nor does it scroll one
offset_beside : (old : Views) (e : Edit) → IsChange e → (key : ℕ) → key ≢ edited e → (held_edited old e key).offset ≡ (held_of old key).offset
offset_beside old (edit.Add parent class width height) is key ne = absurd is
offset_beside old (edit.Remove view) is key ne = absurd is
offset_beside old (edit.Act view act) is key ne = rw (ne_eqb key view ne) (hiding_offset (hides act) old view key)
offset_beside old (edit.Text view text) is key ne = refl

still_beside : (old new : Views) (e : Edit) → IsChange e → KeepsViews old new e → (key : ℕ) → IsLive old key → key ≢ edited e → count_of_key key (first_tree (part_from (edited e) old.tree)) ≡ 0
    → IsStill (held_of old key) (held_of new key)
still_beside old new e is keeps key live ne none =
    let now = live_after old new e is keeps key live in
    record {
      bounds = stays_bounds old new e keeps key live now (stays_in old e is key none);
      offset = stays_offset old new e keeps key live now ∙ offset_beside old e is key ne;
    }

-- a view was changed, and what was seen of it is damage
pub shown_changed : (window : Size) (less more : Rect) (old new : Views) (e : Edit) → IsChange e → IsTree old → IsTree new → IsLive old (edited e) → KeepsViews old new e
    → LiesIn less more → LiesIn (seen_of window old (edited e)) more → KeepsShown window less more old new
shown_changed window less more old new e change was is live keeps grew lies = record {
  grew = grew;
  colors = λ x y inside out.
      let before = outside (seen_of window old (edited e)) more lies x y out in
      colors_same window old new x y was is inside
      (met_beside x y (held_of old) (held_of new) (whole_window window) (edited e) old.tree new.tree (was.keys (edited e)) (is.keys (edited e)) before
      (seen_less window old new e change was keeps live (live_after old new e change keeps (edited e) live) beside x y before)
      (cut_after old new e change was keeps) beside);
}
  where
    beside : AreStill (held_of old) (held_of new) (pruned_at_key (edited e) old.tree)
    beside key some =
        let less_ = count_of_key-cut_le key (edited e) old.tree in
        let both = count_of_key-pruned_at_key key (edited e) old.tree (was.keys (edited e)) in
        let once = was.keys key in
        let own = count_of_key-own_cut (edited e) old.tree (was.keys (edited e)) in
        still_beside old new e change keeps key (omega arith) (λ same. absurd (let none = subst (λ (k : ℕ). count_of_key k (pruned_at_key (edited e) old.tree) ≡ 0) (sym same) own in omega arith)) (omega arith)

-- a view was taken away
pub shown_taken : (window : Size) (less more : Rect) (old new : Views) (view : ℕ) → IsTree old → IsTree new → KeepsViews old new (edit.Remove view)
    → LiesIn less more → LiesIn (seen_of window old view) more → KeepsShown window less more old new
shown_taken window less more old new view was is keeps grew lies = record {
  grew = grew;
  colors = λ x y inside out.
      colors_same window old new x y was is inside
      (ap (λ (tree : Forest Row). met_at x y (whole_window window) (placed_rows (held_of new) tree)) keeps.tree
      ∙ ap (met_at x y (whole_window window)) (placed_still (held_of old) (held_of new) (pruned_at_key view old.tree) beside)
      ∙ sym (met_cut x y (held_of old) (whole_window window) view old.tree (was.keys view) (outside (seen_of window old view) more lies x y out)));
}
  where
    beside : AreStill (held_of old) (held_of new) (pruned_at_key view old.tree)
    beside key some =
        let live : IsLive old key = let c = count_of_key-cut_le key view old.tree in omega arith in
        let now : IsLive new key = subst (λ (tree : Forest Row). 0 < count_of_key key tree) (sym keeps.tree) some in
        record {
          bounds = stays_bounds old new (edit.Remove view) keeps key live now refl;
          offset = stays_offset old new (edit.Remove view) keeps key live now;
        }

-- the pixels of a picture are the points of its window
in_picture : (picture : Raster) (x y : ℕ) → x < picture.width → y < picture.height → holds (rect_at (pos 0) (pos 0) (size_of picture)) (pos x) (pos y) ≡ true
in_picture picture x y column row =
    is_between (rect_at (pos 0) (pos 0) (size_of picture)) (pos x) (pos y) (record { left = omega (arith, ints); right = omega (arith, ints); top = omega (arith, ints); bottom = omega (arith, ints) })

-- the picture still shows the tree if nothing was damaged
pub shows_on : (picture : Raster) (less more : Rect) (old new : Views) → Shows picture less old → KeepsShown (size_of picture) less more old new → Shows picture more new
shows_on picture less more old new shows kept x y column row out =
    shows x y column row (outside less more kept.grew (pos x) (pos y) out)
    ∙ sym (kept.colors (pos x) (pos y) (in_picture picture x y column row) out)

-- a picture that was painted shows all
module _ (old new : Raster) (damage : Rect) (views : Views) (shows : Shows old damage views)
    (painted : IsPainted (λ x y under. pixel_color (geometry_of views) (plain_of views) x y) damage old new) where
  painted_point : (x y : ℕ) → x < old.width → y < old.height → color_at new x y ≡ pixel_color (geometry_of views) (plain_of views) (pos x) (pos y)
  painted_point x y column row = painted.colors x y column row ∙ by (holds damage (pos x) (pos y)) refl
    where
      by : (t : Bool) → holds damage (pos x) (pos y) ≡ t
          → (if t then pixel_color (geometry_of views) (plain_of views) (pos x) (pos y) else color_at old x y) ≡ pixel_color (geometry_of views) (plain_of views) (pos x) (pos y)
      by true e = refl
      by false e = shows x y column row e

  pub painted_shows : (none : Rect) → Shows new none views
  painted_shows none x y column row out = painted_point x y (subst (λ (n : ℕ). x < n) painted.width column) (subst (λ (n : ℕ). y < n) painted.height row)

  pub painted_picture : IsRaster new → new.pixels ≡ picture old.width old.height (geometry_of views) (plain_of views)
  painted_picture is =
      pixels-picture new (pixel_color (geometry_of views) (plain_of views)) is
      (λ x y column row. painted_point x y (subst (λ (n : ℕ). x < n) painted.width column) (subst (λ (n : ℕ). y < n) painted.height row))
      ∙ rw (painted.width, painted.height) refl

-- the view of an edit is there
pub live_edited : (views : Views) (e : Edit) → IsChange e → IsEdit views e → IsLive views (edited e)
live_edited views (edit.Add parent class width height) is may = absurd is
live_edited views (edit.Remove view) is may = absurd is
live_edited views (edit.Act view act) is may = may.0
live_edited views (edit.Text view text) is may = may.0

-- where all of the window is damage
pub shows_none : (picture : Raster) (damage : Rect) (views : Views) → LiesIn (rect_at (pos 0) (pos 0) (size_of picture)) damage → Shows picture damage views
shows_none picture damage views all x y column row out =
    absurd (let e : true ≡ false = sym (all (pos x) (pos y) (in_picture picture x y column row)) ∙ out in cc)

-- a frame has settled, and this is its damage
pub shows_framed : (picture : Raster) (less damage more : Rect) (old new : Views) → more ≡ hull_of less damage → Shows picture less old
    → ((x y : ℤ) → holds (rect_at (pos 0) (pos 0) (size_of picture)) x y ≡ true → holds damage x y ≡ false → pixel_color (geometry_of new) (plain_of new) x y ≡ pixel_color (geometry_of old) (plain_of old) x y)
    → Shows picture more new
shows_framed picture less damage more old new is shows colors x y column row out =
    let out : holds (hull_of less damage) (pos x) (pos y) ≡ false = ap (λ (rect : Rect). holds rect (pos x) (pos y)) (sym is) ∙ out in
    shows x y column row (outside_first less damage (pos x) (pos y) out)
    ∙ sym (colors (pos x) (pos y) (in_picture picture x y column row) (outside_second less damage (pos x) (pos y) out))

-- no more is painted than all
side_most : (n : ℕ) (a b : ℤ) → edge_within n b - edge_within n a ≤ n
unfolding edge_within from_zero
side_most n a b = omega arith

pub area_most : (width height : ℕ) (rect : Rect) → area_within width height rect ≤ width * height
unfolding cut_of
area_most width height rect = mul-le-mul (side_most width rect.left rect.right) (side_most height rect.top rect.bottom)

-- damage to which a part of what was seen of a view was added
pub within_part : (window : Size) (old new : Views) (view : ℕ) (less part more : Rect) → more ≡ hull_of less part → LiesIn part (seen_of window old view) → GrowsWithin window view old new less more
within_part window old new view less part more is seen box first was now =
    subst (λ (rect : Rect). LiesIn rect box) (sym is) (hull_least less part box first (λ x y h. was x y (seen x y h)))

-- what is within damage is within more of it
pub within_more : (less part more inner : Rect) → more ≡ hull_of less part → LiesIn inner (hull_of less part) → LiesIn inner more
within_more less part more inner is lies = subst (LiesIn inner) (sym is) lies

pub within_once : (less one more seen box : Rect) → more ≡ hull_of less one → ((x y : ℤ) → holds one x y ≡ holds seen x y) → LiesIn less box → LiesIn seen box → LiesIn more box
within_once less one more seen box is same first was =
    subst (λ (rect : Rect). LiesIn rect box) (sym is) (hull_least less one box first (λ x y h. was x y (sym (same x y) ∙ h)))
