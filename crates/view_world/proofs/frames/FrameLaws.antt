-- A frame of a world, in terms of the plain world, and what a world keeps then.
use Rattle.std.proofs.Common.{◌≡◌, ◌≢◌, ℕ, ◌+◌, ◌*◌, ◌<◌, mul-le-mul_left, Bool, true, false, List, [], ◌∷◌, refl, sym, ◌∙◌, ap, subst, arith, inl, inr}
use Rattle.std.specs.Prelude.{Option, Some, None, ◌≤◌, ◌==◌, if◌then◌else◌, not}
use Rattle.std.proofs.lemmas.Bool.{eq-eqb}
use Rattle.std.proofs.lemmas.Int.{ints}
use Rattle.kept_views.specs.Laying.{differ}
use Rattle.std.specs.Option.{is_some}
use Rattle.geom_core.specs.declared.color.Argb.{Argb}
use Rattle.damage_rect.proofs.AreaLaws.{area_none}
use Rattle.damage_rect.proofs.RectLaws.{empty_none, is_between, wide}
use Rattle.damage_rect.specs.Areas.{rect_area}
use Rattle.geom_core.specs.Rects.{empty_rect, hull_of, is_empty}
use Rattle.damage_rect.specs.Within.{LiesIn}
use Rattle.geom_core.specs.declared.geometry.Rect.{Rect}
use Rattle.geom_core.specs.declared.geometry.Size.{Size}
use Rattle.pixel_raster.specs.Cuts.{area_within}
use Rattle.tree_painter.proofs.CoveredAreas.{covered_area, covered_in}
use Rattle.tree_painter.specs.Painted.{area_in}
use Rattle.pixel_raster.specs.Raster.{Raster, size_of}
use Rattle.saved_state.specs.Saving.{OffsetsFit}
use Rattle.seen_edits.proofs.ShownLaws.{area_most}
use Rattle.seen_edits.specs.Differing.{differing}
use Rattle.seen_edits.specs.Shown.{Shows}
use Rattle.size_hooks.specs.Hook.{Hook}
use Rattle.touch_dispatch.specs.gesture.Kept.{Kept, gesture_of, is_open}
use Rattle.touch_dispatch.specs.reaching.TreeEvents.{IsGestureIn}
use Rattle.traversal.proofs.frames.FrameLaws.{unsettled_nowhere}
use Rattle.traversal.proofs.laid.ShapeLaws.{bare_view, count_of-same, count_of_key-same, number_of-same, sum-same, views_of-same}
use Rattle.traversal.specs.Changing.{FitAll, IsFramed, SameShape}
use Rattle.traversal.specs.Counting.{IsMeasuringCounted}
use Rattle.traversal.specs.Frames.{Framed, after_frame as frame_of, fired_in, frame_calls as calls_of_frame}
use Rattle.measure_pass.specs.Caches.{Grew}
use Rattle.traversal.specs.Growing.{IsMeasuredByFrame, IsUnedited, frame_edits}
use Rattle.traversal.specs.Resting.{IsAtRest}
use Rattle.traversal.specs.declared.outcome.Frame.{Frame}
use Rattle.view_model.specs.Forest.{Forest, Nothing, Branch, count_of}
use Rattle.view_model.specs.Geometry.{Laid}
use Rattle.view_model.specs.PlainTree.{PlainView}
use Rattle.view_tree.proofs.forest.PlainLaws.{plain-count}
use Rattle.kept_views.specs.Kept.{IsConsistent}
use Rattle.view_tree.specs.Rows.{Row, count_of_key, first_key, views_of}
use Rattle.view_tree.specs.Views.{Held, IsLive, Views, cache_of, geometry_of, held_of, number_of, plain_of, plain_rows}
use Rattle.world_parts.proofs.trees.ShapeLaws.{children_alike, shape-map, shape_of}
use Rattle.view_world.proofs.worlds.WorldLaws.{window-size}
use Rattle.traversal.specs.Covering.{HasShifted, IsShifted}
use Rattle.view_world.specs.frames.Counting.{RisesWithin, area_of, paint_bound}
use Rattle.view_world.specs.screen.KeyedScreen.{KeyedScreen, geometry_in, picture_at, stage_of, window_in, window_of, world_of}
use Rattle.view_model.specs.declared.work.Work.{Work}
use Rattle.world_replies.specs.Replies.{framed_text}
use Rattle.view_world.specs.frames.Resting.{FramePaints, IsFrameDone, IsShown, LaysOut}
use Rattle.view_world.specs.screen.Sound.{IsSound}
use Rattle.world_parts.specs.Reply.{Done}
use Rattle.view_world.specs.world.Step.{after_frame, frame_text, framed, picture_after, picture_in, stage_after, with_frame}
use Rattle.world_parts.specs.World as plain
use Rattle.world_parts.specs.World.{World}
use Rattle.view_world.specs.declared.screen.stage.Stage.{Stage}
use Rattle.view_world.specs.declared.screen.stage.Stage.TheVariants.{Unsettled, Settled}
use Rattle.seen_edits.specs.Differing.{differing}
use Rattle.seen_edits.specs.Shown.{Shows}
use Rattle.view_world.specs.declared.screen.Screen.TheInside.{Inside}

framed-some : (world : World) (size : Size) (window : Option Size) (rows : Forest Row) (held : ℕ → Held) (root : Option ℕ) → window ≡ Some size → root ≡ first_key rows → is_some root ≡ true
    → framed world window (plain_rows held rows) ≡ Done (after_frame world size) (frame_text (frame_of world.tree world.hooks size))
framed-some world size window Nothing held root ew er some = absurd (let e = ap is_some er in cc)
framed-some world size window (Branch row kids siblings) held root ew er some = rw ew refl

-- a world with all that a frame may change
abbrev with_all : World → Forest PlainView → ℕ → Option Size → plain.Stage → List Laid → List Argb → List Hook → World
with_all world tree next window stage geometry picture hooks =
    record world { tree = tree; next = next; window = window; stage = stage; geometry = geometry; picture = picture; hooks = hooks }

same_all : (world : World) {tree tree' : Forest PlainView} {next next' : ℕ} {window window' : Option Size} {stage stage' : plain.Stage} {geometry geometry' : List Laid} {picture picture' : List Argb}
    {hooks hooks' : List Hook} → tree ≡ tree' → next ≡ next' → window ≡ window' → stage ≡ stage' → geometry ≡ geometry' → picture ≡ picture' → hooks ≡ hooks'
    → with_all world tree next window stage geometry picture hooks ≡ with_all world tree' next' window' stage' geometry' picture' hooks'
same_all world et en ew es eg ep eh = rw (et, en, ew, es, eg, ep, eh) refl

-- the world after a frame that ends at this stage
framed_world : (now : KeyedScreen) (new : Views) (hooks : List Hook) (surface : Raster) (stage : Stage) (size : Size) (outcome : Frame) (after : Framed) → IsFramed after new hooks outcome → new.next ≡ now.views.next
    → window_of now ≡ Some size → window_in stage surface ≡ Some size → stage_after after.settled ≡ stage_of stage → after.geometry ≡ geometry_in stage new → picture_after size after ≡ picture_at stage surface
    → Done (with_frame (world_of now) size after) (frame_text after) ≡ Done (world_of (record now { views = new; hooks = hooks; stage = stage; surface = surface })) (framed_text outcome.settled outcome.fired)
framed_world now new hooks surface stage size outcome after framed next window opened at laid painted =
    ap (λ (world : World). Done world (frame_text after)) (same_all (world_of now) (sym framed.plain) (sym next) (window ∙ sym opened) at laid painted (sym framed.hooks_are))
    ∙ ap (λ (settled : Bool). Done (world_of (record now { views = new; hooks = hooks; stage = stage; surface = surface })) (framed_text settled after.fired)) (sym framed.settled)
    ∙ ap (λ (fired : ℕ). Done (world_of (record now { views = new; hooks = hooks; stage = stage; surface = surface })) (framed_text outcome.settled fired)) (sym framed.fired)

settled_picture : (size : Size) (after : Framed) (geometry : List Laid) (tree : Forest PlainView) → after.settled ≡ true → geometry ≡ after.geometry → tree ≡ after.tree
    → picture_after size after ≡ picture_in size geometry tree
settled_picture size after geometry tree settled laid same = rw (settled, laid, same) refl

unsettled_picture : (size : Size) (after : Framed) → after.settled ≡ false → picture_after size after ≡ []
unsettled_picture size after unsettled = rw unsettled refl

-- a frame has settled, and its picture was painted
pub Changed-settled : (now : KeyedScreen) (new : Views) (hooks : List Hook) (surface : Raster) (size : Size) (outcome : Frame) (root : Option ℕ) → window_of now ≡ Some size → root ≡ first_key now.views.tree
    → is_some root ≡ true → IsFramed (frame_of (plain_of now.views) now.hooks size) new hooks outcome → new.next ≡ now.views.next → outcome.settled ≡ true
    → size_of surface ≡ size → surface.pixels ≡ picture_in size (geometry_of new) (plain_of new)
    → framed (world_of now) (window_of now) (plain_of now.views)
    ≡ Done (world_of (record now { views = new; hooks = hooks; stage = Settled; surface = surface })) (framed_text outcome.settled outcome.fired)
Changed-settled now new hooks surface size outcome root window er some framed next settled wide painted =
    let after = frame_of (plain_of now.views) now.hooks size in
    let has : after.settled ≡ true = sym framed.settled ∙ settled in
    framed-some (world_of now) size (window_of now) now.views.tree (held_of now.views) root window er some
    ∙ framed_world now new hooks surface Settled size outcome after framed next window (ap Some wide) (ap stage_after has) (sym (framed.geometry has))
    (settled_picture size after (geometry_of new) (plain_of new) has (framed.geometry has) framed.plain ∙ sym painted)

-- a frame has not settled
pub Changed-unsettled : (now : KeyedScreen) (new : Views) (hooks : List Hook) (size : Size) (outcome : Frame) (root : Option ℕ) → window_of now ≡ Some size → root ≡ first_key now.views.tree
    → is_some root ≡ true → IsFramed (frame_of (plain_of now.views) now.hooks size) new hooks outcome → new.next ≡ now.views.next → outcome.settled ≡ false
    → framed (world_of now) (window_of now) (plain_of now.views) ≡ Done (world_of (record now { views = new; hooks = hooks; stage = Unsettled })) (framed_text outcome.settled outcome.fired)
Changed-unsettled now new hooks size outcome root window er some framed next unsettled =
    let after = frame_of (plain_of now.views) now.hooks size in
    let has : after.settled ≡ false = sym framed.settled ∙ unsettled in
    framed-some (world_of now) size (window_of now) now.views.tree (held_of now.views) root window er some
    ∙ framed_world now new hooks now.surface Unsettled size outcome after framed next window (ap Some (window-size now size window)) (ap stage_after has)
    (unsettled_nowhere (plain_of now.views) now.hooks size has) (unsettled_picture size after has)

-- what a negated test has shown
pub is_false : (test : Bool) → not test ≡ true → test ≡ false
is_false true e = absurd cc
is_false false e = refl

pub is_true : (test : Bool) → not test ≡ false → test ≡ true
is_true true e = refl
is_true false e = absurd cc

-- how much is painted for a frame
pub paints_within : (now : KeyedScreen) (new : Views) (size : Size) (before mid after : ℕ) → window_of now ≡ Some size → SameShape now.views new → mid ≡ before
    → RisesWithin ((2 * count_of new.tree + 1) * (now.surface.width * now.surface.height)) mid after → RisesWithin (paint_bound (world_of now)) before after
unfolding paint_bound
paints_within now new size before mid after window shape same rises =
    let wide : size_of now.surface ≡ size = window-size now size window in
    let area : area_of (window_of now) ≡ now.surface.width * now.surface.height = rw window (rw (← wide) refl) in
    let count : count_of (plain_of now.views) ≡ count_of new.tree = plain-count (held_of now.views) now.views.tree ∙ sym (count_of-same shape) in
    let bound : (2 * count_of (plain_of now.views) + 1) * area_of (window_of now) ≡ (2 * count_of new.tree + 1) * (now.surface.width * now.surface.height) = rw (count, area) refl in
    record { grew = omega (arith, rises.grew, same); most = omega (arith, rises.most, same, bound) }

-- what is painted of a part is no more than what is painted of all
pub rises_all : (times width height : ℕ) (rect : Rect) (before after : ℕ) → before ≤ after → after ≤ before + times * area_within width height rect → RisesWithin (times * (width * height)) before after
rises_all times width height rect before after grew most =
    let area = mul-le-mul_left times (area_most width height rect) in
    record { grew = grew; most = omega (arith, most, area) }

-- two rectangles without a point have none together
pub still_clean : (old added more : Rect) → more ≡ hull_of old added → is_empty old ≡ true → is_empty added ≡ true → is_empty more ≡ true
unfolding hull_of
still_clean old added more is one other = ap is_empty is ∙ by (is_empty old) (is_empty added) _ _ one other
  where
    by : (s t : Bool) (first second : Rect) → s ≡ true → t ≡ true → is_empty (if s then (if t then empty_rect else second) else first) ≡ true
    by true true first second one other = refl
    by true false first second one other = absurd cc
    by false t first second one other = absurd cc

-- what is within a rectangle without a point has none
pub empty_in : (inner outer : Rect) → LiesIn inner outer → is_empty outer ≡ true → is_empty inner ≡ true
empty_in inner outer lies empty = by (is_empty inner) refl
  where
    by : (t : Bool) → is_empty inner ≡ t → is_empty inner ≡ true
    by true e = e
    by false e =
        let w = wide inner e in
        let here = is_between inner inner.left inner.top (record { left = omega (arith, ints); right = w.across; top = omega (arith, ints); bottom = w.down }) in
        absurd (let clash : true ≡ false = sym (lies inner.left inner.top here) ∙ empty_none outer inner.left inner.top empty in cc)

-- a frame that moves no view damages nothing
pub still_lain : (old new : Views) (window : Size) (damage : Rect) → new ≡ old → ((box : Rect) → HasShifted window box old new → LiesIn damage box) → is_empty damage ≡ true
still_lain old new window damage same within = empty_in damage empty_rect (within empty_rect (λ key live shifted. absurd (unshifted key shifted))) refl
  where
    unshifted : (key : ℕ) → IsShifted (held_of old key) (held_of new key) → ⊥
    unshifted key (inl moved) = moved (ap (λ (views : Views). (held_of views key).state.bounds) same)
    unshifted key (inr scrolled) = scrolled (ap (λ (views : Views). (held_of views key).offset) same)

-- what is painted of the damage is no more than the points of a rectangle around it
pub damage_most : (times : ℕ) (picture : Raster) (damage box : Rect) (before after : ℕ) → LiesIn damage box → after ≤ before + times * area_in picture damage → after ≤ before + times * rect_area box
damage_most times picture damage box before after lies most = let product = mul-le-mul_left times (covered_in picture damage box lies) in omega (arith, most, product)

-- a rectangle without a point covers no pixel
area_clean : (picture : Raster) (rect : Rect) → is_empty rect ≡ true → area_in picture rect ≡ 0
area_clean picture rect clean = let cover = covered_area picture rect in let none = area_none rect clean in omega (arith, cover, none)

same_work : (one other : Work) → one.measured ≡ other.measured → one.painted ≡ other.painted → one ≡ other
same_work one other measured painted =
    let work : ℕ → ℕ → Work = λ measured painted. record { measured = measured; painted = painted } in
    ap (λ m. work m one.painted) measured ∙ ap (work other.measured) painted

-- if there is nothing to paint, nothing is counted
pub still_work : (mid after : Work) (times : ℕ) (picture : Raster) (rect : Rect) → is_empty rect ≡ true → after.measured ≡ mid.measured → mid.painted ≤ after.painted
    → after.painted ≤ mid.painted + times * area_in picture rect → after ≡ mid
still_work mid after times picture rect clean measured grew most =
    let none : times * area_in picture rect ≡ 0 = rw (area_clean picture rect clean) (omega arith) in
    same_work after mid measured (omega (arith, grew, most, none))

-- what a frame has counted, and what it leaves
pub frame_done : (old : KeyedScreen) (new : Views) (hooks : List Hook) (surface : Raster) (damage : Rect) (stage : Stage) (size : Size) (outcome : Frame) (before mid after : Work) → window_of old ≡ Some size → size_of surface ≡ size
    → IsFramed (frame_of (plain_of old.views) old.hooks size) new hooks outcome → mid.measured ≤ before.measured + calls_of_frame (plain_of old.views) old.hooks size
    → (IsAtRest old.views size → fired_in old.hooks (geometry_of old.views) ≡ None → mid ≡ before)
    → (outcome.fired ≡ 0 → new.counts.laid ≤ old.views.counts.laid + differ (held_of old.views) (held_of new) old.views.tree)
    → new.counts.laid ≤ old.views.counts.laid + 2 * count_of old.views.tree
    → ((key : ℕ) → IsLive old.views key → IsUnedited old.views.tree (frame_edits (plain_of old.views) old.hooks size) key
    → Grew (IsMeasuredByFrame (plain_of old.views) old.hooks size (number_of old.views key)) (cache_of old.views key) (cache_of new key))
    → IsMeasuringCounted old.views new before mid → after.measured ≡ mid.measured
    → (stage ≡ Settled → IsAtRest new size × (fired_in hooks (geometry_of new) ≡ None)) → (stage ≡ Settled → is_empty damage ≡ true)
    → FramePaints old (record old { views = new; hooks = hooks; surface = surface; damage = damage; stage = stage }) before after → IsFrameDone old (record old { views = new; hooks = hooks; surface = surface; damage = damage; stage = stage }) before after
frame_done old new hooks surface damage stage size outcome before mid after window wide framed measured calm laid twice caches counted same rest clean paints =
    let own : size_of old.surface ≡ size = window-size old size window in
    record {
      measured = rw (same, window) measured;
      calm = λ rests.
          let still : mid ≡ before = calm (subst (IsAtRest old.views) own rests.laid) rests.unfired in
          let even : mid.measured ≡ before.measured = ap (λ (work : Work). work.measured) still in
          omega (arith, same, even);
      counted = record { by = counted.by; work = rw same counted.work; tree = counted.tree };
      laid = λ other at.
          let one : size ≡ other = cc in
          subst (LaysOut old (record old { views = new; hooks = hooks; surface = surface; damage = damage; stage = stage })) one (record { once = λ none. laid (framed.fired ∙ none); twice = twice; caches = caches });
      shows = λ settled.
          let both = rest settled in
          record { rests = record { settled = settled; laid = subst (IsAtRest new) (sym wide) both.0; unfired = both.1 }; clean = clean settled };
      paints = paints;
    }

-- how far a picture differs from itself
differing_none : (colors : List Argb) → differing colors colors ≡ 0
unfolding differing
differing_none [] = refl
differing_none (color ∷ colors) = let rest = differing_none colors in rw (eq-eqb color.0 color.0 refl) (omega (arith, rest))

-- a frame that has not settled paints nothing
pub unsettled_paints : (old : KeyedScreen) (new : Views) (hooks : List Hook) (damage : Rect) (before after : Work) → after.painted ≡ before.painted
    → FramePaints old (record old { views = new; hooks = hooks; damage = damage; stage = Unsettled }) before after
unsettled_paints old new hooks damage before after same = record {
  least = let none = differing_none old.surface.pixels in rw none (omega (arith, same));
  most = λ was settled. absurd cc;
  filled = λ few less. ap (λ (n : ℕ). n + old.surface.filled) same;
  unsettled = λ other. (refl, same);
}

-- a frame of a screen that is shown leaves its tree, and counts nothing
pub still_shown : (now : KeyedScreen) (new : Views) (size : Size) (before after : Work) → window_of now ≡ Some size
    → (IsAtRest now.views size → fired_in now.hooks (geometry_of now.views) ≡ None → (new ≡ now.views) × (after ≡ before)) → IsShown now → (new ≡ now.views) × (after ≡ before)
still_shown now new size before after window calm shown = calm (subst (IsAtRest now.views) (window-size now size window) shown.rests.laid) shown.rests.unfired

-- a gesture in a tree of which the facts are others
gesture_shaped : (old new : Views) (kept : Kept) → SameShape old new → IsGestureIn old.tree kept → IsGestureIn new.tree kept
gesture_shaped old new kept shape caught = record {
  opened = λ key live.
      let was : 0 < count_of_key key old.tree = subst (λ n. 0 < n) (count_of_key-same key shape) live in
      subst (λ n. is_open kept n ≡ true) (sym (number_of-same key shape)) (caught.opened key was);
  children =
      children_alike (views_of old.tree) (views_of new.tree) (gesture_of kept)
      (sym (shape-map bare_view (views_of new.tree) (λ v. refl)) ∙ ap shape_of (views_of-same shape) ∙ shape-map bare_view (views_of old.tree) (λ v. refl)) caught.children;
}

-- a world stays sound
pub sound_framed : (old new : Inside) → SameShape old.tree new.tree → IsConsistent new.tree → FitAll (geometry_of new.tree) → OffsetsFit (plain_of new.tree) → new.gesture ≡ old.gesture → new.log ≡ old.log
    → new.pointers ≡ old.pointers → new.hooks ≢ None → Shows new.surface new.damage.rect new.tree → IsSound old → IsSound new
sound_framed old new shape consistent narrow offsets gesture log pointers hooks shows sound = record {
  shows = shows;
  consistent = consistent;
  caught = rw gesture (gesture_shaped old.tree new.tree old.gesture shape sound.caught);
  closed = λ number none. rw gesture (sound.closed number (rw (sum-same {old = old.tree} {new = new.tree} (λ (row : Row). if row.view.number == number then 1 else 0) (λ row. refl) shape) at none));
  room = rw (log, count_of-same shape) sound.room;
  armable = λ none. absurd (hooks none);
  down = rw pointers sound.down;
  narrow = narrow;
  offsets = offsets;
}
