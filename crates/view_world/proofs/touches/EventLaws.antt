-- An event that goes through the tree of a world, in terms of the plain world.
use Rattle.std.proofs.Common.{◌≡◌, ℕ, ◌≤◌, ◌+◌, ℤ, Bool, List, [], length, Some, refl, sym, ◌∙◌, ap, subst, arith}
use Rattle.std.specs.Prelude.{Ok}
use Rattle.saved_state.specs.Saving.{OffsetsFit}
use Rattle.text_lines.specs.Joined.{◌⧺◌}
use Rattle.seen_edits.specs.Shown.{Shows}
use Rattle.touch_dispatch.specs.Dispatch.{Scene, dispatched}
use Rattle.touch_dispatch.specs.handling.Handling.{Reached}
use Rattle.touch_dispatch.specs.gesture.Kept.{Kept, gesture_of, is_open}
use Rattle.touch_dispatch.specs.reaching.TreeEvents.{IsGestureIn, OnlyScrolls, offsets_in as offsets_kept, progress_by, progress_of, room_of, scene_of}
use Rattle.touch_dispatch.specs.declared.log.Entry.{Entry}
use Rattle.touch_dispatch.specs.declared.log.Log.{Log}
use Rattle.touch_event.specs.declared.event.Event.{Event}
use Rattle.touch_event.specs.declared.event.Point.{Point}
use Rattle.traversal.specs.Changing.{FitAll}
use Rattle.view_model.specs.Forest.{Forest}
use Rattle.view_model.specs.Geometry.{Laid, rect_in}
use Rattle.view_model.specs.PlainTree.{PlainView}
use Rattle.view_tree.specs.Rows.{views_of}
use Rattle.view_tree.specs.Views.{IsTree, Views, geometry_of, plain_of}
use Rattle.view_world.specs.screen.Changed.{CarriesOut}
use Rattle.world_replies.specs.Deliveries.{done_text, entries_text}
use Rattle.view_world.specs.screen.KeyedScreen.{KeyedScreen, geometry_in, world_of}
use Rattle.world_parts.specs.Pointers.{AreDown}
use Rattle.view_world.specs.frames.Seen.{deliveries_of}
use Rattle.view_world.specs.screen.Sound.{IsSound}
use Rattle.world_parts.specs.Reply.{Reply, Done}
use Rattle.view_world.specs.world.Step.{after_event}
use Rattle.world_parts.specs.Touching.{after_progress, progress_in, reached_in, scene_in, slop_at, unscrolled_tree}
use Rattle.world_parts.specs.World.{World}
use Rattle.world_replies.specs.declared.response.Response.TheVariants as response
use Rattle.view_world.specs.declared.screen.stage.Stage.{Stage}
use Rattle.view_world.specs.declared.screen.stage.Stage.TheVariants.{NoWindow, NoFrame, Unsettled, Settled}
use Rattle.view_world.specs.declared.screen.Screen.TheInside.{Inside}
use Rattle.world_parts.proofs.touches.SceneLaws.{offsets_plain, scene_plain, scrolls_count, scrolls_geometry, scrolls_plain, views_plain}

-- the bounds of the views of a settled world, for dispatch
scene_settled : (world : KeyedScreen) (slop : ℤ) → IsTree world.views → world.stage ≡ Settled → slop ≡ slop_at world.dpi → scene_in (world_of world) ≡ scene_of world.views slop
scene_settled world slop is settled same =
    ap (λ (stage : Stage). let scene : Scene = record { rects = rect_in (geometry_in stage world.views); slop = slop_at world.dpi } in scene) settled
    ∙ ap (λ slop. let scene : Scene = record { rects = rect_in (geometry_of world.views); slop = slop } in scene) (sym same)
    ∙ sym (scene_plain world.views slop is)

-- no view got anything yet
pub progress_plain : (world : KeyedScreen) (entries : List Entry) → IsTree world.views → entries ≡ []
    → progress_in (world_of world) ≡ progress_by (offsets_kept world.views) (gesture_of world.gesture) entries
progress_plain world entries is none =
    ap (λ offsets. progress_by offsets (gesture_of world.gesture) []) (sym (offsets_plain world.views is))
    ∙ ap (progress_by (offsets_kept world.views) (gesture_of world.gesture)) (sym none)

-- the world with the new gesture and offsets
geometry_scrolled : (stage : Stage) (old new : Views) → OnlyScrolls old new → geometry_in stage new ≡ geometry_in stage old
geometry_scrolled NoWindow old new scrolls = refl
geometry_scrolled NoFrame old new scrolls = refl
geometry_scrolled Unsettled old new scrolls = refl
geometry_scrolled Settled old new scrolls = scrolls_geometry old new scrolls

pub world_scrolled : (old : KeyedScreen) (new : Views) (kept : Kept) (reported entries : List Entry) → IsTree old.views → OnlyScrolls old.views new
    → (let after : KeyedScreen = record old { views = new; gesture = kept; reported = reported } in
    world_of after ≡ after_progress (world_of old) (progress_by (offsets_kept new) (gesture_of kept) entries))
world_scrolled old new kept reported entries is scrolls =
    let world : World = world_of (record old { gesture = kept }) in
    let with : Forest PlainView → ℕ → List Laid → World = λ tree next geometry. record world { tree = tree; next = next; geometry = geometry } in
    ap (λ tree. with tree new.next (geometry_in old.stage new)) (scrolls_plain old.views new is scrolls)
    ∙ ap (λ next. with (after_progress (world_of old) (progress_by (offsets_kept new) (gesture_of kept) entries)).tree next (geometry_in old.stage new)) scrolls.same.next
    ∙ ap (with (after_progress (world_of old) (progress_by (offsets_kept new) (gesture_of kept) entries)).tree old.views.next) (geometry_scrolled old.stage old.views new scrolls)

-- the outcome of an event
reached_plain : (world : KeyedScreen) (log : Log) (slop : ℤ) (event : Event) → IsTree world.views → world.stage ≡ Settled → slop ≡ slop_at world.dpi → log.entries.items ≡ []
    → reached_in (world_of world) event ≡ dispatched (scene_of world.views slop) (views_of world.views.tree) event (progress_of world.views world.gesture log)
reached_plain world log slop event is settled same none =
    ap (λ (scene : Scene). dispatched scene (unscrolled_tree (plain_of world.views)) event (progress_in (world_of world))) (scene_settled world slop is settled same)
    ∙ ap (λ (tree : Forest PlainView). dispatched (scene_of world.views slop) tree event (progress_in (world_of world))) (sym (views_plain world.views is))
    ∙ ap (dispatched (scene_of world.views slop) (views_of world.views.tree) event) (progress_plain world log.entries.items is none)

-- an event went to the root, and these pointers are down then
pub forwarded : (old : KeyedScreen) (new : Views) (kept : Kept) (before after : Log) (slop : ℤ) (event : Event) (pointers : List Point) (yes_ : Bool)
    → IsTree old.views → old.stage ≡ Settled → slop ≡ slop_at old.dpi → before.entries.items ≡ []
    → (let reached : Reached = record { yes = yes_; progress = progress_of new kept after } in
    dispatched (scene_of old.views slop) (views_of old.views.tree) event (progress_of old.views old.gesture before) ≡ reached)
    → OnlyScrolls old.views new
    → (let now : KeyedScreen = record old { views = new; gesture = kept; pointers = pointers; reported = after.entries.items } in
    CarriesOut (after_event (world_of old) event pointers) now (Ok (response.Deliveries (Some yes_))))
forwarded old new kept before after slop event pointers yes_ is settled same none reached scrolls =
    let reply : Reached → Reply = λ reached.
    let world : World = record (after_progress (world_of old) reached.progress) { pointers = pointers } in Done world (entries_text reached.progress.entries ⧺ done_text reached.yes) in (
      ap reply (reached_plain old before slop event is settled same none ∙ reached)
          ∙ ap (λ (world : World). let w : World = record world { pointers = pointers } in Done w (entries_text after.entries.items ⧺ done_text yes_))
          (sym (world_scrolled old new kept after.entries.items after.entries.items is scrolls)),
      tt,
    )

-- what was delivered of an event
pub delivered : (old : KeyedScreen) (new : Views) (kept : Kept) (before after : Log) (slop : ℤ) (event : Event) (yes_ : Bool) → IsTree old.views → old.stage ≡ Settled → slop ≡ slop_at old.dpi → before.entries.items ≡ []
    → (let reached : Reached = record { yes = yes_; progress = progress_of new kept after } in
    dispatched (scene_of old.views slop) (views_of old.views.tree) event (progress_of old.views old.gesture before) ≡ reached)
    → deliveries_of (world_of old) event ≡ after.entries.items
delivered old new kept before after slop event yes_ is settled same none reached =
    ap (λ (r : Reached). r.progress.entries) (reached_plain old before slop event is settled same none ∙ reached)

-- a log that was cleared has room for as much as before
pub room_cleared : (before cleared : Log) (entries : ℕ) → cleared.entries.items ≡ [] → room_of cleared ≡ room_of before → entries ≤ room_of before
    → length cleared.entries.items + entries ≤ room_of cleared
room_cleared before cleared entries none same room = let bare : length cleared.entries.items ≡ 0 = ap length none in omega (arith, bare, same, room)

-- a world stays sound
pub sound_scrolled : (old new : Inside) → IsSound old → OnlyScrolls old.tree new.tree → IsGestureIn new.tree.tree new.gesture
    → ((view : ℕ) → is_open new.gesture view ≡ is_open old.gesture view) → room_of new.log ≡ room_of old.log → new.hooks ≡ old.hooks → AreDown new.pointers.items → OffsetsFit (plain_of new.tree)
    → Shows new.surface new.damage.rect new.tree → IsSound new
sound_scrolled old new sound scrolls caught opened room hooks down offsets shows = record {
  shows = shows;
  consistent = scrolls.consistent sound.consistent;
  caught = caught;
  closed = λ number none. opened number ∙ sound.closed number (rw scrolls.same.tree at none);
  room = rw (room, scrolls_count old.tree new.tree scrolls) sound.room;
  armable = λ none. scrolls.same.tree ∙ sound.armable (sym hooks ∙ none);
  down = down;
  narrow = subst FitAll (sym (scrolls_geometry old.tree new.tree scrolls)) sound.narrow;
  offsets = offsets;
}
