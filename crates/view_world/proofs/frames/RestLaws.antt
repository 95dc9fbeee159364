-- Screens that rest still do after lines that request no layout.
use Rattle.std.proofs.Common.{◌≡◌, ℕ, List, [], Option, Some, Result, Ok, Err, refl, sym, ◌∙◌, ap, subst}
use Rattle.std.specs.Prelude.{◌≢◌, OnOk, pos}
use Rattle.damage_rect.specs.Within.{LiesIn}
use Rattle.geom_core.specs.declared.geometry.Rect.{Rect}
use Rattle.geom_core.specs.declared.geometry.Size.{Size}
use Rattle.pixel_raster.specs.Raster.{Raster, size_of}
use Rattle.size_hooks.specs.Hook.{Hook}
use Rattle.size_hooks.specs.Hooks.{armed}
use Rattle.touch_dispatch.specs.reaching.TreeEvents.{OnlyScrolls}
use Rattle.touch_event.specs.declared.event.Event.{Event}
use Rattle.traversal.specs.Frames.{fired_in}
use Rattle.view_model.specs.declared.fault.Fault.{Fault}
use Rattle.traversal.specs.Resting.{IsAtPlace, IsAtRest}
use Rattle.view_model.specs.Facts.{is_shown}
use Rattle.view_model.specs.Forest.{Forest}
use Rattle.view_model.specs.Geometry.{Laid, rect_at}
use Rattle.view_model.specs.Layout.{root_specs}
use Rattle.view_tree.specs.Rows.{Row, first_key, head_view}
use Rattle.view_tree.specs.Views.{Held, IsTree, Views, cache_of, geometry_of, specs_of, state_of}
use Rattle.view_tree.specs.declared.node.state.State.{State}
use Rattle.view_world.proofs.edits.ArmedLaws.{armed_unfired}
use Rattle.view_world.specs.screen.KeyedScreen.{KeyedScreen, geometry_in, window_of, world_of}
use Rattle.view_world.specs.screen.Changed.{response_of}
use Rattle.view_world.specs.frames.Resting.{AreSeenIn, IsIdle, IsResting, KeepsBut}
use Rattle.view_world.specs.frames.Seen.{black_picture, deliveries_of, scrolled_in}
use Rattle.view_world.specs.world.Step.{size_in}
use Rattle.view_world.specs.declared.world.marks.Effect.{Effect}
use Rattle.view_world.specs.declared.world.marks.Effect.TheVariants.{Opens, Touches, Leaves}
use Rattle.world_parts.specs.declared.fault.StepFault.{StepFault}
use Rattle.world_replies.specs.declared.response.Response.{Response}
use Rattle.view_world.specs.declared.screen.stage.Stage.{Stage}
use Rattle.world_parts.proofs.touches.SceneLaws.{scrolls_geometry}

-- a root with the same specs and the same state rests as before
pub rest_along : (old new : Views) (window : Size) → first_key new.tree ≡ first_key old.tree → is_shown (head_view new.tree).facts ≡ is_shown (head_view old.tree).facts
    → root_specs window (head_view new.tree).facts ≡ root_specs window (head_view old.tree).facts
    → ((root : ℕ) → first_key old.tree ≡ Some root → state_of new root ≡ state_of old root) → IsAtRest old window → IsAtRest new window
rest_along old new window keys shown specs states rest = λ root first visible.
    let was = sym keys ∙ first in
    let own = rest root was (sym shown ∙ visible) in
    let same = states root was in
    record {
      place = subst (λ (state : State). IsAtPlace state (rect_at (pos 0) (pos 0) state.measured)) (sym same) own.place;
      specs = ap specs_of same ∙ own.specs ∙ sym specs;
    }

idle_rests : (old new : KeyedScreen) → IsIdle old new → IsResting old → IsResting new
idle_rests old new idle rests = record {
  settled = idle.stage ∙ rests.settled;
  laid = subst (λ (views : Views). IsAtRest views (size_of new.surface)) (sym idle.views) (subst (λ (surface : Raster). IsAtRest old.views (size_of surface)) (sym idle.surface) rests.laid);
  unfired = ap (λ (hooks : List Hook). fired_in hooks (geometry_of new.views)) idle.hooks ∙ ap (λ (views : Views). fired_in old.hooks (geometry_of views)) idle.views ∙ rests.unfired;
}

pub idle_still : (screen : KeyedScreen) → IsIdle screen screen
idle_still screen = record { views = refl; stage = refl; surface = refl; damage = refl; hooks = refl }

pub idle_same : (old new : KeyedScreen) → new ≡ old → IsIdle old new
idle_same old new same = subst (IsIdle old) (sym same) (idle_still old)

-- if neither the tree nor the hooks have changed
pub idle_keeps : (effect : Effect) (asked gone changed : List ℕ) (old new : KeyedScreen) → effect ≢ Touches → effect ≢ Opens → IsIdle old new → KeepsBut effect asked gone changed old new
idle_keeps effect asked gone changed old new other no_window idle = record {
  measures = ap (λ (views : Views). views.counts.measures) idle.views;
  rests = λ leaves rests. idle_rests old new idle rests;
  within = λ ne box lies seen. subst (λ (damage : Rect). LiesIn damage box) (sym idle.damage) lies;
  scrolled = λ touches. absurd (other touches);
  stage = λ ne. idle.stage;
  surface = λ ne. idle.surface;
  opened = λ opens. absurd (no_window opens);
  leaves = λ key live still free. (ap (λ (views : Views). state_of views key) idle.views, ap (λ (views : Views). cache_of views key) idle.views);
}

pub scrolls_state : (old new : Views) → OnlyScrolls old new → (key : ℕ) → state_of new key ≡ state_of old key
scrolls_state old new scrolls key = ap (λ (held : Held). held.state) (scrolls.held key)

pub scrolls_cache : (old new : Views) → OnlyScrolls old new → (key : ℕ) → cache_of new key ≡ cache_of old key
scrolls_cache old new scrolls key = ap (λ (held : Held). held.cache) (scrolls.held key)

scrolls_rest : (old new : Views) (window : Size) → OnlyScrolls old new → IsAtRest old window → IsAtRest new window
scrolls_rest old new window scrolls rest =
    let same = scrolls.same.tree in
    rest_along old new window (ap first_key same) (ap (λ (tree : Forest Row). is_shown (head_view tree).facts) same)
    (ap (λ (tree : Forest Row). root_specs window (head_view tree).facts) same) (λ root first. scrolls_state old new scrolls root) rest

-- if views have only been scrolled
pub scrolls_keep : (asked gone changed : List ℕ) (old new : KeyedScreen) → OnlyScrolls old.views new.views → new.stage ≡ old.stage → new.surface ≡ old.surface → new.hooks ≡ old.hooks
    → ((box : Rect) → LiesIn old.damage box → AreSeenIn box changed old new → LiesIn new.damage box) → scrolled_in new.reported ≡ changed → KeepsBut Touches asked gone changed old new
scrolls_keep asked gone changed old new scrolls stage surface hooks within scrolled = record {
  measures = ap (λ counts. counts.measures) scrolls.counts;
  rests = λ leaves rests. record {
    settled = stage ∙ rests.settled;
    laid = subst (λ (surface : Raster). IsAtRest new.views (size_of surface)) (sym surface) (scrolls_rest old.views new.views (size_of old.surface) scrolls rests.laid);
    unfired = ap (λ (hooks : List Hook). fired_in hooks (geometry_of new.views)) hooks
        ∙ ap (λ (geometry : List Laid). fired_in old.hooks geometry) (scrolls_geometry old.views new.views scrolls) ∙ rests.unfired;
  };
  leaves = λ key live still free. (scrolls_state old.views new.views scrolls key, scrolls_cache old.views new.views scrolls key);
  within = λ ne. within;
  scrolled = λ touches. scrolled;
  stage = λ ne. stage;
  surface = λ ne. surface;
  opened = λ opens. absurd cc;
}

-- the event of a line is the one that went to the root
pub touch_keeps : (old new : KeyedScreen) (event line : Event) → event ≡ line → KeepsBut Touches [] [] (scrolled_in (deliveries_of (world_of old) event)) old new
    → KeepsBut Touches [] [] (scrolled_in (deliveries_of (world_of old) line)) old new
touch_keeps old new event line same = subst (λ (event : Event). KeepsBut Touches [] [] (scrolled_in (deliveries_of (world_of old) event)) old new) same

-- what a line keeps whether its reply was made or not

pub ok_any : {A E : Type 0} {P : Type 0} (result : Result A E) → P → OnOk result P
ok_any (Ok value) p = p
ok_any (Err error) p = tt

pub ok_then : {A E : Type 0} {P Q : Type 0} (result : Result A E) → (P → Q) → OnOk result P → OnOk result Q
ok_then (Ok value) then p = then p
ok_then (Err error) then p = tt

pub responded : (P : Type 0) (made : Result (Option ℕ) Fault) (result : Result Response StepFault) → result ≡ response_of made → OnOk made P → OnOk result P
responded P (Ok number) result is ok = rw is ok
responded P (Err fault) result is ok = rw is tt

-- a window that opens leaves the tree as it is
pub window_keeps : (old new : KeyedScreen) → new.views ≡ old.views → black_picture (window_of new) ≡ new.surface.pixels → KeepsBut Opens [] [] [] old new
window_keeps old new same black = record {
  measures = ap (λ (views : Views). views.counts.measures) same;
  rests = λ leaves. absurd cc;
  within = λ ne. absurd (ne refl);
  scrolled = λ touches. absurd cc;
  stage = λ ne. absurd (ne refl);
  surface = λ ne. absurd (ne refl);
  opened = λ opens. black;
  leaves = λ key live still free. (ap (λ (views : Views). state_of views key) same, ap (λ (views : Views). cache_of views key) same);
}

-- a hook is armed with the present size of its view

armed_rests : (old : KeyedScreen) (hooks : List Hook) (hook : Hook) → IsTree old.views → hooks ≡ armed hook old.hooks → hook.reported ≡ size_in (geometry_in old.stage old.views) hook.view
    → IsResting old → IsResting (record old { hooks = hooks })
armed_rests old hooks hook is new size rests = record {
  settled = rests.settled;
  laid = rests.laid;
  unfired =
      let now : hook.reported ≡ size_in (geometry_of old.views) hook.view = subst (λ (stage : Stage). hook.reported ≡ size_in (geometry_in stage old.views) hook.view) rests.settled size in
      ap (λ (hooks : List Hook). fired_in hooks (geometry_of old.views)) new ∙ armed_unfired old.views old.hooks hook is now rests.unfired;
}

pub armed_keeps : (old : KeyedScreen) (hooks : List Hook) (hook : Hook) → IsTree old.views → hooks ≡ armed hook old.hooks → hook.reported ≡ size_in (geometry_in old.stage old.views) hook.view
    → KeepsBut Leaves [] [] [] old (record old { hooks = hooks })
armed_keeps old hooks hook is new size = record {
  measures = refl;
  rests = λ leaves rests. armed_rests old hooks hook is new size rests;
  within = λ ne box lies seen. lies;
  scrolled = λ touches. absurd cc;
  stage = λ ne. refl;
  surface = λ ne. refl;
  opened = λ opens. absurd cc;
  leaves = λ key live still free. (refl, refl);
}
