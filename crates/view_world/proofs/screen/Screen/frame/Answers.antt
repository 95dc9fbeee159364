use Rattle.std.proofs.Common.{◌≡◌, ℕ, ◌+◌, ◌*◌, ◌≤◌, ap, sym, subst, ◌∙◌, refl}
use Rattle.std.specs.Prelude.{Some}
use Rattle.damage_rect.proofs.RectLaws.{hull_least}
use Rattle.damage_rect.specs.Areas.{rect_area}
use Rattle.damage_rect.specs.Within.{LiesIn}
use Rattle.damage_rect.specs.declared.bounding.Damage.{Damage}
use Rattle.geom_core.specs.Rects.{is_empty}
use Rattle.geom_core.specs.declared.geometry.Rect.{Rect}
use Rattle.geom_core.specs.declared.geometry.Size.{Size}
use Rattle.traversal.proofs.laid.ShapeLaws.{count_of-same}
use Rattle.traversal.specs.Frames.{after_frame as frame_of}
use Rattle.traversal.specs.Covering.{HasShifted}
use Rattle.view_world.proofs.frames.ShiftLaws.{shifted_in}
use Rattle.pixel_raster.specs.Raster.{size_of}
use Rattle.view_tree.specs.Views.{geometry_of, plain_of}
use Rattle.view_world.specs.frames.Counting.{RisesWithin, paint_bound}
use Rattle.world_replies.specs.Replies.{framed_text}
use Rattle.world_parts.specs.Reply.{Done}
use Rattle.view_world.specs.world.Step.{framed, picture_in}
use Rattle.view_world.specs.screen.KeyedScreen.{KeyedScreen, window_of, world_of}
use Rattle.view_world.specs.declared.screen.stage.Stage.TheVariants.{Unsettled, Settled}
use Rattle.view_world.specs.screen.Sound.{keyed}
use Rattle.seen_edits.proofs.ShownLaws.{shows_framed, shows_none}
use Rattle.view_model.specs.Forest.{count_of}
use Rattle.view_world.proofs.frames.FrameLaws.{Changed-settled, Changed-unsettled, is_false, is_true, paints_within, rises_all, sound_framed}
use Rattle.view_world.proofs.worlds.WorldLaws.{window-size}
use Rattle.view_world.proofs.states.OffsetLaws.{offsets_framed}
use Rattle.view_world.proofs.frames.FrameLaws.{damage_most, frame_done, still_clean, still_lain, still_shown, still_work, unsettled_paints}
use Rattle.traversal.specs.Resting.{IsAtRest}
use Rattle.view_world.specs.frames.Resting.{IsFrameDone, IsShown}
use Rattle.view_world.proofs.worlds.SoundLaws.{with_table}
use Rattle.view_world.proofs.screen.Screen.frame.Goals as goal

pub invariant_of-self : goal.invariant_of-self
invariant_of-self c =
    sound_framed c.self.inside _ c.frame-outcome.ensures.shape c.frame-outcome.ensures.consistent
    c.frame-outcome.ensures.fits
    (offsets_framed c.self.inside.tree c.frame-outcome.new.tree c.deref_mut.result.now c.frame-outcome.new.hooks c.in-Some.window c.frame-outcome.result c.frame-outcome.ensures.framed c.self.invariant.offsets) refl refl refl (λ none. absurd cc)
    (shows_none c.self.inside.surface c.damage_all.new.damage.rect c.frame-outcome.new.tree (rw c.size.ensures.value at c.damage_all.ensures.whole)) c.self.invariant

pub invariant_of-self-2 : goal.invariant_of-self-2
invariant_of-self-2 c =
    sound_framed c.self.inside _ c.frame-outcome.ensures.shape c.frame-outcome.ensures.consistent c.frame-outcome.ensures.fits
    (offsets_framed c.self.inside.tree c.frame-outcome.new.tree c.deref_mut.result.now c.frame-outcome.new.hooks c.in-Some.window c.frame-outcome.result c.frame-outcome.ensures.framed c.self.invariant.offsets) refl refl refl (λ none. absurd cc) c.paint_damage.ensures.shows c.self.invariant

pub returns-then-not-outcome-clause-changed : goal.returns-then-not-outcome-clause-changed
returns-then-not-outcome-clause-changed c =
    let now : KeyedScreen = record (keyed c.self.inside) { hooks = c.deref_mut.result.now } in
    let same = with_table c.self.inside c.in-Some-hooks.hooks c.deref_mut.result.now c.in-Some-hooks.is c.deref_mut.ensures.value ∙ c.self.view_is in
    let new : KeyedScreen = record now { views = c.frame-outcome.new.tree; hooks = c.frame-outcome.new.hooks; stage = Unsettled } in
    let window : window_of now ≡ Some c.in-Some.window = ap window_of same ∙ sym c.window.ensures ∙ c.in-Some.is in
    let laid = Changed-unsettled now c.frame-outcome.new.tree c.frame-outcome.new.hooks c.in-Some.window c.frame-outcome.result c.root.result window c.root.ensures.key c.if-is_none.ensures
    c.frame-outcome.ensures.framed c.frame-outcome.ensures.shape.next (is_false c.frame-outcome.result.settled c.if-not-outcome.true) in
    (subst (λ (w : KeyedScreen). framed (world_of w) (window_of w) (plain_of w.views) ≡ Done (world_of new) (framed_text c.frame-outcome.result.settled c.frame-outcome.result.fired)) same laid, tt)

pub returns-clause-changed : goal.returns-clause-changed
returns-clause-changed c =
    let now : KeyedScreen = record (keyed c.self.inside) { hooks = c.deref_mut.result.now } in
    let same = with_table c.self.inside c.in-Some-hooks.hooks c.deref_mut.result.now c.in-Some-hooks.is c.deref_mut.ensures.value ∙ c.self.view_is in
    let new : KeyedScreen = record now { views = c.frame-outcome.new.tree; hooks = c.frame-outcome.new.hooks; stage = Settled; surface = c.paint_damage.new.surface } in
    let window : window_of now ≡ Some c.in-Some.window = ap window_of same ∙ sym c.window.ensures ∙ c.in-Some.is in
    let size : size_of c.self.inside.surface ≡ c.in-Some.window = window-size now c.in-Some.window window in
    let painted = subst (λ size. c.paint_damage.new.surface.pixels ≡ picture_in size (geometry_of c.frame-outcome.new.tree) (plain_of c.frame-outcome.new.tree)) size c.paint_damage.ensures.picture in
    let laid = Changed-settled now c.frame-outcome.new.tree c.frame-outcome.new.hooks c.paint_damage.new.surface c.in-Some.window c.frame-outcome.result c.root.result window c.root.ensures.key
    c.if-is_none.ensures c.frame-outcome.ensures.framed c.frame-outcome.ensures.shape.next (is_true c.frame-outcome.result.settled c.if-not-outcome.false) (c.paint_damage.ensures.size ∙ size) painted in
    (subst (λ (w : KeyedScreen). framed (world_of w) (window_of w) (plain_of w.views) ≡ Done (world_of new) (framed_text c.frame-outcome.result.settled c.frame-outcome.result.fired)) same laid, tt)

pub returns-clause-painted : goal.returns-clause-painted
returns-clause-painted c =
    let now = keyed c.self.inside in
    let window : window_of now ≡ Some c.in-Some.window = ap window_of c.self.view_is ∙ sym c.window.ensures ∙ c.in-Some.is in
    subst (λ (w : KeyedScreen). RisesWithin (paint_bound (world_of w)) c.args.work.now.painted c.paint_damage.new.work.painted) c.self.view_is
    (paints_within now c.frame-outcome.new.tree c.in-Some.window _ _ _ window c.frame-outcome.ensures.shape c.frame-outcome.ensures.counted.painted
    (rises_all (2 * count_of c.frame-outcome.new.tree.tree + 1) c.self.inside.surface.width c.self.inside.surface.height c.add.new.self.rect _ _ c.paint_damage.ensures.grew c.paint_damage.ensures.most))

pub paint_damage-requires : goal.paint_damage-requires
paint_damage-requires c =
    let now = keyed c.self.inside in
    let window : window_of now ≡ Some c.in-Some.window = ap window_of c.self.view_is ∙ sym c.window.ensures ∙ c.in-Some.is in
    let size : size_of c.self.inside.surface ≡ c.in-Some.window = window-size now c.in-Some.window window in
    shows_framed c.self.inside.surface c.self.inside.damage.rect c.frame-outcome.result.damage c.add.new.self.rect c.self.inside.tree c.frame-outcome.new.tree c.add.ensures c.self.invariant.shows
    (rw (sym size) at (c.frame-outcome.ensures.damage.colors (is_true c.frame-outcome.result.settled c.if-not-outcome.false)))

pub returns-then-not-outcome-clause-framed : goal.returns-then-not-outcome-clause-framed
returns-then-not-outcome-clause-framed c =
    let now : KeyedScreen = record (keyed c.self.inside) { hooks = c.deref_mut.result.now } in
    let same = with_table c.self.inside c.in-Some-hooks.hooks c.deref_mut.result.now c.in-Some-hooks.is c.deref_mut.ensures.value ∙ c.self.view_is in
    let frame = c.frame-outcome.ensures in
    let new : KeyedScreen = record now { views = c.frame-outcome.new.tree; hooks = c.frame-outcome.new.hooks; damage = c.damage_all.new.damage.rect; stage = Unsettled } in
    let window : window_of now ≡ Some c.in-Some.window = ap window_of same ∙ sym c.window.ensures ∙ c.in-Some.is in
    subst (λ (w : KeyedScreen). IsFrameDone w new c.args.work.now c.frame-outcome.new.work) same
    (frame_done now c.frame-outcome.new.tree c.frame-outcome.new.hooks now.surface c.damage_all.new.damage.rect Unsettled c.in-Some.window c.frame-outcome.result c.args.work.now c.frame-outcome.new.work c.frame-outcome.new.work
    window (window-size now c.in-Some.window window) frame.framed frame.measured (λ rest none. (frame.calm rest none).3) frame.laid frame.laid_twice frame.caches frame.counted refl (λ e. absurd cc) (λ e. absurd cc)
    (unsettled_paints now c.frame-outcome.new.tree c.frame-outcome.new.hooks c.damage_all.new.damage.rect c.args.work.now c.frame-outcome.new.work frame.counted.painted))

pub returns-clause-framed : goal.returns-clause-framed
returns-clause-framed c =
    let now : KeyedScreen = record (keyed c.self.inside) { hooks = c.deref_mut.result.now } in
    let same = with_table c.self.inside c.in-Some-hooks.hooks c.deref_mut.result.now c.in-Some-hooks.is c.deref_mut.ensures.value ∙ c.self.view_is in
    let frame = c.frame-outcome.ensures in
    let new : KeyedScreen = record now {
      views = c.frame-outcome.new.tree;
      hooks = c.frame-outcome.new.hooks;
      stage = Settled;
      surface = c.paint_damage.new.surface;
      damage = c.paint_damage.new.damage.rect;
    } in
    let window : window_of now ≡ Some c.in-Some.window = ap window_of same ∙ sym c.window.ensures ∙ c.in-Some.is in
    subst (λ (w : KeyedScreen). IsFrameDone w new c.args.work.now c.paint_damage.new.work) same
    (frame_done now c.frame-outcome.new.tree c.frame-outcome.new.hooks c.paint_damage.new.surface c.paint_damage.new.damage.rect Settled c.in-Some.window c.frame-outcome.result c.args.work.now c.frame-outcome.new.work
    c.paint_damage.new.work window (c.paint_damage.ensures.size ∙ window-size now c.in-Some.window window) frame.framed frame.measured (λ rest none. (frame.calm rest none).3) frame.laid frame.laid_twice frame.caches
    frame.counted c.paint_damage.ensures.measured (λ e. frame.rest (is_true c.frame-outcome.result.settled c.if-not-outcome.false)) (λ e. ap (λ (damage : Damage). is_empty damage.rect) c.paint_damage.ensures.emptied)
    (record {
      least = rw frame.counted.painted at c.paint_damage.ensures.least;
      most = λ was settled other at none box lies moved.
          let one : c.in-Some.window ≡ other = cc in
          let quiet : c.frame-outcome.result.fired ≡ 0 = frame.framed.fired ∙ subst (λ (size : Size). (frame_of (plain_of now.views) now.hooks size).fired ≡ 0) (sym one) none in
          let wide = window-size now c.in-Some.window window in
          let shifted = shifted_in now new box c.recall_tree.ensures c.recall_tree-2.ensures frame.shape was refl c.paint_damage.ensures.size moved in
          let within = frame.damage.within quiet box (subst (λ (size : Size). HasShifted size box now.views new.views) wide shifted) in
          let all : LiesIn c.add.new.self.rect box = subst (λ (rect : Rect). LiesIn rect box) (sym c.add.ensures) (hull_least c.self.inside.damage.rect c.frame-outcome.result.damage box lies within) in
          let count : 2 * count_of c.frame-outcome.new.tree.tree + 1 ≡ 2 * count_of now.views.tree + 1 = ap (λ (n : ℕ). 2 * n + 1) (count_of-same frame.shape) in
          subst (λ (n : ℕ). c.paint_damage.new.work.painted ≤ c.args.work.now.painted + n * rect_area box) count
          (damage_most (2 * count_of c.frame-outcome.new.tree.tree + 1) c.self.inside.surface c.add.new.self.rect box c.args.work.now.painted c.paint_damage.new.work.painted all
          (rw frame.counted.painted at c.paint_damage.ensures.most));
      filled = rw frame.counted.painted at c.paint_damage.ensures.filled;
      unsettled = λ ne. absurd (ne refl);
    }))

pub returns-then-not-outcome-clause-still : goal.returns-then-not-outcome-clause-still
returns-then-not-outcome-clause-still c shown =
    let now : KeyedScreen = record (keyed c.self.inside) { hooks = c.deref_mut.result.now } in
    let same = with_table c.self.inside c.in-Some-hooks.hooks c.deref_mut.result.now c.in-Some-hooks.is c.deref_mut.ensures.value ∙ c.self.view_is in
    let frame = c.frame-outcome.ensures in
    let window : window_of now ≡ Some c.in-Some.window = ap window_of same ∙ sym c.window.ensures ∙ c.in-Some.is in
    (still_shown now c.frame-outcome.new.tree c.in-Some.window c.args.work.now c.frame-outcome.new.work window (λ rest none. let calm = frame.calm rest none in (calm.0, calm.3))
    (subst IsShown (sym same) shown)).1

pub returns-clause-still : goal.returns-clause-still
returns-clause-still c shown =
    let now : KeyedScreen = record (keyed c.self.inside) { hooks = c.deref_mut.result.now } in
    let same = with_table c.self.inside c.in-Some-hooks.hooks c.deref_mut.result.now c.in-Some-hooks.is c.deref_mut.ensures.value ∙ c.self.view_is in
    let frame = c.frame-outcome.ensures in
    let window : window_of now ≡ Some c.in-Some.window = ap window_of same ∙ sym c.window.ensures ∙ c.in-Some.is in
    let was : IsShown now = subst IsShown (sym same) shown in
    let rest : IsAtRest now.views c.in-Some.window = subst (IsAtRest now.views) (window-size now c.in-Some.window window) was.rests.laid in
    let calm = frame.calm rest was.rests.unfired in
    let clean = still_clean c.self.inside.damage.rect c.frame-outcome.result.damage c.add.new.self.rect c.add.ensures was.clean (still_lain c.self.inside.tree c.frame-outcome.new.tree c.in-Some.window c.frame-outcome.result.damage calm.0 (frame.damage.within calm.1)) in
    still_work c.frame-outcome.new.work c.paint_damage.new.work (2 * count_of c.frame-outcome.new.tree.tree + 1) c.self.inside.surface c.add.new.self.rect clean
    c.paint_damage.ensures.measured c.paint_damage.ensures.grew c.paint_damage.ensures.most
    ∙ calm.3
