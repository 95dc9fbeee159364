use Rattle.std.proofs.Common.{◌≡◌, [], refl, sym, ◌∙◌, ap, subst}
use Rattle.std.specs.Prelude.{Ok, None}
use Rattle.tree_edits.specs.Editing.{Remove}
use Rattle.tree_edits.specs.declared.edits.Edit.TheVariants as edit
use Rattle.tree_edits.specs.Scene.{scene_of as edited_of}
use Rattle.view_tree.specs.Views.{IsLive, IsTree, SameTree, number_of, plain_of}
use Rattle.view_world.specs.screen.Changed.{CarriesOut}
use Rattle.view_world.specs.screen.KeyedScreen.{KeyedScreen, world_of}
use Rattle.view_world.specs.screen.Sound.{keyed}
use Rattle.view_world.specs.world.Step.{removed}
use Rattle.world_parts.specs.Touching.{after_progress, leaving}
use Rattle.world_replies.specs.declared.response.Response.{Response}
use Rattle.view_world.proofs.worlds.FitLaws.{fits_edited}
use Rattle.view_world.proofs.edits.LeaveLaws.{Changed-remove, plain_removed, remove_done}
use Rattle.view_world.proofs.edits.LeaveSound.{sound_removed}
use Rattle.view_world.proofs.states.OffsetLaws.{offsets_edited}
use Rattle.damage_rect.specs.Within.{LiesIn}
use Rattle.geom_core.specs.declared.geometry.Rect.{Rect}
use Rattle.pixel_raster.specs.Raster.{size_of}
use Rattle.seen_edits.specs.Shown.{seen_of}
use Rattle.view_model.specs.Forest.{Forest}
use Rattle.view_tree.specs.Rows.{Row, head_view, part_from}
use Rattle.view_world.proofs.frames.EditRest.{loud_keeps}
use Rattle.world_parts.proofs.touches.SceneLaws.{scrolls_geometry}
use Rattle.view_world.proofs.frames.SeenLaws.{among_first, seen_alike, seen_named}
use Rattle.view_world.specs.frames.Resting.{seen_on}
use Rattle.view_tree.proofs.values.KeptLaws.{is_tree-same}
use Rattle.touch_dispatch.specs.reaching.TreeEvents.{OnlyScrolls}
use Rattle.view_world.proofs.worlds.SoundLaws.{with_table}
use Rattle.view_world.proofs.screen.Screen.take_away.Goals as goal

pub invariant_of-self : goal.invariant_of-self
invariant_of-self c =
    let views = c.self.inside.tree in
    let is : IsTree views = subst (λ (w : KeyedScreen). IsTree w.views) (sym c.self.view_is) c.report_leaving.ensures.is_tree in
    let live : IsLive views c.args.view = subst (λ (w : KeyedScreen). IsLive w.views c.args.view) (sym c.self.view_is) c.report_leaving.ensures.live in
    let plain = plain_removed views c.take.new.tree (number_of views c.args.view) c.in-Ok.field-0 c.in-Ok.ensures.applied in
    let narrow = fits_edited views c.take.new.tree (Remove (number_of views c.args.view)) c.in-Ok.field-0 c.in-Ok.ensures.applied c.self.invariant.narrow in
    sound_removed c.self.inside c.take.new.tree c.take.new.damage (rw c.size-window.ensures.value at c.take.ensures.shown) c.forget.new.gesture _ c.args.view is live c.in-Ok.ensures.kept plain c.forget.ensures.gesture c.forget.ensures.opened
    (c.take.ensures.consistent c.self.invariant.consistent) narrow
    (offsets_edited views c.take.new.tree (edit.Remove c.args.view) (Ok c.in-Ok.field-0) tt c.in-Ok.ensures.applied tt c.self.invariant.offsets) c.self.invariant

pub returns-clause-changed : goal.returns-clause-changed
returns-clause-changed c =
    let old = c.args.self.now in
    let mid : KeyedScreen = record (keyed c.self.inside) { hooks = c.deref_mut.result.now } in
    let named = with_table c.self.inside c.in-Some.hooks c.deref_mut.result.now c.in-Some.is c.deref_mut.ensures.value ∙ c.self.view_is in
    let now : KeyedScreen = record mid { views = c.take.new.tree; gesture = c.forget.new.gesture; hooks = c.forget.new.hooks } in
    let progress = leaving (world_of old) (number_of old.views c.args.view) in
    let is : IsTree mid.views = subst (λ (w : KeyedScreen). IsTree w.views) (sym c.self.view_is) c.report_leaving.ensures.is_tree in
    let live : IsLive mid.views c.args.view = subst (λ (w : KeyedScreen). IsLive w.views c.args.view) (sym c.self.view_is) c.report_leaving.ensures.live in
    let same : SameTree old.views mid.views = subst (λ (w : KeyedScreen). SameTree old.views w.views) (sym c.self.view_is) c.report_leaving.ensures.same in
    let world : world_of mid ≡ after_progress (world_of old) progress = ap world_of named ∙ c.report_leaving.ensures.world in
    let reported : mid.reported ≡ progress.entries = ap (λ (w : KeyedScreen). w.reported) c.self.view_is ∙ c.report_leaving.ensures.reported in
    let done : c.take.result ≡ Ok None =
    remove_done (edited_of mid.views) (edited_of c.take.new.tree) (number_of mid.views c.args.view) c.take.result c.take.ensures.applied c.take.ensures.memory in
    subst (λ (response : Response). CarriesOut (removed (world_of old) (number_of old.views c.args.view)) now (Ok response)) (sym c.deliveries.ensures)
    (Changed-remove old mid c.take.new.tree c.forget.new.gesture c.forget.new.hooks c.args.view c.take.result is live same world reported c.forget.ensures.gesture c.forget.ensures.hooks done c.take.ensures.applied)

pub returns-clause-keeps : goal.returns-clause-keeps
returns-clause-keeps c =
    let old = c.args.self.now in
    let mid = keyed c.self.inside in
    let now : KeyedScreen = record mid { views = c.take.new.tree; damage = c.take.new.damage.rect; gesture = c.forget.new.gesture; hooks = c.forget.new.hooks } in
    let is : IsTree mid.views = subst (λ (w : KeyedScreen). IsTree w.views) (sym c.self.view_is) c.report_leaving.ensures.is_tree in
    let scrolls : OnlyScrolls old.views mid.views = subst (λ (w : KeyedScreen). OnlyScrolls old.views w.views) (sym c.self.view_is) c.report_leaving.ensures.scrolls in
    let was = is_tree-same mid.views old.views is (sym scrolls.same.tree) (sym scrolls.same.next) in
    let same : mid ≡ record old { views = mid.views; gesture = mid.gesture; reported = mid.reported } =
    subst (λ (w : KeyedScreen). w ≡ record old { views = w.views; gesture = w.gesture; reported = w.reported }) (sym c.self.view_is) c.report_leaving.ensures.rest in
    let plain : plain_of mid.views ≡ plain_of old.views = ap (λ (w : KeyedScreen). plain_of w.views) c.self.view_is ∙ c.report_leaving.ensures.plain in
    let live : IsLive mid.views c.args.view = subst (λ (w : KeyedScreen). IsLive w.views c.args.view) (sym c.self.view_is) c.report_leaving.ensures.live in
    let number : number_of mid.views c.args.view ≡ number_of old.views c.args.view = ap (λ (tree : Forest Row). (head_view (part_from c.args.view tree)).number) scrolls.same.tree in
    loud_keeps old now mid.views (edit.Remove c.args.view) refl was c.requires.live scrolls c.take.ensures.asked c.take.ensures.measures
    (λ box lies seen.
    let own = (seen (number_of old.views c.args.view) (among_first (number_of old.views c.args.view) [])).0 in
    let alike = seen_alike old mid (number_of old.views c.args.view) plain (scrolls_geometry old.views mid.views scrolls) (ap (λ (w : KeyedScreen). size_of w.surface) same) in
    let before : LiesIn (seen_of (size_of mid.surface) mid.views c.args.view) box =
    subst (λ (rect : Rect). LiesIn rect box) (sym alike ∙ ap (seen_on mid) (sym number) ∙ seen_named mid c.args.view is live) own in
    (rw c.size-window.ensures.value at c.take.ensures.within) box (subst (λ (rect : Rect). LiesIn rect box) (sym (ap (λ (w : KeyedScreen). w.damage) same)) lies) before)
    (ap (λ (w : KeyedScreen). w.stage) same) (ap (λ (w : KeyedScreen). w.surface) same)
