use Rattle.std.proofs.Common.{◌≡◌, ℕ, ◌<◌, List, refl, sym, ◌∙◌, ap, subst}
use Rattle.std.specs.Prelude.{Ok, None}
use Rattle.tree_edits.specs.Editing.{ActOn}
use Rattle.tree_edits.specs.Scene.{scene_of as edited_of}
use Rattle.tree_edits.specs.declared.edits.Edit.TheVariants as edit
use Rattle.view_model.specs.Forest.{Forest}
use Rattle.view_tree.specs.Rows.{Row, count_of_key}
use Rattle.view_tree.specs.Views.{SameTree, number_of, plain_of}
use Rattle.view_world.specs.screen.Changed.{CarriesOut}
use Rattle.view_world.specs.screen.KeyedScreen.{KeyedScreen, world_of}
use Rattle.view_world.specs.screen.Sound.{keyed}
use Rattle.view_world.specs.world.Step.{acted}
use Rattle.world_parts.specs.Touching.{after_progress, leaving}
use Rattle.world_replies.specs.declared.response.Response.{Response}
use Rattle.view_world.proofs.touches.EditedCaught.{edit_stays}
use Rattle.view_world.proofs.worlds.FitLaws.{fits_edited}
use Rattle.view_world.proofs.edits.LeaveLaws.{Changed-hide, hide_done}
use Rattle.view_world.proofs.worlds.SoundLaws.{sound_stays}
use Rattle.view_world.proofs.states.OffsetLaws.{hides_within, offsets_edited}
use Rattle.damage_rect.specs.Within.{LiesIn}
use Rattle.damage_rect.specs.declared.bounding.Damage.{Damage}
use Rattle.geom_core.specs.declared.geometry.Rect.{Rect}
use Rattle.pixel_raster.specs.Raster.{size_of}
use Rattle.view_world.proofs.frames.EditRest.{edited_same, hides_asks, loud_keeps, within_edit}
use Rattle.world_parts.proofs.touches.SceneLaws.{scrolls_geometry}
use Rattle.view_world.proofs.frames.SeenLaws.{seen_mid}
use Rattle.view_world.specs.frames.Resting.{AreSeenIn}
use Rattle.view_world.specs.frames.Seen.{numbers_edited}
use Rattle.view_tree.proofs.values.KeptLaws.{is_tree-same}
use Rattle.touch_dispatch.specs.reaching.TreeEvents.{OnlyScrolls}
use Rattle.view_tree.specs.Views.{IsTree}
use Rattle.view_world.proofs.screen.Screen.hide.Goals as goal

pub invariant_of-self : goal.invariant_of-self
invariant_of-self c =
    sound_stays c.self.inside c.change.new.tree c.change.new.damage (rw c.size-window.ensures.value at c.change.ensures.shown)
    (edit_stays c.self.inside.tree c.change.new.tree (edit.Act c.args.view c.args.act) c.self.inside.gesture tt c.in-Ok.ensures.kept)
    (c.change.ensures.consistent c.self.invariant.consistent)
    (fits_edited c.self.inside.tree c.change.new.tree (ActOn (number_of c.self.inside.tree c.args.view) c.args.act) c.in-Ok.field-0 c.in-Ok.ensures.applied c.self.invariant.narrow)
    (offsets_edited c.self.inside.tree c.change.new.tree (edit.Act c.args.view c.args.act) (Ok c.in-Ok.field-0) (hides_within c.args.act c.requires.hides) c.in-Ok.ensures.applied tt c.self.invariant.offsets)
    c.self.invariant

pub returns-clause-changed : goal.returns-clause-changed
returns-clause-changed c =
    let old = c.args.self.now in
    let mid = keyed c.self.inside in
    let now : KeyedScreen = record mid { views = c.change.new.tree } in
    let progress = leaving (world_of old) (number_of old.views c.args.view) in
    let same : SameTree old.views mid.views = subst (λ (w : KeyedScreen). SameTree old.views w.views) (sym c.self.view_is) c.report_leaving.ensures.same in
    let world : world_of mid ≡ after_progress (world_of old) progress = ap world_of c.self.view_is ∙ c.report_leaving.ensures.world in
    let reported : mid.reported ≡ progress.entries = ap (λ (w : KeyedScreen). w.reported) c.self.view_is ∙ c.report_leaving.ensures.reported in
    let done : c.change.result ≡ Ok None =
    hide_done (edited_of mid.views) (edited_of c.change.new.tree) (number_of mid.views c.args.view) c.args.act c.change.result c.requires.hides c.change.ensures.applied c.change.ensures.memory in
    subst (λ (response : Response). CarriesOut (acted (world_of old) (number_of old.views c.args.view) c.args.act) now (Ok response)) (sym c.deliveries.ensures)
    (Changed-hide old mid c.change.new.tree c.args.view c.args.act c.change.result c.requires.hides same world reported done c.change.ensures.applied)

pub returns-clause-keeps : goal.returns-clause-keeps
returns-clause-keeps c =
    let old = c.args.self.now in
    let mid = keyed c.self.inside in
    let now : KeyedScreen = record mid { views = c.change.new.tree; damage = c.change.new.damage.rect } in
    let is : IsTree mid.views = subst (λ (w : KeyedScreen). IsTree w.views) (sym c.self.view_is) c.report_leaving.ensures.is_tree in
    let scrolls : OnlyScrolls old.views mid.views = subst (λ (w : KeyedScreen). OnlyScrolls old.views w.views) (sym c.self.view_is) c.report_leaving.ensures.scrolls in
    let was = is_tree-same mid.views old.views is (sym scrolls.same.tree) (sym scrolls.same.next) in
    let e = edit.Act c.args.view c.args.act in
    let same : mid ≡ record old { views = mid.views; gesture = mid.gesture; reported = mid.reported } =
    subst (λ (w : KeyedScreen). w ≡ record old { views = w.views; gesture = w.gesture; reported = w.reported }) (sym c.self.view_is) c.report_leaving.ensures.rest in
    let plain : plain_of mid.views ≡ plain_of old.views = ap (λ (w : KeyedScreen). plain_of w.views) c.self.view_is ∙ c.report_leaving.ensures.plain in
    loud_keeps old now mid.views e (hides_asks c.args.act c.requires.hides) was (c.requires.live, c.requires.verb) scrolls c.change.ensures.asked c.change.ensures.measures
    (λ box lies seen. within_edit mid now e box tt is c.recall_tree.ensures (subst (λ (tree : Forest Row). 0 < count_of_key c.args.view tree) (sym scrolls.same.tree) c.requires.live, c.requires.verb) c.in-Ok.ensures.kept refl
    (rw c.size-window.ensures.value at c.change.ensures.within) (λ unseen. ap (λ (damage : Damage). damage.rect) (c.change.ensures.unseen unseen)) (subst (λ (rect : Rect). LiesIn rect box) (sym (ap (λ (w : KeyedScreen). w.damage) same)) lies)
    (subst (λ (numbers : List ℕ). AreSeenIn box numbers mid now) (edited_same old.views mid.views e scrolls.same.tree)
    (seen_mid old mid now box (numbers_edited old.views e) plain (scrolls_geometry old.views mid.views scrolls) (ap (λ (w : KeyedScreen). size_of w.surface) same) seen)))
    (ap (λ (w : KeyedScreen). w.stage) same) (ap (λ (w : KeyedScreen). w.surface) same)
