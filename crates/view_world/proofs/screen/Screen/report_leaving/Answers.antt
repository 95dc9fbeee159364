use Rattle.std.proofs.Common.{◌≡◌, refl, sym, ◌∙◌, ap, subst}
use Rattle.touch_dispatch.specs.handling.Handling.{Progress}
use Rattle.view_tree.specs.Views.{IsLive, number_of, plain_of}
use Rattle.view_world.specs.screen.KeyedScreen.{KeyedScreen, world_of}
use Rattle.view_world.specs.screen.Sound.{keyed}
use Rattle.world_parts.specs.Touching.{after_progress, leaving}
use Rattle.view_world.proofs.touches.EventLaws.{sound_scrolled}
use Rattle.view_world.proofs.edits.LeaveLaws.{leaving_silent, leaving_reported, plain_cancelled, scrolls_none, world_reported}
use Rattle.world_parts.proofs.touches.SceneLaws.{scrolls_geometry}
use Rattle.view_world.proofs.edits.GrownShown.{shows_alike}
use Rattle.view_world.proofs.states.OffsetLaws.{offsets_scrolled}
use Rattle.touch_dispatch.specs.reaching.TreeEvents.{OnlyScrolls}
use Rattle.view_world.proofs.screen.Screen.report_leaving.Goals as goal

pub invariant_of-self-then-is_reported : goal.invariant_of-self-then-is_reported
invariant_of-self-then-is_reported c =
    let old = c.self.inside.tree in
    let new = c.cancel_view.new.tree in
    let cancel = c.cancel_view.ensures in
    let plain = plain_cancelled old new c.self.inside.gesture c.cancel_view.new.gesture c.clear.new.self c.cancel_view.new.log _ _ _ _ c.is_reported.ensures.is_tree cancel.scrolls cancel.cancelled in
    sound_scrolled c.self.inside (record c.self.inside { tree = new; gesture = c.cancel_view.new.gesture; log = c.cancel_view.new.log }) c.self.invariant cancel.scrolls cancel.caught cancel.opened
    (cancel.room ∙ c.clear.ensures.room) refl c.self.invariant.down (offsets_scrolled old new cancel.scrolls c.self.invariant.offsets)
    (shows_alike c.self.inside.surface c.self.inside.damage.rect old new plain (scrolls_geometry old new cancel.scrolls) c.self.invariant.shows)

pub returns-then-is_reported-clause-plain : goal.returns-then-is_reported-clause-plain
returns-then-is_reported-clause-plain c =
    let cancel = c.cancel_view.ensures in
    plain_cancelled c.self.inside.tree c.cancel_view.new.tree c.self.inside.gesture c.cancel_view.new.gesture c.clear.new.self c.cancel_view.new.log _ _ _ _ c.is_reported.ensures.is_tree cancel.scrolls cancel.cancelled
    ∙ ap (λ (w : KeyedScreen). plain_of w.views) c.self.view_is

pub returns-then-is_reported-clause-world : goal.returns-then-is_reported-clause-world
returns-then-is_reported-clause-world c =
    let old = keyed c.self.inside in
    let live : IsLive old.views c.args.view = subst (λ (w : KeyedScreen). IsLive w.views c.args.view) (sym c.self.view_is) c.requires in
    let new : KeyedScreen = record old { views = c.cancel_view.new.tree; gesture = c.cancel_view.new.gesture; reported = c.cancel_view.new.log.entries.items } in
    let same = leaving_reported old c.args.view _ c.cancel_view.new.tree c.cancel_view.new.gesture c.clear.new.self c.cancel_view.new.log c.is_reported.ensures.is_tree live
    c.clear.ensures.entries (sym c.is_reported.ensures.reported ∙ c.if-is_reported.true) c.cancel_view.ensures.cancelled in
    subst (λ (w : KeyedScreen). world_of new ≡ after_progress (world_of w) (leaving (world_of w) (number_of w.views c.args.view))) c.self.view_is
    (world_reported old c.cancel_view.new.tree c.cancel_view.new.gesture c.cancel_view.new.log (number_of old.views c.args.view) c.is_reported.ensures.is_tree c.cancel_view.ensures.scrolls same)

pub returns-then-is_reported-clause-reported : goal.returns-then-is_reported-clause-reported
returns-then-is_reported-clause-reported c =
    let old = keyed c.self.inside in
    let live : IsLive old.views c.args.view = subst (λ (w : KeyedScreen). IsLive w.views c.args.view) (sym c.self.view_is) c.requires in
    let same = leaving_reported old c.args.view _ c.cancel_view.new.tree c.cancel_view.new.gesture c.clear.new.self c.cancel_view.new.log c.is_reported.ensures.is_tree live
    c.clear.ensures.entries (sym c.is_reported.ensures.reported ∙ c.if-is_reported.true) c.cancel_view.ensures.cancelled in
    subst (λ (w : KeyedScreen). c.cancel_view.new.log.entries.items ≡ (leaving (world_of w) (number_of w.views c.args.view)).entries) c.self.view_is
    (ap (λ (p : Progress). p.entries) same)

pub returns-else-is_reported-clause-world : goal.returns-else-is_reported-clause-world
returns-else-is_reported-clause-world c =
    let old = keyed c.self.inside in
    let live : IsLive old.views c.args.view = subst (λ (w : KeyedScreen). IsLive w.views c.args.view) (sym c.self.view_is) c.requires in
    let new : KeyedScreen = record old { reported = c.clear.new.self.entries.items } in
    let same = leaving_silent old c.args.view c.clear.new.self c.is_reported.ensures.is_tree live c.clear.ensures.entries (sym c.is_reported.ensures.reported ∙ c.if-is_reported.false) in
    subst (λ (w : KeyedScreen). world_of new ≡ after_progress (world_of w) (leaving (world_of w) (number_of w.views c.args.view))) c.self.view_is
    (world_reported old old.views old.gesture c.clear.new.self (number_of old.views c.args.view) c.is_reported.ensures.is_tree (scrolls_none old.views) same)

pub returns-else-is_reported-clause-reported : goal.returns-else-is_reported-clause-reported
returns-else-is_reported-clause-reported c =
    let old = keyed c.self.inside in
    let live : IsLive old.views c.args.view = subst (λ (w : KeyedScreen). IsLive w.views c.args.view) (sym c.self.view_is) c.requires in
    let same = leaving_silent old c.args.view c.clear.new.self c.is_reported.ensures.is_tree live c.clear.ensures.entries (sym c.is_reported.ensures.reported ∙ c.if-is_reported.false) in
    subst (λ (w : KeyedScreen). c.clear.new.self.entries.items ≡ (leaving (world_of w) (number_of w.views c.args.view)).entries) c.self.view_is
    (ap (λ (p : Progress). p.entries) same)

pub returns-then-is_reported-clause-scrolls : goal.returns-then-is_reported-clause-scrolls
returns-then-is_reported-clause-scrolls c = subst (λ (w : KeyedScreen). OnlyScrolls w.views c.cancel_view.new.tree) c.self.view_is c.cancel_view.ensures.scrolls

pub returns-else-is_reported-clause-scrolls : goal.returns-else-is_reported-clause-scrolls
returns-else-is_reported-clause-scrolls c = subst (λ (w : KeyedScreen). OnlyScrolls w.views c.self.inside.tree) c.self.view_is (scrolls_none c.self.inside.tree)
