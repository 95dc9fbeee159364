use Rattle.std.proofs.Common.{◌≡◌, ℕ, List, [], refl, sym, subst, ◌∙◌, ap, rules}
use Rattle.std.specs.Prelude.{Some, Ok, FitsSigned}
use Rattle.std.proofs.lemmas.Int.{to_z-of_z}
use mir.Syntax.{w32}
use Rattle.pixel_raster.specs.Raster.{size_of}
use Rattle.touch_event.specs.declared.event.Point.{Point}
use Rattle.seen_edits.proofs.ScrolledLaws.{shown_scrolled, logs_by}
use Rattle.seen_edits.proofs.ShownLaws.{shows_on}
use Rattle.view_world.specs.screen.Changed.{CarriesOut}
use Rattle.view_world.specs.screen.KeyedScreen.{KeyedScreen, world_of}
use Rattle.view_world.specs.screen.Sound.{keyed}
use Rattle.view_world.specs.world.Step.{after_event}
use Rattle.world_replies.specs.declared.response.Response.TheVariants as response
use Rattle.view_world.proofs.touches.EventLaws.{delivered, forwarded, room_cleared, sound_scrolled}
use Rattle.view_world.proofs.frames.SeenLaws.{scrolled_seen}
use Rattle.view_world.specs.frames.Seen.{deliveries_of, scrolled_in}
use Rattle.view_world.proofs.states.OffsetLaws.{offsets_scrolled}
use Rattle.world_parts.proofs.touches.PointerLaws.{few}
use Rattle.view_world.proofs.frames.RestLaws.{scrolls_keep}
use Rattle.view_world.specs.frames.Resting.{AreSeenIn, KeepsBut}
use Rattle.view_world.specs.declared.world.marks.Effect.TheVariants.{Touches}
use Rattle.view_world.proofs.screen.Screen.hand.Goals as goal

pub dispatch-yes-requires-clause-room : goal.dispatch-yes-requires-clause-room
dispatch-yes-requires-clause-room c =
    room_cleared c.self.inside.log c.clear.new.self _ c.clear.ensures.entries c.clear.ensures.room c.self.invariant.room

pub set_points-requires : goal.set_points-requires
set_points-requires c = few c.args.pointers.now c.requires.down

pub invariant_of-self : goal.invariant_of-self
invariant_of-self c =
    sound_scrolled c.self.inside _ c.self.invariant c.dispatch-yes.ensures.scrolls c.dispatch-yes.ensures.caught c.dispatch-yes.ensures.opened
    (c.dispatch-yes.ensures.room ∙ c.clear.ensures.room) refl (rw c.set_points.ensures c.requires.down)
    (offsets_scrolled c.self.inside.tree c.dispatch-yes.new.tree c.dispatch-yes.ensures.scrolls c.self.invariant.offsets)
    (shows_on c.self.inside.surface c.self.inside.damage.rect c.note_scrolled.new.damage.rect c.self.inside.tree c.dispatch-yes.new.tree c.self.invariant.shows
    (shown_scrolled (size_of c.self.inside.surface) c.self.inside.damage.rect c.note_scrolled.new.damage.rect c.self.inside.tree c.dispatch-yes.new.tree c.self.inside.gesture c.dispatch-yes.new.gesture
    c.clear.new.self c.dispatch-yes.new.log c.note_scrolled.ensures.is_tree c.dispatch-yes.ensures.scrolls c.note_scrolled.ensures.grew
    (logs_by c.self.inside.tree c.dispatch-yes.new.tree c.self.inside.gesture c.dispatch-yes.new.gesture c.clear.new.self c.dispatch-yes.new.log _ c.args.event.now c.dispatch-yes.result c.dispatch-yes.ensures.dispatched)
    (rw c.size.ensures.value at c.note_scrolled.ensures.noted)))

pub returns-clause-changed : goal.returns-clause-changed
returns-clause-changed c =
    let fits : FitsSigned w32 c.slop_at.result = search rules in
    let old : KeyedScreen = keyed c.self.inside in
    let now : KeyedScreen = record old {
      views = c.dispatch-yes.new.tree;
      damage = c.note_scrolled.new.damage.rect;
      gesture = c.dispatch-yes.new.gesture;
      pointers = c.set_points.new.all.items;
      reported = c.dispatch-yes.new.log.entries.items;
    } in
    subst (λ (points : List Point). CarriesOut (after_event (world_of c.args.self.now) c.args.event.now points) now (Ok (response.Deliveries (Some c.dispatch-yes.result)))) c.set_points.ensures
    (subst (λ (w : KeyedScreen). CarriesOut (after_event (world_of w) c.args.event.now c.set_points.new.all.items) now (Ok (response.Deliveries (Some c.dispatch-yes.result)))) c.self.view_is
    (forwarded old c.dispatch-yes.new.tree c.dispatch-yes.new.gesture c.clear.new.self c.dispatch-yes.new.log _ c.args.event.now c.set_points.new.all.items c.dispatch-yes.result
    c.dispatch-yes.ensures.is_tree (ap (λ (w : KeyedScreen). w.stage) c.self.view_is ∙ c.requires.settled) (to_z-of_z w32 c.slop_at.result fits ∙ c.slop_at.ensures) c.clear.ensures.entries
    c.dispatch-yes.ensures.dispatched c.dispatch-yes.ensures.scrolls))

pub returns-clause-keeps : goal.returns-clause-keeps
returns-clause-keeps c =
    let fits : FitsSigned w32 c.slop_at.result = search rules in
    let old : KeyedScreen = keyed c.self.inside in
    let now : KeyedScreen = record old {
      views = c.dispatch-yes.new.tree;
      damage = c.note_scrolled.new.damage.rect;
      gesture = c.dispatch-yes.new.gesture;
      pointers = c.set_points.new.all.items;
      reported = c.dispatch-yes.new.log.entries.items;
    } in
    let event = c.args.event.now in
    let reported : deliveries_of (world_of old) event ≡ now.reported =
    delivered old c.dispatch-yes.new.tree c.dispatch-yes.new.gesture c.clear.new.self c.dispatch-yes.new.log _ event c.dispatch-yes.result c.dispatch-yes.ensures.is_tree
    (ap (λ (w : KeyedScreen). w.stage) c.self.view_is ∙ c.requires.settled) (to_z-of_z w32 c.slop_at.result fits ∙ c.slop_at.ensures) c.clear.ensures.entries c.dispatch-yes.ensures.dispatched in
    let numbers = scrolled_in (deliveries_of (world_of old) event) in
    let same : scrolled_in now.reported ≡ numbers = ap scrolled_in (sym reported) in
    subst (λ (w : KeyedScreen). KeepsBut Touches [] [] (scrolled_in (deliveries_of (world_of w) event)) w now) c.self.view_is
    (scrolls_keep [] [] numbers old now c.dispatch-yes.ensures.scrolls refl refl refl
    (λ box lies seen. (rw c.size.ensures.value at c.note_scrolled.ensures.within) box lies (scrolled_seen old now box c.note_scrolled.ensures.is_tree refl (subst (λ (numbers : List ℕ). AreSeenIn box numbers old now) (sym same) seen))) same)
