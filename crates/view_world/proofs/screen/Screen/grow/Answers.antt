use Rattle.std.proofs.Common.{◌≡◌, ◌∙◌, ℕ, arith, ap, refl, sym, subst}
use Rattle.std.specs.Prelude.{◌==◌, ◌||◌, Result, ℤ}
use Rattle.std.proofs.lemmas.Int.{to_z-of_z}
use mir.Syntax.{w32}
use mir.Val.{of_z, to_z}
use Rattle.std.specs.Option.{option_map}
use Rattle.touch_dispatch.specs.gesture.Kept.{is_open}
use Rattle.tree_edits.specs.Applied.{IsAddable}
use Rattle.tree_edits.specs.Editing.{Add, new_view}
use Rattle.tree_edits.specs.Keeping.{KeepsViews}
use Rattle.tree_edits.specs.declared.edits.Edit.TheVariants as edit
use Rattle.view_model.specs.Directed.{rtl_at, running}
use Rattle.view_tree.specs.Views.{number_of, plain_of}
use Rattle.view_world.proofs.worlds.FitLaws.{fits_applied}
use Rattle.view_world.proofs.edits.GrownShown.{nowhere_next, shown_come}
use Rattle.pixel_raster.specs.Raster.{size_of}
use Rattle.view_model.specs.PlainTree.{single}
use Rattle.view_world.proofs.edits.GrowingLaws.{addable_root, carried_with, failed, grown_as, grown_nowhere, plain_root, made_well, on_err, place_back, refused_still, same_world, sound_grown, sound_same}
use Rattle.world_parts.proofs.edits.OpeningLaws.{done}
use Rattle.view_world.proofs.worlds.WorldLaws.{Changed-edit, at_stage}
use Rattle.world_parts.specs.Places.{hooks_in}
use Rattle.view_world.specs.screen.Changed.{CarriesOut}
use Rattle.view_world.specs.screen.KeyedScreen.{KeyedScreen, world_of}
use Rattle.view_world.specs.screen.Changed.{response_of}
use Rattle.view_world.specs.screen.Sound.{keyed}
use Rattle.view_world.specs.world.Step.{after_edit}
use Rattle.world_parts.specs.declared.fault.StepFault.{StepFault}
use Rattle.world_replies.specs.declared.response.Response.{Response}
use Rattle.view_world.proofs.states.OffsetLaws.{offsets_edited}
use Rattle.view_world.proofs.frames.EditRest.{loud_keeps}
use Rattle.view_world.proofs.edits.LeaveLaws.{scrolls_none}
use Rattle.view_world.proofs.frames.RestLaws.{ok_any}
use Rattle.view_world.specs.frames.Resting.{KeepsEdit}
use Rattle.std.specs.Prelude.{OnOk}
use Rattle.view_world.proofs.screen.Screen.grow.Goals as goal
use Rattle.view_world.proofs.screen.Screen.grow.Goals.{then-is_err, else-is_err}

pub invariant_of-self-then-is_err : goal.invariant_of-self-then-is_err
invariant_of-self-then-is_err c =
    let a = c.self.inside in
    let sound = c.self.invariant in
    let tree = failed (c.apply-made.new.tree ≡ a.tree) c.apply-made.result c.if-is_err.ensures.value c.apply-made.ensures.unchanged in
    let gesture =
    place_back a.tree a.gesture c.open.new.self c.close.new.self c.next_number-number.result c.recall_tree.ensures sound.caught sound.closed c.next_number-number.ensures
    c.in_ok-open.ensures.added c.in_ok-open.ensures.unknown c.close.ensures.last in
    let room = c.in_ok-reserve.ensures.room in
    let len = c.len.ensures.value in
    sound_same a c.apply-made.new.tree c.close.new.self c.reserve.new.self c.make_hooks.new.hooks tree gesture (omega (arith, room, len)) c.in_ok-make_hooks.ensures.made sound

pub invariant_of-self-else-is_err : goal.invariant_of-self-else-is_err
invariant_of-self-else-is_err c =
    let a = c.self.inside in
    let sound = c.self.invariant in
    let ok = c.if-is_err.ensures.value in
    let addable = subst (λ (w : KeyedScreen). IsAddable w.views c.args.parent) (sym c.self.view_is) c.requires in
    let width = to_z w32 (of_z w32 c.args.width) in
    let height = to_z w32 (of_z w32 c.args.height) in
    let keeps = done (KeepsViews a.tree c.apply-made.new.tree (edit.Add c.args.parent c.args.class width height)) c.apply-made.result ok c.apply-made.ensures.kept in
    let opened : (other : ℕ) → is_open c.open.new.self other ≡ (is_open a.gesture other || other == a.tree.next) =
    λ other. c.in_ok-open.ensures.opened other ∙ ap (λ n. is_open a.gesture other || other == n) c.next_number-number.ensures in
    let room = c.in_ok-reserve.ensures.room in
    let len = c.len.ensures.value in
    sound_grown a c.apply-made.new.tree c.open.new.self c.reserve.new.self c.make_hooks.new.hooks c.args.parent c.args.class width height c.self.invariant c.recall_tree.ensures addable
    (c.apply-made.ensures.consistent c.self.invariant.consistent) keeps
    (grown_as a.tree c.apply-made.new.tree c.args.parent c.args.class width height c.apply-made.result ok c.apply-made.ensures.applied)
    c.open.ensures.gesture opened (omega (arith, room, len)) c.in_ok-make_hooks.ensures.made
    (fits_applied a.tree c.apply-made.new.tree (Add (option_map (number_of a.tree) c.args.parent) c.args.class width height) c.apply-made.result c.apply-made.ensures.applied c.apply-made.ensures.unchanged sound.narrow)
    (offsets_edited a.tree c.apply-made.new.tree (edit.Add c.args.parent c.args.class width height) c.apply-made.result tt c.apply-made.ensures.applied c.apply-made.ensures.unchanged sound.offsets)
    (shown_come (size_of a.surface) a.damage.rect a.tree c.apply-made.new.tree (option_map (number_of a.tree) c.args.parent)
    (single (running (rtl_at (option_map (number_of a.tree) c.args.parent) (plain_of a.tree)) (new_view a.tree.next c.args.class width height)))
    (nowhere_next a.tree a.tree.next c.recall_tree.ensures (omega arith), tt, tt) (plain_root a.tree c.args.parent (addable_root a.tree c.args.parent addable))
    (grown_as a.tree c.apply-made.new.tree c.args.parent c.args.class width height c.apply-made.result ok c.apply-made.ensures.applied)
    (grown_nowhere a.tree c.apply-made.new.tree c.args.parent c.args.class width height c.apply-made.result ok c.apply-made.ensures.applied))

pub returns-clause-unchanged : goal.returns-clause-unchanged
returns-clause-unchanged c =
    elim c.if-is_err.branch [
      | then-is_err w ↦
          let a = c.self.inside in
          let sound = c.self.invariant in
          let tree = failed (c.apply-made.new.tree ≡ a.tree) c.apply-made.result w.if-is_err.ensures.value c.apply-made.ensures.unchanged in
          let gesture =
          place_back a.tree a.gesture c.open.new.self w.close.new.self c.next_number-number.result c.recall_tree.ensures sound.caught sound.closed c.next_number-number.ensures
          c.in_ok-open.ensures.added c.in_ok-open.ensures.unknown w.close.ensures.last in
          on_err (c.if-is_err.self ≡ c.args.self.now) c.respond.result
          (w.self-is ∙ same_world (keyed a) c.apply-made.new.tree w.close.new.self c.reserve.new.self.entries.items (hooks_in c.make_hooks.new.hooks) tree gesture c.reserve.ensures.same c.make_hooks.ensures.same ∙ c.self.view_is)
      | else-is_err w ↦ made_well (c.if-is_err.self ≡ c.args.self.now) c.apply-made.result c.respond.result w.if-is_err.ensures.value c.respond.ensures
    ]

pub returns-clause-changed : goal.returns-clause-changed
returns-clause-changed c =
    let a = c.self.inside in
    let old = at_stage (keyed a) a.tree a.stage in
    let now = at_stage (keyed a) c.apply-made.new.tree a.stage in
    let made = Add (option_map (number_of a.tree) c.args.parent) c.args.class c.args.width c.args.height in
    let wide = to_z w32 (of_z w32 c.args.width) in
    let high = to_z w32 (of_z w32 c.args.height) in
    let reported = λ (width : ℤ) (height : ℤ). CarriesOut (after_edit (world_of old) (Add (option_map (number_of a.tree) c.args.parent) c.args.class width height)) now (response_of c.apply-made.result) in
    let changed : reported c.args.width c.args.height =
    subst (reported c.args.width) (to_z-of_z w32 c.args.height c.ranges.height)
    (subst (λ width. reported width high) (to_z-of_z w32 c.args.width c.ranges.width)
    (Changed-edit (keyed a) a.stage a.tree c.apply-made.new.tree (Add (option_map (number_of a.tree) c.args.parent) c.args.class wide high) c.apply-made.result c.apply-made.ensures.applied)) in
    subst (λ (w : KeyedScreen). CarriesOut (after_edit (world_of w) (Add (option_map (number_of w.views) c.args.parent) c.args.class c.args.width c.args.height)) c.if-is_err.self c.respond.result) c.self.view_is
    (subst (λ (r : Result Response StepFault). CarriesOut (after_edit (world_of old) made) c.if-is_err.self r) (sym c.respond.ensures)
    (elim c.if-is_err.branch [
      | then-is_err w ↦ refused_still (after_edit (world_of old) made) now c.if-is_err.self c.apply-made.result w.if-is_err.ensures.value changed
      | else-is_err w ↦
          subst (λ (n : KeyedScreen). CarriesOut (after_edit (world_of old) made) n (response_of c.apply-made.result)) (sym w.self-is)
          (carried_with (after_edit (world_of old) made) now c.open.new.self c.reserve.new.self.entries.items (hooks_in c.make_hooks.new.hooks) (response_of c.apply-made.result) c.open.ensures.gesture c.reserve.ensures.same
          c.make_hooks.ensures.same changed)
    ]))

pub returns-clause-keeps : goal.returns-clause-keeps
returns-clause-keeps c =
    let a = c.self.inside in
    let old = keyed a in
    let made = edit.Add c.args.parent c.args.class c.args.width c.args.height in
    let addable = subst (λ (w : KeyedScreen). IsAddable w.views c.args.parent) (sym c.self.view_is) c.requires in
    let P : KeyedScreen → KeyedScreen → Type 0 = λ w new. OnOk c.respond.result (KeepsEdit made w new) in
    subst (λ (w : KeyedScreen). P w c.if-is_err.self) c.self.view_is (elim c.if-is_err.branch [
      | then-is_err w ↦
          let new : KeyedScreen = record old { views = c.apply-made.new.tree; gesture = w.close.new.self; reported = c.reserve.new.self.entries.items; hooks = hooks_in c.make_hooks.new.hooks } in
          subst (P old) (sym w.self-is)
          (ok_any c.respond.result (loud_keeps old new a.tree made refl c.recall_tree.ensures addable (scrolls_none a.tree) c.apply-made.ensures.asked c.apply-made.ensures.measures (λ box lies seen. lies) refl refl))
      | else-is_err w ↦
          let new : KeyedScreen = record old { views = c.apply-made.new.tree; gesture = c.open.new.self; reported = c.reserve.new.self.entries.items; hooks = hooks_in c.make_hooks.new.hooks } in
          subst (P old) (sym w.self-is)
          (ok_any c.respond.result (loud_keeps old new a.tree made refl c.recall_tree.ensures addable (scrolls_none a.tree) c.apply-made.ensures.asked c.apply-made.ensures.measures (λ box lies seen. lies) refl refl))
    ])
