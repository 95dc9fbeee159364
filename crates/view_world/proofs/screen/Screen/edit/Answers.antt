use Rattle.std.proofs.Common.{◌+◌, ◌≤◌, ap, sym, subst}
use Rattle.std.specs.Prelude.{Result}
use Rattle.damage_rect.specs.declared.bounding.Damage.{Damage}
use Rattle.tree_edits.specs.Applied.{numbered}
use Rattle.tree_edits.proofs.KeepLaws.{numbers_kept}
use Rattle.view_world.specs.screen.Changed.{CarriesOut}
use Rattle.view_world.specs.world.Step.{after_edit}
use Rattle.view_world.specs.screen.KeyedScreen.{KeyedScreen, world_of}
use Rattle.world_parts.specs.declared.fault.StepFault.{StepFault}
use Rattle.world_replies.specs.declared.response.Response.{Response}
use Rattle.view_world.specs.screen.Sound.{keyed}
use Rattle.view_world.proofs.worlds.FitLaws.{fits_applied}
use Rattle.view_world.proofs.worlds.SoundLaws.{result_stays, sound_stays}
use Rattle.view_world.proofs.worlds.WorldLaws.{Changed-edit, at_stage}
use Rattle.view_world.proofs.states.OffsetLaws.{offsets_edited}
use Rattle.std.specs.Prelude.{OnOk}
use Rattle.tree_edits.specs.Applied.{IsEdit}
use Rattle.view_world.proofs.frames.EditRest.{edit_keeps}
use Rattle.view_world.proofs.frames.RestLaws.{ok_any, responded}
use Rattle.view_world.specs.frames.Resting.{KeepsEdit}
use Rattle.view_world.proofs.screen.Screen.edit.Goals as goal

pub returns-clause-changed : goal.returns-clause-changed
returns-clause-changed c =
    let old = at_stage (keyed c.self.inside) c.self.inside.tree c.self.inside.stage in
    let new = at_stage (keyed c.self.inside) c.change-made.new.tree c.self.inside.stage in
    let edit = numbered c.self.inside.tree c.args.edit in
    let changed = Changed-edit (keyed c.self.inside) c.self.inside.stage c.self.inside.tree c.change-made.new.tree edit c.change-made.result c.change-made.ensures.applied in
    subst (λ (w : KeyedScreen). CarriesOut (after_edit (world_of w) (numbered w.views c.args.edit)) new c.respond.result) c.self.view_is
    (subst (λ (r : Result Response StepFault). CarriesOut (after_edit (world_of old) edit) new r) (sym c.respond.ensures) changed)

pub returns-clause-numbers : goal.returns-clause-numbers
returns-clause-numbers c =
    let few = numbers_kept c.self.inside.tree c.change-made.new.tree c.args.edit c.change-made.result c.change-made.ensures.kept c.change-made.ensures.unchanged in
    subst (λ (w : KeyedScreen). c.change-made.new.tree.next ≤ w.views.next + 1) c.self.view_is few

pub invariant_of-self : goal.invariant_of-self
invariant_of-self c =
    let stays = result_stays c.self.inside.tree c.change-made.new.tree c.args.edit c.self.inside.gesture c.change-made.result c.requires.leaves c.change-made.ensures.kept c.change-made.ensures.unchanged in
    let narrow = fits_applied c.self.inside.tree c.change-made.new.tree (numbered c.self.inside.tree c.args.edit) c.change-made.result c.change-made.ensures.applied c.change-made.ensures.unchanged c.self.invariant.narrow in
    sound_stays c.self.inside c.change-made.new.tree c.change-made.new.damage (rw c.size-window.ensures.value at c.change-made.ensures.shown) stays (c.change-made.ensures.consistent c.self.invariant.consistent) narrow
    (offsets_edited c.self.inside.tree c.change-made.new.tree c.args.edit c.change-made.result c.requires.scrolls c.change-made.ensures.applied c.change-made.ensures.unchanged c.self.invariant.offsets) c.self.invariant

pub returns-clause-keeps : goal.returns-clause-keeps
returns-clause-keeps c =
    let old = keyed c.self.inside in
    let new : KeyedScreen = record old { views = c.change-made.new.tree; damage = c.change-made.new.damage.rect } in
    let made = subst (λ (w : KeyedScreen). IsEdit w.views c.args.edit) (sym c.self.view_is) c.requires.edit in
    responded (KeepsEdit c.args.edit c.args.self.now new) c.change-made.result c.respond.result c.respond.ensures
    (subst (λ (w : KeyedScreen). OnOk c.change-made.result (KeepsEdit c.args.edit w new)) c.self.view_is
    (edit_keeps old c.change-made.new.tree c.change-made.new.damage.rect c.args.edit c.change-made.result c.recall_tree.ensures made c.change-made.ensures.applied c.change-made.ensures.kept c.change-made.ensures.asked c.change-made.ensures.measures c.requires.leaves
    (ok_any c.change-made.result c.recall_tree-2.ensures) (rw c.size-window.ensures.value at c.change-made.ensures.within) (λ unseen. ap (λ (damage : Damage). damage.rect) (c.change-made.ensures.unseen unseen))))
