use Rattle.std.proofs.Common.{ap, sym, subst, ◌∙◌, ℕ, List, Bor, Option}
use Rattle.std.specs.Option.{option_map}
use Rattle.saved_state.specs.Restored.{Restates}
use Rattle.saved_state.specs.State.{decoded}
use Rattle.view_tree.specs.Views.{plain_of}
use Rattle.view_world.proofs.worlds.SoundLaws.{sound_restored}
use Rattle.view_world.proofs.states.StateLaws.{kept_taken, values_taken, rooted, text_taken}
use Rattle.view_world.specs.screen.Changed.{CarriesOut}
use Rattle.view_world.specs.screen.KeyedScreen.{KeyedScreen, world_of}
use Rattle.view_world.specs.screen.Sound.{keyed}
use Rattle.view_world.specs.world.Step.{taken_up}
use Rattle.view_world.proofs.states.RestoredAsked.{kept_keeps, ok_follows, text_keeps}
use Rattle.script_lines.specs.commands.PlainCommands.{Restore}
use Rattle.std.specs.Prelude.{OnOk}
use Rattle.view_world.specs.frames.Resting.{KeepsLine}
use Rattle.view_world.proofs.screen.Screen.restore.Goals as goal

pub returns-in_default-clause-changed : goal.returns-in_default-clause-changed
returns-in_default-clause-changed c =
    let old = keyed c.self.inside in
    let new : KeyedScreen = record old { views = c.take_up.new.tree } in
    let ens = c.take_up.ensures in
    let some = rooted c.self.inside.tree.tree c.root.result c.root.ensures.key c.if-is_none.ensures in
    let reported = kept_taken old new c.take_up.result some (values_taken old c.take_up.new.tree old.kept c.take_up.result ens.taken ens.plain ens.unchanged ens.restates ens.geometry) in
    subst (λ (w : KeyedScreen). CarriesOut (taken_up (world_of w) (plain_of w.views) (option_map (λ (text : Bor (List ℕ)). text.now) c.args.text)) new c.take_up.result) c.self.view_is
    (subst (λ (text : Option (Bor (List ℕ))). CarriesOut (taken_up (world_of old) (plain_of old.views) (option_map (λ (text : Bor (List ℕ)). text.now) text)) new c.take_up.result) (sym c.in_default.is) reported)

pub returns-clause-changed : goal.returns-clause-changed
returns-clause-changed c =
    let old = keyed c.self.inside in
    let new : KeyedScreen = record old { views = c.take_up-2.new.tree } in
    let ens = c.take_up-2.ensures in
    let some = rooted c.self.inside.tree.tree c.root.result c.root.ensures.key c.if-is_none.ensures in
    let reported =
    text_taken old new c.in-Some.digits.now c.in_ok-bytes.bytes.items c.in_ok-states.states c.take_up-2.result some c.in_ok-bytes.ensures.bytes
    (ap decoded (sym c.as_slice.ensures.value) ∙ c.in_ok-states.ensures)
    (values_taken old c.take_up-2.new.tree c.in_ok-states.states c.take_up-2.result ens.taken ens.plain ens.unchanged ens.restates ens.geometry) in
    subst (λ (w : KeyedScreen). CarriesOut (taken_up (world_of w) (plain_of w.views) (option_map (λ (text : Bor (List ℕ)). text.now) c.args.text)) new c.take_up-2.result) c.self.view_is
    (subst (λ (text : Option (Bor (List ℕ))). CarriesOut (taken_up (world_of old) (plain_of old.views) (option_map (λ (text : Bor (List ℕ)). text.now) text)) new c.take_up-2.result) (sym c.in-Some.is) reported)

pub returns-in_default-clause-keeps : goal.returns-in_default-clause-keeps
returns-in_default-clause-keeps c =
    let old = keyed c.self.inside in
    let new : KeyedScreen = record old { views = c.take_up.new.tree; damage = c.take_up.new.damage.rect } in
    let reported =
    ok_follows c.take_up.result
    (λ (reported : Restates old.kept old.views c.take_up.new.tree).
    kept_keeps old c.take_up.new.tree c.take_up.new.damage.rect c.recall_tree.ensures c.take_up.ensures.counts c.take_up.ensures.asked c.take_up.ensures.is_tree reported (rw c.size-window.ensures.value at c.take_up.ensures.within))
    c.take_up.ensures.restates in
    subst (λ (w : KeyedScreen). OnOk c.take_up.result (KeepsLine (Restore (option_map (λ (text : Bor (List ℕ)). text.now) c.args.text)) w new)) c.self.view_is
    (subst (λ (text : Option (Bor (List ℕ))). OnOk c.take_up.result (KeepsLine (Restore (option_map (λ (text : Bor (List ℕ)). text.now) text)) old new)) (sym c.in_default.is) reported)

pub returns-clause-keeps : goal.returns-clause-keeps
returns-clause-keeps c =
    let old = keyed c.self.inside in
    let new : KeyedScreen = record old { views = c.take_up-2.new.tree; damage = c.take_up-2.new.damage.rect } in
    let entries = c.in_ok-states.states in
    let read = ap decoded (sym c.in_ok-bytes.ensures.bytes ∙ sym c.as_slice.ensures.value) ∙ c.in_ok-states.ensures in
    let reported =
    ok_follows c.take_up-2.result
    (λ (reported : Restates entries old.views c.take_up-2.new.tree).
    text_keeps old c.take_up-2.new.tree c.take_up-2.new.damage.rect entries c.in-Some.digits.now read c.recall_tree.ensures c.take_up-2.ensures.counts c.take_up-2.ensures.asked c.take_up-2.ensures.is_tree reported
    (rw c.size-window.ensures.value at c.take_up-2.ensures.within))
    c.take_up-2.ensures.restates in
    subst (λ (w : KeyedScreen). OnOk c.take_up-2.result (KeepsLine (Restore (option_map (λ (text : Bor (List ℕ)). text.now) c.args.text)) w new)) c.self.view_is
    (subst (λ (text : Option (Bor (List ℕ))). OnOk c.take_up-2.result (KeepsLine (Restore (option_map (λ (text : Bor (List ℕ)). text.now) text)) old new)) (sym c.in-Some.is) reported)

pub invariant_of-self : goal.invariant_of-self
invariant_of-self c =
    let ens = c.take_up.ensures in
    sound_restored c.self.inside c.take_up.new.tree c.take_up.new.damage (keyed c.self.inside).kept c.take_up.result (rw c.size-window.ensures.value at ens.shown) ens.restates ens.unchanged ens.geometry
    (ens.consistent c.self.invariant.consistent) (ens.fits c.self.invariant.offsets) c.self.invariant

pub invariant_of-self-2 : goal.invariant_of-self-2
invariant_of-self-2 c =
    let ens = c.take_up-2.ensures in
    sound_restored c.self.inside c.take_up-2.new.tree c.take_up-2.new.damage c.in_ok-states.states c.take_up-2.result (rw c.size-window.ensures.value at ens.shown) ens.restates ens.unchanged ens.geometry
    (ens.consistent c.self.invariant.consistent) (ens.fits c.self.invariant.offsets) c.self.invariant
