use Rattle.std.proofs.Common.{◌≡◌, [], true, false, refl, sym, subst, ap, ◌∙◌}
use Rattle.std.specs.Prelude.{Err, None, Ok, Result, length}
use Rattle.size_hooks.specs.Hooks.{hook_of}
use Rattle.view_model.specs.Numbers.{max_hooks}
use Rattle.view_tree.specs.Views.{number_of}
use Rattle.view_world.specs.screen.Changed.{CarriesOut}
use Rattle.view_world.specs.screen.KeyedScreen.{KeyedScreen, geometry_in, world_of}
use Rattle.view_world.specs.screen.Sound.{keyed}
use Rattle.world_parts.specs.Reply.{Refused}
use Rattle.view_world.specs.world.Step.{hooked, size_in}
use Rattle.world_parts.specs.declared.fault.StepFault.{StepFault}
use Rattle.world_parts.specs.declared.fault.StepFault.TheVariants as fault
use Rattle.world_replies.specs.declared.response.Response.{Response}
use Rattle.world_replies.specs.declared.response.Response.TheVariants as response
use Rattle.view_world.proofs.edits.HookLaws.{armed_world, full_world}
use Rattle.std.specs.Prelude.{OnOk}
use Rattle.view_world.proofs.frames.RestLaws.{armed_keeps}
use Rattle.view_world.specs.frames.Resting.{KeepsBut}
use Rattle.view_world.specs.declared.world.marks.Effect.TheVariants.{Leaves}
use Rattle.view_world.proofs.screen.Screen.arm.Goals.{in-Ok, in-Err}
use Rattle.view_world.proofs.worlds.SoundLaws.{with_table}
use Rattle.view_world.proofs.screen.Screen.arm.Goals as goal

pub returns-clause-changed : goal.returns-clause-changed
returns-clause-changed c =
    let old : KeyedScreen = record (keyed c.self.inside) { hooks = c.deref_mut.result.now } in
    let same = with_table c.self.inside c.in-Some.hooks c.deref_mut.result.now c.in-Some.is c.deref_mut.ensures.value ∙ c.self.view_is in
    let new : KeyedScreen = record old { hooks = c.arm.new.self } in
    let edits = c.args.edits.now.items in
    let number = c.number.result in
    let named = c.number.ensures.value in
    let size : c.size_at-reported.result ≡ size_in (geometry_in old.stage old.views) number = c.size_at-reported.ensures ∙ ap (size_in (geometry_in old.stage old.views)) (sym named) in
    let Q : Result Response StepFault → Type 0 = λ result. CarriesOut (hooked (world_of c.args.self.now) (number_of c.args.self.now.views c.args.view) edits) new result in
    let seen : (result : Result Response StepFault) → CarriesOut (hooked (world_of old) number edits) new result → Q result =
    λ result changed.
    subst (λ (w : KeyedScreen). CarriesOut (hooked (world_of w) (number_of w.views c.args.view) edits) new result) same
    (subst (λ n. CarriesOut (hooked (world_of old) n edits) new result) named changed) in
    elim c.match-arm.branch [
      | in-Ok w ↦
          let room : (length old.hooks ≡ max_hooks) × (hook_of old.hooks number ≡ None) → ⊥ = λ both. let f : false ≡ true = w.in-Ok.ensures.full.1 both in cc in
          subst Q (sym w.result-is) (seen (Ok response.Nothing) (armed_world old c.arm.new.self number c.size_at-reported.result edits size w.in-Ok.ensures.hooks room, tt))
      | in-Err w ↦
          subst Q (sym w.result-is) (seen (Err (fault.Refused w.plain.result)) (full_world old number edits (w.in-Err.ensures.full.0 refl) ∙ ap Refused (sym w.plain.ensures)))
    ]

pub returns-clause-keeps : goal.returns-clause-keeps
returns-clause-keeps c =
    let old : KeyedScreen = record (keyed c.self.inside) { hooks = c.deref_mut.result.now } in
    let same = with_table c.self.inside c.in-Some.hooks c.deref_mut.result.now c.in-Some.is c.deref_mut.ensures.value ∙ c.self.view_is in
    let new : KeyedScreen = record old { hooks = c.arm.new.self } in
    let number = c.number.result in
    let size : c.size_at-reported.result ≡ size_in (geometry_in old.stage old.views) number = c.size_at-reported.ensures ∙ ap (size_in (geometry_in old.stage old.views)) (sym c.number.ensures.value) in
    let P : Result Response StepFault → Type 0 = λ result. OnOk result (KeepsBut Leaves [] [] [] c.args.self.now new) in
    elim c.match-arm.branch [
      | in-Ok w ↦
          subst P (sym w.result-is) (subst (λ (s : KeyedScreen). KeepsBut Leaves [] [] [] s new) same
          (armed_keeps old c.arm.new.self (record { view = number; reported = c.size_at-reported.result; edits = c.args.edits.now.items }) c.recall_tree.ensures w.in-Ok.ensures.hooks size))
      | in-Err w ↦ subst P (sym w.result-is) tt
    ]
