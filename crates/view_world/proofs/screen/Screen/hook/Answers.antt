use Rattle.std.proofs.Common.{◌≡◌, ℕ, true, ap, sym, subst, ◌∙◌}
use Rattle.std.specs.Prelude.{Some}
use Rattle.script_lines.specs.reading.Hooks.{edits_written}
use Rattle.view_tree.specs.Views.{number_of, plain_of}
use Rattle.view_world.specs.screen.KeyedScreen.{KeyedScreen, world_of}
use Rattle.view_world.specs.screen.Sound.{keyed}
use Rattle.view_world.specs.world.Step.{hook_asked, hooked, numbered_edits}
use Rattle.view_world.proofs.edits.HookLaws.{are_made, asked_well}
use Rattle.view_world.proofs.worlds.WorldLaws.{Changed-as, Changed-on}
use Rattle.view_world.proofs.screen.Screen.hook.Goals as goal

pub returns-clause-changed : goal.returns-clause-changed
returns-clause-changed c =
    let old = keyed c.self.inside in
    let now = c.args.self.now in
    let asked = edits_written c.args.edits.now in
    let edits = c.in-Some.edits.items in
    let number = number_of now.views c.in_ok-view.view in
    let found : numbered_edits (plain_of old.views) asked ≡ Some edits = ap (numbered_edits (plain_of old.views)) (sym c.edits_written-asked.ensures ∙ sym c.as_slice.ensures.value) ∙ sym c.in-Some.ensures in
    let all : are_made (plain_of old.views) edits ≡ true = ap (are_made (plain_of old.views)) (sym c.as_slice-2.ensures.value) ∙ sym c.may_change_all.ensures ∙ c.if-not-may_change_all.false in
    let well = subst (λ (w : KeyedScreen). hook_asked (world_of w) number c.args.bad (numbered_edits (plain_of w.views) asked) ≡ hooked (world_of w) number edits) c.self.view_is
    (asked_well (world_of old) number c.args.bad (numbered_edits (plain_of old.views) asked) edits found all c.if-bad.false) in
    Changed-on c.self.inside.tree now c.arm.new.self c.args.view c.in_ok-view.view (λ (n : ℕ). hook_asked (world_of now) n c.args.bad (numbered_edits (plain_of now.views) asked)) c.arm.result
    (ap (λ (w : KeyedScreen). w.views) c.self.view_is) c.in_ok-view.ensures.1 (Changed-as _ _ c.arm.new.self c.arm.result well c.arm.ensures.changed)
