use Rattle.std.proofs.Common.{ap, sym, subst, ◌∙◌}
use Rattle.std.specs.Prelude.{Ok}
use Rattle.saved_state.specs.State.{decoded}
use Rattle.view_tree.specs.Views.{plain_of}
use Rattle.view_world.proofs.states.StateLaws.{rooted, state_kept}
use Rattle.view_world.specs.screen.Changed.{CarriesOut}
use Rattle.view_world.specs.screen.KeyedScreen.{KeyedScreen, world_of}
use Rattle.view_world.specs.screen.Sound.{keyed}
use Rattle.view_world.specs.world.Step.{saved}
use Rattle.world_replies.specs.declared.response.Response.TheVariants as response
use Rattle.view_world.proofs.screen.Screen.save.Goals as goal

pub save-requires : goal.save-requires
save-requires c = c.self.invariant.offsets

pub returns-clause-changed : goal.returns-clause-changed
returns-clause-changed c =
    let old = keyed c.self.inside in
    let bytes = c.in_ok-bytes.bytes.items in
    let states = c.in_ok-states.states in
    let some = rooted c.self.inside.tree.tree c.root.result c.root.ensures.key c.if-is_none.ensures in
    subst (λ (w : KeyedScreen). CarriesOut (saved (world_of w) (plain_of w.views)) (record old { kept = states; saved = bytes }) (Ok response.State)) c.self.view_is
    (state_kept old bytes states some c.in_ok-bytes.ensures.bytes c.in_ok-bytes.ensures.back (ap decoded (sym c.as_slice.ensures.value) ∙ c.in_ok-states.ensures))
