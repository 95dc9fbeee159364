use Rattle.std.proofs.Common.{◌∙◌, Bor, ap, sym, w32}
use Rattle.std.proofs.lemmas.Int.{to_z-of_z}
use Rattle.std.specs.Option.{option_map}
use Rattle.std.specs.Prelude.{Some}
use Rattle.stack_worlds.proofs.ComposedLaws.{black_there, color_same, color_there}
use Rattle.stack_worlds.proofs.stack.Stack.color_in.Goals as goal
use Rattle.stack_worlds.specs.KeptStack.{KeyedStack}
use Rattle.stack_worlds.specs.PlainStack.{color_from}
use Rattle.view_world.specs.world.KeyedWorld.{KeyedWorld, world_of}
use Rattle.window_stack.specs.PlainPanes.{corner_of}

pub returns-in-Some : goal.returns-in-Some
returns-in-Some c =
    let there = sym c.world.ensures ∙ ap (option_map (λ (w : Bor KeyedWorld). w.now)) c.in-Some.is in
    c.color_from.ensures
    ∙ color_same c.corner.result _ _ c.args.x c.args.y (Some (world_of c.in-Some.world.now)) (to_z-of_z w32 c.args.x c.ranges.x) (to_z-of_z w32 c.args.y c.ranges.y)
    ∙ ap (λ corner. color_from corner c.args.x c.args.y (Some (world_of c.in-Some.world.now))) (c.corner.ensures ∙ ap (λ (s : KeyedStack). corner_of s.panes c.args.k) c.self.view_is)
    ∙ color_there c.args.self.now c.args.k c.in-Some.world.now c.args.x c.args.y there

pub returns-in-None : goal.returns-in-None
returns-in-None c = black_there c.args.self.now c.args.k c.args.x c.args.y (sym c.world.ensures ∙ ap (option_map (λ (w : Bor KeyedWorld). w.now)) c.in-None.is)
