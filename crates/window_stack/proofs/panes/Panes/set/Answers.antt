use Rattle.std.proofs.Common.{◌≡◌, ◌∙◌, ap, length, sym, subst, List, w32, to_z, of_z}
use Rattle.std.specs.List.{refill}
use Rattle.std.specs.Prelude.{map}
use Rattle.window_stack.specs.PlainPanes.{IsStack, placed}
use Rattle.window_stack.specs.declared.panes.Pane.{Pane}
use Rattle.window_stack.proofs.PaneLaws.{stack_placed, refill-all}
use Rattle.window_stack.proofs.panes.Panes.set.Goals as goal

pub invariant_of-self : goal.invariant_of-self
invariant_of-self c =
    let to : Pane = record { k = c.args.k; x = to_z w32 (of_z w32 c.args.x); y = to_z w32 (of_z w32 c.args.y) } in
    let same = c.place_in.auto.panes ∙ ap length c.as_mut_slice.ensures.value in
    let now : refill (length c.self.inside.panes.items) c.self.inside.panes.items c.place_in.new.panes ≡ map (placed to) c.self.inside.panes.items =
    refill-all c.self.inside.panes.items c.place_in.new.panes same ∙ c.place_in.ensures ∙ ap (map (placed to)) c.as_mut_slice.ensures.value in
    subst (λ (l : List Pane). IsStack (record { panes = l; holder = c.self.inside.holder })) (sym now) (stack_placed c.self.inside.holder to c.self.inside.panes.items c.self.invariant)
