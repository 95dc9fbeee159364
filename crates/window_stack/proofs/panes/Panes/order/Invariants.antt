use Rattle.std.proofs.Common.{◌≡◌, take}
use Rattle.std.specs.Prelude.{map}
use Rattle.window_stack.specs.declared.panes.Pane.{Pane}
use Rattle.window_stack.proofs.panes.Panes.order.Given as goal

abbrev pub invariant-loop-pane : goal.invariant-loop-pane
invariant-loop-pane l = l.order.items ≡ map (λ (pane : Pane). pane.k) (take l.pane-index l.pane-items)
