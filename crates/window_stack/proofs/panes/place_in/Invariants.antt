use Rattle.window_stack.proofs.PaneLaws.{PlacedUpTo}
use Rattle.window_stack.proofs.panes.place_in.Given as goal

abbrev pub invariant-loop-pane : goal.invariant-loop-pane
invariant-loop-pane l = PlacedUpTo l.to l.fn.panes l.panes l.pane-index
