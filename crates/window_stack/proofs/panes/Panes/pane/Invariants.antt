use Rattle.std.proofs.Common.{◌≡◌, drop}
use Rattle.window_stack.specs.PlainPanes.{pane_at}
use Rattle.window_stack.proofs.panes.Panes.pane.Given as goal

abbrev pub invariant-loop-pane : goal.invariant-loop-pane
invariant-loop-pane l = pane_at (drop l.pane-index l.pane-items) l.k ≡ pane_at l.self.panes l.k
