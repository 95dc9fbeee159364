use Rattle.std.proofs.Common.{◌≡◌, drop}
use Rattle.window_stack.specs.PlainPanes.{pane_under}
use Rattle.window_stack.proofs.panes.Panes.pane_under.Given as goal

abbrev pub invariant-loop-pane : goal.invariant-loop-pane
invariant-loop-pane l = pane_under l.x l.y l.sizes (drop l.pane-index l.pane-items) ≡ pane_under l.x l.y l.sizes l.self.panes
