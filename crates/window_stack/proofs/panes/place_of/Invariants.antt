use Rattle.std.proofs.Common.{◌≡◌, ◌==◌, ◌≤◌, ◌+◌, ◌-◌, length, drop}
use Rattle.std.specs.List.{position_or_len}
use Rattle.window_stack.specs.declared.panes.Pane.{Pane}
use Rattle.window_stack.proofs.panes.place_of.Given as goal

abbrev pub invariant-loop-at : goal.invariant-loop-at
invariant-loop-at l = record {
  within : l.at ≤ length l.panes;
  left : l.at + position_or_len (λ (pane : Pane). pane.k == l.k) (drop l.at l.panes) ≡ position_or_len (λ (pane : Pane). pane.k == l.k) l.panes;
}

abbrev pub decreases-loop-at : goal.decreases-loop-at
decreases-loop-at l = length l.panes - l.at
