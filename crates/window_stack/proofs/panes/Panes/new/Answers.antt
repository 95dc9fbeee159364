use Rattle.std.proofs.Common.{sym, subst}
use Rattle.window_stack.specs.PlainPanes.{IsStack}
use Rattle.std.specs.Prelude.{List, None}
use Rattle.window_stack.specs.declared.panes.Pane.{Pane}
use Rattle.window_stack.proofs.panes.Panes.new.Goals as goal

pub invariant_of-result : goal.invariant_of-result
invariant_of-result c = subst (λ (panes : List Pane). IsStack (record { panes = panes; holder = None })) (sym c.new.ensures) (record { once = tt; held = tt })
