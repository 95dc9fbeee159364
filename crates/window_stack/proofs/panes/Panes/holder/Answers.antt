use Rattle.window_stack.proofs.PaneLaws.{name_held}
use Rattle.window_stack.proofs.panes.Panes.holder.Goals as goal

pub returns-clause-name : goal.returns-clause-name
returns-clause-name c = name_held c.self.inside.holder c.self.inside.panes.items c.self.invariant.once c.self.invariant.held
