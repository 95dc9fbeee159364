use Rattle.std.proofs.Common.{arith}
use Rattle.std.specs.Prelude.{◌∷◌}
use Rattle.window_stack.proofs.PaneLaws.{few}
use Rattle.window_stack.proofs.panes.put_on_top.Goals as goal

pub insert-requires : goal.insert-requires
insert-requires c = let most = few (c.args.pane ∷ c.args.panes.now.items) c.requires in omega arith
