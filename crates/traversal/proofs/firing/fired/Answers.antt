use Rattle.std.proofs.Common.{sym}
use Rattle.view_tree.specs.Views.{geometry_of}
use Rattle.traversal.proofs.hooks.FiringLaws.{fired_none}
use Rattle.traversal.proofs.firing.fired.Goals as goal

pub returns-then-is_empty : goal.returns-then-is_empty
returns-then-is_empty c = rw (c.is_empty.ensures.empty.0 c.if-is_empty.true) (sym (fired_none (geometry_of c.args.tree.now)))
