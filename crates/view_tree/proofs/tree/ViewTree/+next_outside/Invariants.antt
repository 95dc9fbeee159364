use Rattle.std.proofs.Common.{length}
use Rattle.view_tree.specs.Rows.{ancestors}
use Rattle.view_tree.proofs.tree.ViewTree.+next_outside.Given as goal

-- the views around this one
abbrev pub decreases-next_outside : goal.decreases-next_outside
decreases-next_outside l = length (ancestors l.view l.self.now.tree)
