use Rattle.std.proofs.Common.{length, ◌+◌, ◌*◌}
use Rattle.view_tree.specs.Rows.{ancestors}
use Rattle.view_tree.proofs.tree.ViewTree.+request.Given as goal

-- a round from a view to its parent goes through both functions
abbrev pub decreases-request : goal.decreases-request
decreases-request l = 2 * length (ancestors l.view l.self.now.tree) + 1

abbrev pub decreases-request_above : goal.decreases-request_above
decreases-request_above l = 2 * length (ancestors l.view l.self.now.tree)
