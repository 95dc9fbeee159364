use Rattle.std.specs.Prelude.{length}
use Rattle.view_tree.specs.Rows.{ancestors}
use Rattle.seen_parts.proofs.climbing.+canvas_of.Given as goal

abbrev pub decreases-canvas_of : goal.decreases-canvas_of
decreases-canvas_of l = length (ancestors l.view l.tree.now.tree)
