use Rattle.std.proofs.Common.{arith}
use Rattle.seen_edits.proofs.DifferingLaws.{differing_most}
use Rattle.seen_edits.proofs.ShownLaws.{painted_picture, painted_shows}
use Rattle.seen_edits.proofs.painting.paint_damage.Goals as goal

pub returns-clause-picture : goal.returns-clause-picture
returns-clause-picture c =
    painted_picture c.args.surface.now c.paint.new.surface c.args.damage.now.rect c.args.tree.now c.requires (rw c.rect.ensures at c.paint.ensures.painted) c.size-in_rows.ensures.raster

pub returns-clause-shows : goal.returns-clause-shows
returns-clause-shows c =
    painted_shows c.args.surface.now c.paint.new.surface c.args.damage.now.rect c.args.tree.now c.requires (rw c.rect.ensures at c.paint.ensures.painted) c.new.result.rect

pub returns-clause-least : goal.returns-clause-least
returns-clause-least c =
    let few = differing_most c.args.surface.now c.paint.new.surface c.args.damage.now.rect _ c.size-was_in_rows.ensures.raster c.size-in_rows.ensures.raster (rw c.rect.ensures at c.paint.ensures.painted) in
    let least = rw c.rect.ensures at c.paint.ensures.least in
    omega arith
