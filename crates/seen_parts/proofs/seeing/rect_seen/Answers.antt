use Rattle.seen_parts.proofs.SeeingLaws.{moved_of, none_is_meet, part_is_meet}
use Rattle.view_model.specs.Visible.{moved_rect}
use Rattle.std.proofs.Common.{◌∙◌}
use Rattle.seen_parts.proofs.seeing.rect_seen.Goals as goal

pub returns-in-None : goal.returns-in-None
returns-in-None c =
    c.nowhere.ensures
    ∙ none_is_meet (moved_rect c.args.bounds c.args.canvas.left c.args.canvas.top) c.args.canvas.clip c.moved.result (moved_of c.args.bounds c.args.canvas c.moved.result c.moved.ensures.moved) c.in-None.ensures.points

pub returns-in-Some : goal.returns-in-Some
returns-in-Some c =
    part_is_meet (moved_rect c.args.bounds c.args.canvas.left c.args.canvas.top) c.args.canvas.clip c.moved.result c.in-Some.part (moved_of c.args.bounds c.args.canvas c.moved.result c.moved.ensures.moved) c.in-Some.ensures.edges
